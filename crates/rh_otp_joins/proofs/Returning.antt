-- A node comes back to nodes that are up and at rest, and by every order to one state.
use Rattle.std.proofs.Common.{◌≡◌, ◌≢◌, ◌≤◌, ◌⊎◌, ◌+◌, ◌++◌, ℕ, suc, Bool, true, false, cond, List, [], map, filter, length, unwrap_or, Option, Some, None, refl, sym, ap, subst, ◌∙◌, inl, inr, arith}
use Rattle.std.specs.Option.{option_map}
use Rattle.std.proofs.lemmas.Bool.{false≢true, cases_Bool}
use Rattle.std.proofs.lemmas.List.{append-nil}
use Rattle.std.proofs.lemmas.Option.{none-some, same_Some}
use Rattle.rh_model.specs.ClusterView.{mandatory_of, optional_of, node_count, app_count}
use Rattle.rh_model.specs.declared.node.App.{App}
use Rattle.rh_model.specs.declared.node.Node.{Node}
use Rattle.rh_otp_dist.specs.declared.state.Stand.TheVariants as stand
use Rattle.rh_otp_dist.specs.State.{DistView, beginning, may_run}
use Rattle.rh_otp_net.specs.Links.{are_linked, linked_with}
use Rattle.rh_otp_node.specs.Live.{LiveView, never_begun, own_flags, is_alive}
use Rattle.rh_history.specs.Draft.{DraftView}
use Rattle.rh_otp_system.specs.declared.cell.Cell.{Cell}
use Rattle.rh_otp_system.specs.declared.cell.Cell.TheVariants as cell
use Rattle.rh_otp_system.specs.Doing.{booted}
use Rattle.rh_otp_system.specs.Joining.{join}
use Rattle.rh_otp_system.specs.Moves.{Reaches}
use Rattle.rh_otp_system.specs.State.{SystemView, live_at, node_at, own_at, is_alive_at, has_dist_at}
use Rattle.rh_otp_laws.specs.Acting.{IsReached}
use Rattle.rh_otp_laws.proofs.Nodes.{there_written, others_as_they_were, alive_is_there}
use Rattle.rh_otp_orders.proofs.Same.{cell_at}
use Rattle.rh_otp_crashes.specs.Crashes.{IsUnoccupied, AreAtRest}
use Rattle.rh_otp_crashes.proofs.Turning.{own_in, node_is, is_idle}
use Rattle.rh_otp_locks.proofs.Locks.{none_at_rest}
use Rattle.rh_otp_joins.specs.Joins.{ComesBack, HasJoined, uncounted, JoinsComeToOneState}
use Rattle.rh_otp_joins.specs.Leading.{LeadsTo}
use Rattle.rh_otp_joins.proofs.Arriving.{IsSteady, steady_leads, steady_ends}
use Rattle.rh_otp_joins.proofs.Going.{the_others}
use Rattle.rh_otp_joins.proofs.Introducing.{learn_all}
use Rattle.rh_otp_joins.proofs.Joining.{joined_live, joined_base, join_so, go_if, Idles, idle_end, idles_steadily}
use Rattle.rh_otp_joins.proofs.Landing.{new_live, IsAwake, Landed, has_joined}
use Rattle.rh_otp_joins.proofs.Beginning.{Begun, has_begun}
use Rattle.rh_otp_joins.proofs.Lists.{count_of, count_filtered, passes}
use Rattle.rh_otp_joins.proofs.Opened.{up_letter, Ready, opening, Opens, opens_steadily}
use Rattle.rh_otp_joins.proofs.Seeing.{seen_linked, linked_back}
use Rattle.rh_otp_joins.proofs.Settling.{at_end, ends_as, ends_so, last_live}
use Rattle.rh_otp_joins.proofs.Permitted.{may_in, has_told, none_before}
use Rattle.rh_otp_joins.proofs.Stages.{Other, Stage, met_in, is_met, node_of, told_in, first}
use Rattle.rh_otp_joins.proofs.Tokens.{asks, weight_of, total}
use Rattle.rh_otp_joins.proofs.Waiting.{waiting_as, Waits, on_with, never_ends, waits_steadily}

-- ---- what stands behind its wait

base_of : {n : Node} {s : SystemView} → Begun n s → SystemView
base_of {n} {s} f = joined_base n (new_live n s) f.q

-- the node, before it joins
there_in : (n : Node) (s : SystemView) → ComesBack n s → (f : Begun n s) → live_at f.q n ≡ Some (new_live n s)
there_in n s back f =
    ap (λ (x : DraftView Cell). live_at (record s { nodes = x }) n) f.nodes ∙ there_written s n back.there.0 (new_live n s) back.there.1

-- another node is as it was
other_in : {n : Node} {s : SystemView} (m : Node) → m.0 ≢ n.0 → (f : Begun n s) → live_at (base_of f) m ≡ live_at s m
unfolding base_of
other_in {n} {s} m apart f =
    others_as_they_were f.q n m (joined_live (new_live n s)) apart
    ∙ ap (λ (x : DraftView Cell). live_at (record s { nodes = x }) m) f.nodes
    ∙ others_as_they_were s n m (new_live n s) apart

idle_in : (o : Option DistView) → option_map (λ (d : DistView). d.stand) o ≡ Some stand.Idle → (d : DistView) × (o ≡ Some d) × (d.stand ≡ stand.Idle)
idle_in None is = absurd (none-some stand.Idle is)
idle_in (Some d) is = (d, refl, same_Some d.stand stand.Idle is)

-- those to which it introduces itself are among those that it sees
among_seen : (n : Node) (s : SystemView) (f : Begun n s) (m : Node) → 1 ≤ count_of m (the_others n (base_of f))
    → 1 ≤ count_of m (linked_with n f.q.links)
unfolding base_of
among_seen n s f m among =
    let all : List Node = linked_with n f.q.links in
    let less : count_of m (filter (has_dist_at (base_of f)) all) ≤ count_of m all = count_filtered (has_dist_at (base_of f)) m all in
    omega (arith, among, less)

-- those that it sees and that have a dist_ac are ready
other_ready : (n : Node) (s : SystemView) → AreAtRest s → ComesBack n s → (f : Begun n s) → (m : Node) → 1 ≤ count_of m (the_others n (base_of f))
    → Other n m (base_of f)
unfolding base_of
other_ready n s rest back f m among =
    let all : List Node = linked_with n f.q.links in
    let seen : 1 ≤ count_of m all = among_seen n s f m among in
    let only : (is_alive_at s m ≡ true) × (m.0 ≢ n.0) = f.only m seen in
    let has : has_dist_at (base_of f) m ≡ true = passes (has_dist_at (base_of f)) m all among in
    let has_there : has_dist_at s m ≡ true = sym (λ i. (own_in (f.linked.files i) m).has_dist) ∙ has in
    let there : (w : LiveView) × (live_at s m ≡ Some w) = alive_is_there s m only.0 in
    let is : node_at s m ≡ there.0 = node_is s m there.0 there.1 in
    let dist : (d : DistView) × ((node_at s m).dist ≡ Some d) × (d.stand ≡ stand.Idle) = idle_in (node_at s m).dist (back.ready m only.0 has_there) in
    let free : IsUnoccupied dist.0 = rest.dists m dist.0 only.0 dist.1 in
    let linked : are_linked n m f.q.links ≡ true = seen_linked n m f.q.links seen in
    record {
      live = there.0;
      dist = dist.0;
      there = other_in m only.1 f ∙ there.1;
      has = sym (ap (λ (v : LiveView). v.dist) is) ∙ dist.1;
      stands = dist.2;
      mail = ap (λ (d : DistView). d.mail) (is_idle dist.0 free dist.2);
      alive = sym (ap is_alive is) ∙ only.0;
      has_dist = has;
      apart = only.1;
      to = linked;
      from = linked_back m n f.q.links ∙ linked;
    }

-- what its dist_ac is as it begins
abbrev first_of_node : Node → SystemView → DistView
first_of_node n s =
    beginning (node_count s.cluster) (app_count s.cluster) n (own_flags s.cluster (own_at s n) n)

is_ready : (n : Node) (s : SystemView) → IsReached s → AreAtRest s → ComesBack n s → (f : Begun n s) → has_dist_at s n ≡ true
    → Ready n (joined_live (new_live n s)) (first_of_node n s) (base_of f)
unfolding base_of
is_ready n s reached rest back f has = record {
  there = there_written f.q n (new_live n s) (joined_live (new_live n s)) (there_in n s back f)
      ∙ (λ i. Some (record (joined_live (new_live n s)) { dist = cond (has i) (Some (first_of_node n s)) None }));
  is_up_there = refl;
  has_dist = (λ i. (own_in (f.linked.files i) n).has_dist) ∙ has;
  locks = f.locks ∙ none_at_rest s reached rest;
  answers = f.answers;
  once = λ m.
      (let less : count_of m (filter (has_dist_at (base_of f)) (linked_with n f.q.links)) ≤ count_of m (linked_with n f.q.links) =
      count_filtered (has_dist_at (base_of f)) m (linked_with n f.q.links) in
      let once : count_of m (linked_with n f.q.links) ≤ 1 = f.once m in
      omega (arith, less, once));
  others = other_ready n s rest back f;
}

-- ---- and to what it leads

-- so many moves lead to one state, where the node has joined
abbrev Returns : Node → SystemView → Type 0
Returns n s = (k : ℕ) × (t : SystemView) × LeadsTo k (uncounted (booted n s)) t × Reaches (uncounted (booted n s)) t × HasJoined n s t

returns_by : (n : Node) (s : SystemView) → ComesBack n s → (f : Begun n s) → (Q : ℕ → SystemView → Type 0) (extra : ℕ) → IsSteady Q
    → ((ups : List Node) → Q (length ups + extra) (join n (waiting_as n (new_live n s) f.q [] [] ups)))
    → ((t : SystemView) → Q 0 t → HasJoined n s t) → Returns n s
returns_by n s back f Q extra steady joins lands =
    (weight, end.0, steady_leads both weight first end.0 so end.2, end.1, by end.2)
  where
    v : LiveView
    v = new_live n s

    first : SystemView
    first = uncounted (booted n s)

    weight : ℕ
    weight = length f.ups + extra

    P : ℕ → SystemView → Type 0
    P k u = Waits n v f.q extra k u ⊎ Q k u

    both : IsSteady P
    both = waits_steadily n v f.q Q extra (there_in n s back f) refl steady joins

    so : P weight first
    so =
        subst (P weight) (sym f.start)
        (on_with n v f.q Q extra weight (mandatory_of s.cluster n) (optional_of s.cluster n) f.ups (there_in n s back f) joins refl f.covers)

    end : (t : SystemView) × Reaches first t × P 0 t
    end = steady_ends both weight first so

    by : P 0 end.0 → HasJoined n s end.0
    by (inl w) = absurd (never_ends v w.ups w.ms w.os w.waits w.covers extra w.weighs)
    by (inr at) = lands end.0 at

-- the others, where the node is all that was written behind their meeting
others_met : (n : Node) (allowed : List Bool) (c : Bool) (t : SystemView) (m : Node) (w : LiveView) (o : Option Cell)
    → cell_at t m.0 ≡ cond c (Some (cell.Node (met_in n allowed w))) o → node_of o ≡ w
    → (node_at t m ≡ w) ⊎ ((more : List Bool) × (node_at t m ≡ met_in n more w))
others_met n allowed true t m w o is same = inr (allowed, ap node_of is)
others_met n allowed false t m w o is same = inl (ap node_of is ∙ same)

with_dist : (n : Node) (s : SystemView) → IsReached s → AreAtRest s → ComesBack n s → (f : Begun n s) → has_dist_at s n ≡ true → Returns n s
unfolding base_of opening
with_dist n s reached rest back f has =
    returns_by n s back f (Opens r) extra (opens_steadily r) joins (λ t at. has_joined n s f.q t reached rest back f.linked (landed t at))
  where
    r : Ready n (joined_live (new_live n s)) (first_of_node n s) (base_of f)
    r = is_ready n s reached rest back f has

    extra : ℕ
    extra = suc (total weight_of (map asks (the_others n (base_of f))))

    joins : (ups : List Node) → Opens r (length ups + extra) (join n (waiting_as n (new_live n s) f.q [] [] ups))
    joins ups =
        inl (record {
          ups = ups;
          weighs = refl;
          is = join_so n (new_live n s) f.q ups (there_in n s back f)
              ∙ (λ i. record (base_of f) {
                messages = map (up_letter n (base_of f)) ups ++ go_if (((λ j. (own_in (f.linked.files j) n).has_dist) ∙ has) i) n (base_of f);
              });
        })

    -- those that have told of themselves are alive
    only_alive : (m : Node) (a : App) → m.0 ≢ n.0
        → may_in (learn_all (told_in (base_of f)) (the_others n (base_of f)) (first n (opening r))).may m a ≡ true → is_alive_at s m ≡ true
    only_alive m a apart may =
        (f.only m (among_seen n s f m
        (has_told (told_in (base_of f)) (the_others n (base_of f)) (first n (opening r)) m a
        (none_before (node_count s.cluster) (app_count s.cluster) n m (own_flags s.cluster (own_at s n) n) a apart) may))).0

    landed : (t : SystemView) → Opens r 0 t → Landed n s f.q t
    landed t (inl j) = absurd (let none : 0 ≡ length j.ups + extra = j.weighs in omega (arith, none))
    landed t (inr further) =
        let stage : Stage n (the_others n (base_of f)) (base_of f) (opening r) [] t = at_end t further in
        record {
          same = ends_so t stage;
          dist = (last_live (opening r)).dist;
          here = ap node_of (ends_as t stage);
          awake = λ d is. subst IsAwake (same_Some _ d is) (record {
            stands = refl;
            mail = refl;
            synchronised = refl;
            permits = refl;
            parked = refl;
            takeovers = refl;
            ends = refl;
          });
          has = λ has_dist. (_, refl);
          runners = λ d m a is apart may. only_alive m a apart (subst (λ (e : DistView). may_run e m a ≡ true) (sym (same_Some _ d is)) may);
          others = λ m apart.
              (let same : node_at (base_of f) m ≡ node_at s m = ap (λ (o : Option LiveView). unwrap_or o never_begun) (other_in m apart f) in
              subst (λ (w : LiveView). (node_at t m ≡ w) ⊎ ((allowed : List Bool) × (node_at t m ≡ met_in n allowed w))) same
              (others_met n _ (is_met m (the_others n (base_of f)) []) t m (node_at (base_of f) m) (cell_at (base_of f) m.0) (stage.cells m apart) refl));
        }

without_dist : (n : Node) (s : SystemView) → IsReached s → AreAtRest s → ComesBack n s → (f : Begun n s) → has_dist_at s n ≡ false → Returns n s
unfolding base_of
without_dist n s reached rest back f none =
    returns_by n s back f (Idles n (base_of f)) 0 (idles_steadily n (base_of f) (joined_live (new_live n s)) there refl) joins
    (λ t at. has_joined n s f.q t reached rest back f.linked (landed t at))
  where
    there : live_at (base_of f) n ≡ Some (joined_live (new_live n s))
    there = there_written f.q n (new_live n s) (joined_live (new_live n s)) (there_in n s back f)

    joins : (ups : List Node) → Idles n (base_of f) (length ups + 0) (join n (waiting_as n (new_live n s) f.q [] [] ups))
    joins ups = record {
      ups = ups;
      weighs = omega arith;
      is = join_so n (new_live n s) f.q ups (there_in n s back f)
          ∙ (λ i. record (base_of f) {
            messages = map (up_letter n (base_of f)) ups ++ go_if (((λ j. (own_in (f.linked.files j) n).has_dist) ∙ none) i) n (base_of f);
          })
          ∙ (λ i. record (base_of f) { messages = append-nil (map (up_letter n (base_of f)) ups) i });
    }

    no_dist : (new_live n s).dist ≡ None
    no_dist = ap (λ (c : Bool). cond c (Some (first_of_node n s)) None) none

    landed : (t : SystemView) → Idles n (base_of f) 0 t → Landed n s f.q t
    landed t at =
        let is : t ≡ record (base_of f) { messages = [] } = idle_end t at in
        let no_locks : f.q.locks ≡ [] = f.locks ∙ none_at_rest s reached rest in
        let node_so : (m : Node) → node_at t m ≡ node_at (base_of f) m = λ m. ap (λ (x : SystemView). node_at x m) is in
        record {
          same = is ∙ (λ i. record (base_of f) {
            messages = [];
            locks = no_locks i;
            nodes = (sym is i).nodes;
            answers = (sym is i).answers;
          });
          dist = None;
          here = node_so n ∙ node_is (base_of f) n (joined_live (new_live n s)) there ∙ (λ i. record (joined_live (new_live n s)) { dist = no_dist i });
          awake = λ d no. absurd (none-some d no);
          has = λ has. absurd (false≢true (sym none ∙ has));
          runners = λ d m a no. absurd (none-some d no);
          others = λ m apart. inl (node_so m ∙ ap (λ (o : Option LiveView). unwrap_or o never_begun) (other_in m apart f));
        }

pub comes_back : JoinsComeToOneState
comes_back s n reached rest back = by (cases_Bool (has_dist_at s n))
  where
    f : Begun n s
    f = has_begun n s reached rest back

    by : (has_dist_at s n ≡ true) ⊎ (has_dist_at s n ≡ false) → Returns n s
    by (inl has) = with_dist n s reached rest back f has
    by (inr none) = without_dist n s reached rest back f none
