-- The wait of a node is over by its time: it joins with the lists that are left, its dist_ac synchronises with those that it sees, and its
-- boot script is all that is to come.
use Rattle.std.proofs.Common.{◌≡◌, ◌≢◌, ◌≤◌, ◌⊎◌, ◌+◌, ◌++◌, ℕ, suc, Bool, true, false, cond, List, [], ◌∷◌, map, filter, length, unwrap_or, Option, Some, None, refl, sym, ap, subst, ◌∙◌, inl, inr, arith}
use Rattle.std.specs.Option.{option_map}
use Rattle.std.proofs.lemmas.Bool.{cases_Bool}
use Rattle.std.proofs.lemmas.Option.{none-some, same_Some}
use Rattle.rh_model.specs.ClusterView.{node_count, app_count}
use Rattle.rh_model.specs.declared.node.App.{App}
use Rattle.rh_model.specs.declared.node.Node.{Node}
use Rattle.rh_otp_model.specs.declared.output.Event.TheVariants as event
use Rattle.rh_otp_dist.specs.declared.state.Stand.TheVariants as stand
use Rattle.rh_otp_dist.specs.State.{DistView, beginning, may_run}
use Rattle.rh_otp_net.specs.Links.{are_linked, linked_with}
use Rattle.rh_otp_net.specs.Timers as timers
use Rattle.rh_otp_node.specs.declared.node.Phase.TheVariants as phase
use Rattle.rh_otp_node.specs.Live.{LiveView, never_begun, own_flags, is_alive}
use Rattle.rh_otp_system.specs.declared.cell.Cell.{Cell}
use Rattle.rh_otp_system.specs.declared.cell.Cell.TheVariants as cell
use Rattle.rh_otp_system.specs.declared.slow.Slow.{Slow}
use Rattle.rh_otp_system.specs.declared.slow.Slow.TheVariants.{Boot}
use Rattle.rh_otp_model.specs.declared.message.Message.TheVariants as message
use Rattle.rh_otp_model.specs.declared.process.Role.TheVariants as role
use Rattle.rh_otp_system.specs.Joining.{join, with_boot}
use Rattle.rh_otp_system.specs.Moves.{Reaches, IsQuiet, here}
use Rattle.rh_otp_system.specs.Sending.{sent, told}
use Rattle.rh_otp_system.specs.State.{SystemView, live_at, node_at, with_node, own_at, is_alive_at, has_dist_at, process_in}
use Rattle.rh_otp_laws.specs.Acting.{IsReached}
use Rattle.rh_otp_laws.proofs.Hanging.{settled_stays_so}
use Rattle.rh_otp_laws.proofs.Nodes.{there_written, node_written, others_as_they_were, others_same, alive_is_there}
use Rattle.rh_otp_orders.proofs.Confluence.{alike_itself}
use Rattle.rh_otp_orders.proofs.Same.{cell_at}
use Rattle.rh_otp_crashes.specs.Crashes.{IsUnoccupied, AreAtRest}
use Rattle.rh_otp_crashes.proofs.Turning.{node_is, is_idle}
use Rattle.rh_otp_locks.proofs.Locks.{none_at_rest}
use Rattle.rh_otp_joins.specs.Leading.{LeadsTo}
use Rattle.rh_otp_joins.proofs.Connected.{all_bound}
use Rattle.rh_otp_joins.proofs.Arriving.{IsSteady, steady_leads, steady_ends}
use Rattle.rh_otp_joins.proofs.Going.{the_others}
use Rattle.rh_otp_joins.proofs.Introducing.{learn_all}
use Rattle.rh_otp_joins.proofs.Joining.{go_if}
use Rattle.rh_otp_joins.proofs.Landing.{IsAwake}
use Rattle.rh_otp_joins.proofs.Lists.{count_of, count_filtered, passes}
use Rattle.rh_otp_joins.proofs.Opened.{Ready, opening, Opens, opens_steadily}
use Rattle.rh_otp_joins.proofs.Permitted.{may_in, has_told, none_before}
use Rattle.rh_otp_joins.proofs.Seeing.{seen_linked, linked_back}
use Rattle.rh_otp_joins.proofs.Settling.{at_end, ends_as, ends_so, last_of, last_live}
use Rattle.rh_otp_joins.proofs.Stages.{Other, Stage, met_in, is_met, node_of, told_in, first}
use Rattle.rh_otp_joins.proofs.Tokens.{asks, weight_of, total}
use Rattle.rh_otp_returns.specs.Arrivals.{ComesUpInTime}
use Rattle.rh_otp_returns.proofs.Connecting.{all_single}
use Rattle.rh_otp_returns.proofs.Single.{AreSingle, seen_once, not_itself, seen_alive}

-- a dist_ac that takes whatever comes is there
idle_in : (o : Option DistView) → option_map (λ (d : DistView). d.stand) o ≡ Some stand.Idle
    → (d : DistView) × (o ≡ Some d) × (d.stand ≡ stand.Idle)
idle_in None is = absurd (none-some stand.Idle is)
idle_in (Some d) is = (d, refl, same_Some d.stand stand.Idle is)

-- ---- where it has joined

-- another node has met the node, or not
abbrev pub IsMet : Node → Node → SystemView → SystemView → Type 0
IsMet n m s t = (node_at t m ≡ node_at s m) ⊎ ((allowed : List Bool) × (node_at t m ≡ met_in n allowed (node_at s m)))

met_by : (n : Node) (allowed : List Bool) (c : Bool) (t : SystemView) (m : Node) (w : LiveView) (o : Option Cell)
    → cell_at t m.0 ≡ cond c (Some (cell.Node (met_in n allowed w))) o → node_of o ≡ w
    → (node_at t m ≡ w) ⊎ ((more : List Bool) × (node_at t m ≡ met_in n more w))
met_by n allowed true t m w o is same = inr (allowed, ap node_of is)
met_by n allowed false t m w o is same = inl (ap node_of is ∙ same)

-- The node is up, and its dist_ac, if it has one, has synchronised. The others have met it, or not. Its boot script is all that is to come.
pub record IsWoken (n : Node) (s : SystemView) (due : ℕ) (t : SystemView) : Type 0 where
  pub cluster : t.cluster ≡ s.cluster
  pub files : t.files ≡ s.files
  pub alive : t.alive ≡ s.alive
  pub links : t.links ≡ s.links
  pub clock : t.clock ≡ due
  pub timers : t.timers ≡ timers.left s.timers
  pub events : t.events ≡ s.events ++ event.Up n ∷ []
  pub ends_soon : t.ends_soon ≡ s.ends_soon
  pub calls : t.calls ≡ []
  pub locks : t.locks ≡ []
  pub messages : t.messages ≡ []
  pub slow : t.slow ≡ Boot n ∷ []
  pub dist : Option DistView
  pub here : node_at t n ≡ record (node_at s n) { phase = phase.Up; dist = dist }
  pub awake : (d : DistView) → dist ≡ Some d → IsAwake d
  pub runners : (d : DistView) (m : Node) (a : App) → dist ≡ Some d → m.0 ≢ n.0 → may_run d m a ≡ true → is_alive_at s m ≡ true
  pub others : (m : Node) → m.0 ≢ n.0 → IsMet n m s t

module _ (s : SystemView) (n : Node) (reached : IsReached s) (rest : AreAtRest s) (comes : ComesUpInTime n s) where
  -- its wait is over at that moment, and no answers are counted
  abbrev pub then : SystemView
  then = record s { clock = comes.due; timers = timers.left s.timers; messages = []; answers = [] }

  pub none : IsQuiet s
  none = (settled_stays_so s s rest.settled (here s)).0

  -- ---- those that it sees

  single : AreSingle s.links s.slow
  single = all_single s reached

  once : (m : Node) → count_of m (linked_with n s.links) ≤ 1
  once m = seen_once n m s.links single.once

  only : (m : Node) → 1 ≤ count_of m (linked_with n s.links) → (is_alive_at s m ≡ true) × (m.0 ≢ n.0)
  only m among =
      (seen_alive s n m s.links (all_bound s reached) among, not_itself n m s.links single.apart among)

  -- ---- it joins

  abbrev pub up_live : LiveView
  up_live = record (node_at s n) { phase = phase.Up }

  -- the system around it, but for what its dist_ac is told
  abbrev pub base : SystemView
  base = record (with_node n up_live then) { slow = s.slow ++ Boot n ∷ []; events = s.events ++ event.Up n ∷ [] }

  pub join_so : join n then ≡ record base { messages = go_if (has_dist_at s n) n base }
  unfolding join told
  join_so = by (has_dist_at s n)
    where
      z : SystemView
      z = record base { slow = s.slow }

      by : (c : Bool) → with_boot n (cond c (sent (process_in z n role.KernelConfig) (process_in z n role.DistAc) message.Go z) z)
          ≡ record base { messages = go_if c n base }
      by true = refl
      by false = refl

  there : (v : LiveView) × (live_at s n ≡ Some v)
  there = alive_is_there s n comes.alive

  other_in : (m : Node) → m.0 ≢ n.0 → live_at base m ≡ live_at s m
  other_in m apart = others_as_they_were then n m up_live apart

  -- so many moves lead from there to one state
  abbrev pub ComesUp : Type 0
  ComesUp = (k : ℕ) × (t : SystemView) × LeadsTo k (join n then) t × Reaches (join n then) t × IsWoken n s comes.due t

  -- ---- with a dist_ac

  abbrev first_of_node : DistView
  first_of_node = beginning (node_count s.cluster) (app_count s.cluster) n (own_flags s.cluster (own_at s n) n)

  module _ (has : has_dist_at s n ≡ true) where
    nodes : List Node
    nodes = the_others n base

    among_seen : (m : Node) → 1 ≤ count_of m (the_others n base) → 1 ≤ count_of m (linked_with n s.links)
    among_seen m among =
        let less : count_of m (filter (has_dist_at base) (linked_with n s.links)) ≤ count_of m (linked_with n s.links) =
        count_filtered (has_dist_at base) m (linked_with n s.links) in
        omega (arith, among, less)

    -- those that it sees and that have a dist_ac are ready
    other_ready : (m : Node) → 1 ≤ count_of m (the_others n base) → Other n m base
    other_ready m among =
        let seen : 1 ≤ count_of m (linked_with n s.links) = among_seen m among in
        let one : (is_alive_at s m ≡ true) × (m.0 ≢ n.0) = only m seen in
        let has_there : has_dist_at s m ≡ true = passes (has_dist_at base) m (linked_with n s.links) among in
        let at : (w : LiveView) × (live_at s m ≡ Some w) = alive_is_there s m one.0 in
        let is : node_at s m ≡ at.0 = node_is s m at.0 at.1 in
        let d : (d : DistView) × ((node_at s m).dist ≡ Some d) × (d.stand ≡ stand.Idle) =
        idle_in (node_at s m).dist (comes.ready m one.1 one.0 has_there) in
        let free : IsUnoccupied d.0 = rest.dists m d.0 one.0 d.1 in
        let linked : are_linked n m s.links ≡ true = seen_linked n m s.links seen in
        record {
          live = at.0;
          dist = d.0;
          there = other_in m one.1 ∙ at.1;
          has = sym (ap (λ (v : LiveView). v.dist) is) ∙ d.1;
          stands = d.2;
          mail = ap (λ (e : DistView). e.mail) (is_idle d.0 free d.2);
          alive = sym (ap is_alive is) ∙ one.0;
          has_dist = has_there;
          apart = one.1;
          to = linked;
          from = linked_back m n s.links ∙ linked;
        }

    ready : Ready n up_live first_of_node base
    ready = record {
      there = there_written then n there.0 up_live there.1
          ∙ (λ i. Some (record up_live { dist = (comes.fresh ∙ ap (λ (c : Bool). cond c (Some first_of_node) None) has) i }));
      is_up_there = refl;
      has_dist = has;
      locks = none_at_rest s reached rest;
      answers = refl;
      once = λ m.
          (let less : count_of m (filter (has_dist_at base) (linked_with n s.links)) ≤ count_of m (linked_with n s.links) =
          count_filtered (has_dist_at base) m (linked_with n s.links) in
          let one : count_of m (linked_with n s.links) ≤ 1 = once m in
          omega (arith, less, one));
      others = other_ready;
    }

    abbrev extra : ℕ
    extra = suc (total weight_of (map asks (the_others n base)))

    joins : Opens ready extra (join n then)
    joins = inl (record {
      ups = [];
      weighs = omega arith;
      is = join_so ∙ ap (λ (c : Bool). record base { messages = go_if c n base }) has;
    })

    -- those that have told of themselves are alive
    only_alive : (m : Node) (a : App) → m.0 ≢ n.0
        → may_in (learn_all (told_in base) (the_others n base) (first n (opening ready))).may m a ≡ true → is_alive_at s m ≡ true
    unfolding opening
    only_alive m a apart may =
        (only m (among_seen m
        (has_told (told_in base) (the_others n base) (first n (opening ready)) m a
        (none_before (node_count s.cluster) (app_count s.cluster) n m (own_flags s.cluster (own_at s n) n) a apart) may))).0

    come_up : (t : SystemView) → Opens ready 0 t → IsWoken n s comes.due t
    unfolding opening
    come_up t (inl j) = absurd (let more : 0 ≡ length j.ups + extra = j.weighs in omega (arith, more))
    come_up t (inr further) =
        let stage : Stage n (the_others n base) base (opening ready) [] t = at_end t further in
        let same : t ≡ last_of base t.nodes t.answers = ends_so t stage in
        record {
          cluster = ap (λ (x : SystemView). x.cluster) same;
          files = ap (λ (x : SystemView). x.files) same;
          alive = ap (λ (x : SystemView). x.alive) same;
          links = ap (λ (x : SystemView). x.links) same;
          clock = ap (λ (x : SystemView). x.clock) same;
          timers = ap (λ (x : SystemView). x.timers) same;
          events = ap (λ (x : SystemView). x.events) same;
          ends_soon = ap (λ (x : SystemView). x.ends_soon) same;
          calls = ap (λ (x : SystemView). x.calls) same ∙ rest.calls;
          locks = ap (λ (x : SystemView). x.locks) same;
          messages = ap (λ (x : SystemView). x.messages) same;
          slow = ap (λ (x : SystemView). x.slow) same ∙ ap (λ (l : List Slow). l ++ Boot n ∷ []) none.1;
          dist = (last_live (opening ready)).dist;
          here = ap node_of (ends_as t stage);
          awake = λ d is. subst IsAwake (same_Some _ d is) (record {
            stands = refl;
            mail = refl;
            synchronised = refl;
            permits = refl;
            parked = refl;
            takeovers = refl;
            ends = refl;
          });
          runners = λ d m a is apart may.
              only_alive m a apart (subst (λ (e : DistView). may_run e m a ≡ true) (sym (same_Some _ d is)) may);
          others = λ m apart.
              (let before : node_at base m ≡ node_at s m = ap (λ (o : Option LiveView). unwrap_or o never_begun) (other_in m apart) in
              subst (λ (w : LiveView). (node_at t m ≡ w) ⊎ ((allowed : List Bool) × (node_at t m ≡ met_in n allowed w))) before
              (met_by n _ (is_met m (the_others n base) []) t m (node_at base m) (cell_at base m.0) (stage.cells m apart) refl));
        }

    with_dist : ComesUp
    with_dist =
        let steady : IsSteady (Opens ready) = opens_steadily ready in
        let end : (t : SystemView) × Reaches (join n then) t × Opens ready 0 t = steady_ends steady extra (join n then) joins in
        (extra, end.0, steady_leads steady extra (join n then) end.0 joins end.2, end.1, come_up end.0 end.2)

  -- ---- without one

  module _ (without : has_dist_at s n ≡ false) where
    joined : join n then ≡ base
    joined = join_so ∙ ap (λ (c : Bool). record base { messages = go_if c n base }) without

    no_dist : (node_at s n).dist ≡ None
    no_dist = comes.fresh ∙ ap (λ (c : Bool). cond c (Some first_of_node) None) without

    without_dist : ComesUp
    without_dist =
        let t : SystemView = join n then in (
          0,
          t,
          alike_itself t,
          here t,
          record {
            cluster = ap (λ (x : SystemView). x.cluster) joined;
            files = ap (λ (x : SystemView). x.files) joined;
            alive = ap (λ (x : SystemView). x.alive) joined;
            links = ap (λ (x : SystemView). x.links) joined;
            clock = ap (λ (x : SystemView). x.clock) joined;
            timers = ap (λ (x : SystemView). x.timers) joined;
            events = ap (λ (x : SystemView). x.events) joined;
            ends_soon = ap (λ (x : SystemView). x.ends_soon) joined;
            calls = ap (λ (x : SystemView). x.calls) joined ∙ rest.calls;
            locks = ap (λ (x : SystemView). x.locks) joined ∙ none_at_rest s reached rest;
            messages = ap (λ (x : SystemView). x.messages) joined;
            slow = ap (λ (x : SystemView). x.slow) joined ∙ ap (λ (l : List Slow). l ++ Boot n ∷ []) none.1;
            dist = None;
            here = ap (λ (x : SystemView). node_at x n) joined ∙ node_written then n there.0 up_live there.1
                ∙ (λ i. record up_live { dist = no_dist i });
            awake = λ d is. absurd (none-some d is);
            runners = λ d m a is. absurd (none-some d is);
            others = λ m apart. inl (ap (λ (x : SystemView). node_at x m) joined ∙ others_same then n m up_live apart);
          },
        )

  pub comes_up : ComesUp
  comes_up = by (cases_Bool (has_dist_at s n))
    where
      by : (has_dist_at s n ≡ true) ⊎ (has_dist_at s n ≡ false) → ComesUp
      by (inl has) = with_dist has
      by (inr without) = without_dist without
