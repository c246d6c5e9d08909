-- Where a node that came back has synchronised: what is known of the state.
use Rattle.std.proofs.Common.{◌≡◌, ◌≢◌, ◌⊎◌, ◌++◌, ◌==◌, ◌&&◌, ◌||◌, not, Bool, true, false, List, [], ◌∷◌, map, Option, Some, None, refl, sym, ap, subst, ◌∙◌, inl, inr}
use Rattle.std.specs.Option.{option_map}
use Rattle.std.specs.Prelude.{All}
use Rattle.std.proofs.lemmas.Bool.{eq-eqb, or_right, or_left, and_parts, cases_eq}
use Rattle.std.proofs.lemmas.List.Elements.{All-nil, All-cons, All-head, All-tail}
use Rattle.std.proofs.lemmas.Option.{none-some, same_Some}
use Rattle.rh_model.specs.declared.node.App.{App}
use Rattle.rh_model.specs.declared.node.Node.{Node}
use Rattle.rh_otp_model.specs.declared.message.Message.{Message}
use Rattle.rh_otp_model.specs.declared.output.Event.{Event}
use Rattle.rh_otp_model.specs.declared.output.Event.TheVariants as event
use Rattle.rh_otp_dist.specs.declared.state.Stand.TheVariants as stand
use Rattle.rh_otp_dist.specs.State.{DistView, may_run}
use Rattle.rh_otp_dist.specs.Waiting.{takes}
use Rattle.rh_otp_net.specs.declared.links.Link.{Link}
use Rattle.rh_otp_net.specs.Links.{are_linked}
use Rattle.rh_otp_node.specs.Live.{LiveView, begun, is_alive, is_up, is_ending}
use Rattle.rh_otp_system.specs.declared.slow.Slow.{Slow}
use Rattle.rh_otp_system.specs.declared.slow.Slow.TheVariants.{Boot}
use Rattle.rh_otp_system.specs.Moves.{is_to_end}
use Rattle.rh_otp_system.specs.State.{SystemView, node_at, own_at, is_alive_at, has_dist_at}
use Rattle.rh_otp_laws.specs.Acting.{IsReached}
use Rattle.rh_otp_crashes.specs.Crashes.{IsUnoccupied, AreAtRest}
use Rattle.rh_otp_crashes.proofs.Crash.{none_ends}
use Rattle.rh_otp_crashes.proofs.Crossing.{same_node}
use Rattle.rh_otp_crashes.proofs.Turning.{own_in}
use Rattle.rh_otp_locks.specs.Holding.{stand_at}
use Rattle.rh_otp_waits.specs.Waits.{AllSeeAll}
use Rattle.rh_otp_joins.specs.Joins.{connect_of, ComesBack, IsDoneAlready, HasJoined}
use Rattle.rh_otp_joins.proofs.Answering.{met}
use Rattle.rh_otp_joins.proofs.Joining.{joined_live, joined_base}
use Rattle.rh_otp_joins.proofs.Seeing.{IsApart, linked_back}
use Rattle.rh_otp_joins.proofs.Settling.{last_of}
use Rattle.rh_otp_joins.proofs.Stages.{met_in}

-- the node as it begins
abbrev pub new_live : Node → SystemView → LiveView
new_live n s = begun s.cluster (own_at s n) n (node_at s n)

-- its dist_ac has synchronised
pub record IsAwake (d : DistView) : Type 0 where
  pub stands : d.stand ≡ stand.Idle
  pub mail : d.mail ≡ []
  pub synchronised : d.is_synchronised ≡ true
  pub permits : d.p_reqs ≡ []
  pub parked : d.parked ≡ []
  pub takeovers : d.t_reqs ≡ []
  pub ends : d.s_reqs ≡ []

-- Before it joined it was so (`q`), and the system is so now: the node, and the others, which have met it or not.
pub record Landed (n : Node) (s q t : SystemView) : Type 0 where
  pub same : t ≡ last_of (joined_base n (new_live n s) q) t.nodes t.answers
  pub dist : Option DistView
  pub here : node_at t n ≡ record (joined_live (new_live n s)) { dist = dist }
  pub awake : (d : DistView) → dist ≡ Some d → IsAwake d
  pub has : has_dist_at s n ≡ true → (d : DistView) × (dist ≡ Some d)
  pub runners : (d : DistView) (m : Node) (a : App) → dist ≡ Some d → m.0 ≢ n.0 → may_run d m a ≡ true → is_alive_at s m ≡ true
  pub others : (m : Node) → m.0 ≢ n.0
      → (node_at t m ≡ node_at s m) ⊎ ((allowed : List Bool) × (node_at t m ≡ met_in n allowed (node_at s m)))

-- What is between the nodes is as it was, but for the connections and what global is to connect.
pub record Linked (n : Node) (s q : SystemView) : Type 0 where
  pub cluster : q.cluster ≡ s.cluster
  pub files : q.files ≡ s.files
  pub alive : q.alive ≡ s.alive ++ n ∷ []
  pub ends_soon : q.ends_soon ≡ s.ends_soon
  pub calls : q.calls ≡ s.calls
  pub events : q.events ≡ s.events
  pub connects : List Link
  pub slow : q.slow ≡ map connect_of connects
  pub apart : All IsApart connects
  pub kept : (a b : Node) → are_linked a b s.links ≡ true → are_linked a b q.links ≡ true
  pub linked : (m : Node) → is_alive_at s m ≡ true → are_linked n m q.links ≡ true

unoccupied : (d : DistView) → d.stand ≡ stand.Idle → d.mail ≡ [] → d.p_reqs ≡ [] → d.parked ≡ [] → IsUnoccupied d
unoccupied d stands empty permits parked = record {
  stand = inl stands;
  mail = subst (λ (l : List Message). All (λ (m : Message). takes d.stand m ≡ false) l) (sym empty)
      (All-nil (λ (m : Message). takes d.stand m ≡ false));
  permits = permits;
  parked = parked;
}

-- a dist_ac that has met the node is unoccupied, too
met_unoccupied : (n : Node) (allowed : List Bool) (o : Option DistView) (d : DistView) → ((e : DistView) → o ≡ Some e → IsUnoccupied e)
    → option_map (met n allowed) o ≡ Some d → IsUnoccupied d
met_unoccupied n allowed None d free is = absurd (none-some d is)
met_unoccupied n allowed (Some e) d free is =
    subst IsUnoccupied (same_Some (met n allowed e) d is)
    (unoccupied (met n allowed e) refl refl (free e refl).permits (free e refl).parked)

met_idle : (n : Node) (allowed : List Bool) (o : Option DistView) → option_map (λ (d : DistView). d.stand) o ≡ Some stand.Idle
    → option_map (λ (d : DistView). d.stand) (option_map (met n allowed) o) ≡ Some stand.Idle
met_idle n allowed None is = is
met_idle n allowed (Some d) is = refl

all_done : (t : SystemView) (connects : List Link) → AllSeeAll t → All IsApart connects → All (IsDoneAlready t) connects
all_done t [] sees apart = All-nil (IsDoneAlready t)
all_done t (l ∷ connects) sees apart =
    All-cons (IsDoneAlready t) l connects
    (λ both.
    (let parts : (is_alive_at t l.0 ≡ true) × (is_alive_at t l.1 ≡ true) = and_parts (is_alive_at t l.0) (is_alive_at t l.1) both in
    sees l.0 l.1 parts.0 parts.1 (All-head IsApart l connects apart)))
    (all_done t connects sees (All-tail IsApart l connects apart))

pub has_joined : (n : Node) (s q t : SystemView) → IsReached s → AreAtRest s → ComesBack n s → Linked n s q → Landed n s q t → HasJoined n s t
has_joined n s q t reached rest back l f = record {
  cluster = ap (λ (x : SystemView). x.cluster) f.same ∙ l.cluster;
  files = ap (λ (x : SystemView). x.files) f.same ∙ l.files;
  alive = ap (λ (x : SystemView). x.alive) f.same ∙ l.alive;
  is_up = ap is_up f.here;
  place = ap (λ (v : LiveView). v.place) f.here;
  controller = ap (λ (v : LiveView). v.controller) f.here;
  synchronised = λ d is. (f.awake d (dist_here d is)).synchronised;
  runners = λ d m a is apart may. alive_by m (f.others m apart) ∙ f.runners d m a (dist_here d is) apart may;
  dists = λ m d alive has. dists_at m d alive has (cases_eq m.0 n.0);
  ready = λ m alive has. ready_at m alive (has_dist_so m has) (cases_eq m.0 n.0);
  others = λ m apart. others_at m (f.others m apart);
  ends = λ m alive. ends_at m alive (cases_eq m.0 n.0);
  ends_soon = soon;
  messages = ap (λ (x : SystemView). x.messages) f.same;
  connects = l.connects;
  slow = ap (λ (x : SystemView). x.slow) f.same ∙ ap (λ (x : List Slow). x ++ Boot n ∷ []) l.slow;
  done = all_done t l.connects sees_so l.apart;
  calls = ap (λ (x : SystemView). x.calls) f.same ∙ l.calls ∙ rest.calls;
  locks = ap (λ (x : SystemView). x.locks) f.same;
  events = ap (λ (x : SystemView). x.events) f.same ∙ ap (λ (x : List Event). x ++ event.Up n ∷ []) l.events;
  sees = sees_so;
  can_tell = record {
    sees_all = record {
      takeovers = λ d is. (f.awake d (dist_here d is)).takeovers;
      sees = λ d is m among alive. sees_from m alive (cases_eq n.0 m.0);
    };
    ends = λ d is. (f.awake d (dist_here d is)).ends;
  };
}
  where
    soon : t.ends_soon ≡ s.ends_soon
    soon = ap (λ (x : SystemView). x.ends_soon) f.same ∙ l.ends_soon

    dist_here : (d : DistView) → (node_at t n).dist ≡ Some d → f.dist ≡ Some d
    dist_here d is = sym (ap (λ (v : LiveView). v.dist) f.here) ∙ is

    has_dist_so : (m : Node) → has_dist_at t m ≡ true → has_dist_at s m ≡ true
    has_dist_so m has = sym (λ i. (own_in ((ap (λ (x : SystemView). x.files) f.same ∙ l.files) i) m).has_dist) ∙ has

    -- the others are alive as before
    alive_by : (m : Node) → (node_at t m ≡ node_at s m) ⊎ ((allowed : List Bool) × (node_at t m ≡ met_in n allowed (node_at s m)))
        → is_alive_at t m ≡ is_alive_at s m
    alive_by m (inl same) = ap is_alive same
    alive_by m (inr (allowed, is)) = ap is_alive is

    alive_before : (m : Node) → m.0 ≢ n.0 → is_alive_at t m ≡ true → is_alive_at s m ≡ true
    alive_before m apart alive = sym (alive_by m (f.others m apart)) ∙ alive

    dists_at : (m : Node) (d : DistView) → is_alive_at t m ≡ true → (node_at t m).dist ≡ Some d → (m.0 ≡ n.0) ⊎ (m.0 ≢ n.0) → IsUnoccupied d
    dists_at m d alive has (inl same) =
        let is : f.dist ≡ Some d = dist_here d (subst (λ (x : Node). (node_at t x).dist ≡ Some d) (same_node m n same) has) in
        unoccupied d (f.awake d is).stands (f.awake d is).mail (f.awake d is).permits (f.awake d is).parked
    dists_at m d alive has (inr apart) = by (f.others m apart)
      where
        before : (e : DistView) → (node_at s m).dist ≡ Some e → IsUnoccupied e
        before e is = rest.dists m e (alive_before m apart alive) is

        by : (node_at t m ≡ node_at s m) ⊎ ((allowed : List Bool) × (node_at t m ≡ met_in n allowed (node_at s m))) → IsUnoccupied d
        by (inl same) = before d (sym (ap (λ (v : LiveView). v.dist) same) ∙ has)
        by (inr (allowed, is)) =
            met_unoccupied n allowed (node_at s m).dist d before (sym (ap (λ (v : LiveView). v.dist) is) ∙ has)

    ready_at : (m : Node) → is_alive_at t m ≡ true → has_dist_at s m ≡ true → (m.0 ≡ n.0) ⊎ (m.0 ≢ n.0) → stand_at t m ≡ Some stand.Idle
    ready_at m alive has (inl same) =
        let at : (d : DistView) × (f.dist ≡ Some d) = f.has (subst (λ (x : Node). has_dist_at s x ≡ true) (same_node m n same) has) in
        subst (λ (x : Node). stand_at t x ≡ Some stand.Idle) (sym (same_node m n same))
        (ap (λ (v : LiveView). option_map (λ (d : DistView). d.stand) v.dist) f.here
        ∙ ap (option_map (λ (d : DistView). d.stand)) at.1
        ∙ ap Some (f.awake at.0 at.1).stands)
    ready_at m alive has (inr apart) = by (f.others m apart)
      where
        before : stand_at s m ≡ Some stand.Idle
        before = back.ready m (alive_before m apart alive) has

        by : (node_at t m ≡ node_at s m) ⊎ ((allowed : List Bool) × (node_at t m ≡ met_in n allowed (node_at s m)))
            → stand_at t m ≡ Some stand.Idle
        by (inl same) = ap (λ (v : LiveView). option_map (λ (d : DistView). d.stand) v.dist) same ∙ before
        by (inr (allowed, is)) =
            ap (λ (v : LiveView). option_map (λ (d : DistView). d.stand) v.dist) is ∙ met_idle n allowed (node_at s m).dist before

    others_at : (m : Node) → (node_at t m ≡ node_at s m) ⊎ ((allowed : List Bool) × (node_at t m ≡ met_in n allowed (node_at s m)))
        → record (node_at t m) { dist = None } ≡ record (node_at s m) { dist = None }
    others_at m (inl same) = λ i. record (same i) { dist = None }
    others_at m (inr (allowed, is)) = λ i. record (is i) { dist = None }

    ends_by : Bool → LiveView → Bool
    ends_by c v = is_ending v && (c || not v.is_stopped)

    ends_at : (m : Node) → is_alive_at t m ≡ true → (m.0 ≡ n.0) ⊎ (m.0 ≢ n.0) → is_to_end m t ≡ false
    ends_at m alive (inl same) =
        ap (λ (x : Node). is_to_end x t) (same_node m n same) ∙ ap (ends_by t.ends_soon) f.here
    ends_at m alive (inr apart) =
        by (f.others m apart) ∙ ap (λ (c : Bool). ends_by c (node_at s m)) soon
        ∙ none_ends s m reached rest.settled (alive_before m apart alive)
      where
        by : (node_at t m ≡ node_at s m) ⊎ ((allowed : List Bool) × (node_at t m ≡ met_in n allowed (node_at s m)))
            → is_to_end m t ≡ ends_by t.ends_soon (node_at s m)
        by (inl same) = ap (ends_by t.ends_soon) same
        by (inr (allowed, is)) = ap (ends_by t.ends_soon) is

    links_so : t.links ≡ q.links
    links_so = ap (λ (x : SystemView). x.links) f.same

    sees_new : (m : Node) → m.0 ≢ n.0 → is_alive_at t m ≡ true → are_linked n m t.links ≡ true
    sees_new m apart alive = ap (are_linked n m) links_so ∙ l.linked m (alive_before m apart alive)

    sees_so : AllSeeAll t
    sees_so m o alive_m alive_o differ = by (cases_eq m.0 n.0) (cases_eq o.0 n.0)
      where
        by : (m.0 ≡ n.0) ⊎ (m.0 ≢ n.0) → (o.0 ≡ n.0) ⊎ (o.0 ≢ n.0) → are_linked m o t.links ≡ true
        by (inl same) (inl same_too) = absurd (differ (same ∙ sym same_too))
        by (inl same) (inr apart) =
            subst (λ (x : Node). are_linked x o t.links ≡ true) (sym (same_node m n same)) (sees_new o apart alive_o)
        by (inr apart) (inl same) =
            subst (λ (x : Node). are_linked m x t.links ≡ true) (sym (same_node o n same))
            (linked_back m n t.links ∙ sees_new m apart alive_m)
        by (inr apart) (inr apart_too) =
            ap (are_linked m o) links_so
            ∙ l.kept m o (back.sees m o (alive_before m apart alive_m) (alive_before o apart_too alive_o) differ)

    sees_from : (m : Node) → is_alive_at t m ≡ true → (n.0 ≡ m.0) ⊎ (n.0 ≢ m.0) → (n.0 == m.0 || are_linked n m t.links) ≡ true
    sees_from m alive (inl same) = or_left (n.0 == m.0) (are_linked n m t.links) (eq-eqb n.0 m.0 same)
    sees_from m alive (inr apart) =
        or_right (n.0 == m.0) (are_linked n m t.links) (sees_new m (λ same. apart (sym same)) alive)
