-- The end of the wait is all that can come at first; behind it the node joins, and its boot script begins while all else is at rest.
use Rattle.std.proofs.Common.{◌≡◌, ◌≢◌, ◌⊎◌, ◌==◌, ◌&&◌, ◌||◌, not, ℕ, suc, Bool, true, false, cond, List, [], ◌∷◌, ◌++◌, map, length, Option, Some, None, refl, sym, ap, subst, ◌∙◌, inl, inr, arith}
use Rattle.std.specs.Option.{option_map}
use Rattle.std.specs.Prelude.{All}
use Rattle.std.proofs.lemmas.Bool.{eq-eqb, or_left, or_right, cases_eq}
use Rattle.std.proofs.lemmas.List.Elements.{All-nil}
use Rattle.std.proofs.lemmas.Option.{none-some, same_Some}
use Rattle.rh_model.specs.ClusterView.{boot_of}
use Rattle.rh_model.specs.declared.node.App.{App}
use Rattle.rh_model.specs.declared.node.Node.{Node}
use Rattle.rh_model.specs.declared.settings.Restart.{Restart}
use Rattle.rh_otp_model.specs.declared.message.Message.{Message}
use Rattle.rh_otp_model.specs.declared.message.Message.TheVariants as message
use Rattle.rh_otp_model.specs.declared.output.Envelope.{Envelope}
use Rattle.rh_otp_model.specs.declared.process.Process.{Process}
use Rattle.rh_otp_model.specs.declared.process.Role.TheVariants as role
use Rattle.rh_otp_dist.specs.declared.state.Stand.TheVariants as stand
use Rattle.rh_otp_dist.specs.State.{DistView}
use Rattle.rh_otp_dist.specs.Waiting.{takes}
use Rattle.rh_otp_net.specs.Links.{are_linked}
use Rattle.rh_otp_node.specs.Live.{LiveView, is_alive, is_up, is_ending}
use Rattle.rh_otp_system.specs.Delivering.{arrived}
use Rattle.rh_otp_system.specs.Doing.{fired_next}
use Rattle.rh_otp_system.specs.Ending.{ended}
use Rattle.rh_otp_system.specs.Joining.{join, timed_out}
use Rattle.rh_otp_system.specs.Moves.{Delivers, Reaches, behind_one, is_to_end}
use Rattle.rh_otp_system.specs.State.{SystemView, node_at, is_alive_at, process_in}
use Rattle.rh_otp_laws.specs.Acting.{IsReached, later, fires, settles}
use Rattle.rh_otp_laws.specs.Time.{message_of}
use Rattle.rh_otp_laws.proofs.Time.{due_fire}
use Rattle.rh_otp_orders.specs.Confluence.{EveryOrderEndsAlike}
use Rattle.rh_otp_orders.proofs.Taking.{Taken}
use Rattle.rh_otp_crashes.specs.Crashes.{IsUnoccupied, AreAtRest, FailOverLater}
use Rattle.rh_otp_crashes.proofs.Crash.{none_ends}
use Rattle.rh_otp_crashes.proofs.Crossing.{same_node}
use Rattle.rh_otp_crashes.proofs.Peace.{without, arrives_alive}
use Rattle.rh_otp_scripts.specs.Scripts.{SeesRunners, BootsAlone, CanBoot}
use Rattle.rh_otp_scripts.proofs.Script.{scripts_alike}
use Rattle.rh_otp_joins.specs.Joins.{uncounted}
use Rattle.rh_otp_joins.specs.Leading.{LeadsTo}
use Rattle.rh_otp_joins.proofs.Answering.{met}
use Rattle.rh_otp_joins.proofs.Arriving.{Comes, only_comes, one_comes}
use Rattle.rh_otp_joins.proofs.Ending.{reached_there}
use Rattle.rh_otp_joins.proofs.Leading.{ends_alike}
use Rattle.rh_otp_returns.specs.Arrivals.{ComesUpInTime, HasArrived, ArrivalsComeToOneState, ArrivalsEndAlike}
use Rattle.rh_otp_returns.specs.Returns.{CanBootThere}
use Rattle.rh_otp_returns.proofs.Return.{candidate_may, all_rows, lists_still, fails_later, by_any_two}
use Rattle.rh_otp_returns.proofs.Waking.{IsMet, IsWoken, then, none, comes_up}

-- ---- where it has joined, its boot script is all that is to come

unoccupied : (d : DistView) → d.stand ≡ stand.Idle → d.mail ≡ [] → d.p_reqs ≡ [] → d.parked ≡ [] → IsUnoccupied d
unoccupied d stands empty permits parked = record {
  stand = inl stands;
  mail = subst (λ (l : List Message). All (λ (m : Message). takes d.stand m ≡ false) l) (sym empty)
      (All-nil (λ (m : Message). takes d.stand m ≡ false));
  permits = permits;
  parked = parked;
}

-- a dist_ac that has met the node does nothing, too
met_unoccupied : (n : Node) (allowed : List Bool) (o : Option DistView) (d : DistView) → ((e : DistView) → o ≡ Some e → IsUnoccupied e)
    → option_map (met n allowed) o ≡ Some d → IsUnoccupied d
met_unoccupied n allowed None d free is = absurd (none-some d is)
met_unoccupied n allowed (Some e) d free is =
    subst IsUnoccupied (same_Some (met n allowed e) d is)
    (unoccupied (met n allowed e) refl refl (free e refl).permits (free e refl).parked)

module _ (s t : SystemView) (n : Node) (reached : IsReached s) (rest : AreAtRest s) (comes : ComesUpInTime n s)
    (f : IsWoken n s comes.due t) where
  dist_here : (d : DistView) → (node_at t n).dist ≡ Some d → f.dist ≡ Some d
  dist_here d is = sym (ap (λ (v : LiveView). v.dist) f.here) ∙ is

  -- the others are alive as before
  alive_by : (m : Node) → IsMet n m s t → is_alive_at t m ≡ is_alive_at s m
  alive_by m (inl same) = ap is_alive same
  alive_by m (inr (allowed, is)) = ap is_alive is

  alive_before : (m : Node) → m.0 ≢ n.0 → is_alive_at t m ≡ true → is_alive_at s m ≡ true
  alive_before m apart alive = sym (alive_by m (f.others m apart)) ∙ alive

  sees : (m : Node) → m.0 ≢ n.0 → is_alive_at s m ≡ true → are_linked n m t.links ≡ true
  sees m apart alive = ap (are_linked n m) f.links ∙ comes.sees m apart alive

  dists_at : (m : Node) (d : DistView) → is_alive_at t m ≡ true → (node_at t m).dist ≡ Some d → (m.0 ≡ n.0) ⊎ (m.0 ≢ n.0) → IsUnoccupied d
  dists_at m d alive has (inl same) =
      let is : f.dist ≡ Some d = dist_here d (subst (λ (x : Node). (node_at t x).dist ≡ Some d) (same_node m n same) has) in
      unoccupied d (f.awake d is).stands (f.awake d is).mail (f.awake d is).permits (f.awake d is).parked
  dists_at m d alive has (inr apart) = by (f.others m apart)
    where
      before : (e : DistView) → (node_at s m).dist ≡ Some e → IsUnoccupied e
      before e is = rest.dists m e (alive_before m apart alive) is

      by : IsMet n m s t → IsUnoccupied d
      by (inl same) = before d (sym (ap (λ (v : LiveView). v.dist) same) ∙ has)
      by (inr (allowed, is)) = met_unoccupied n allowed (node_at s m).dist d before (sym (ap (λ (v : LiveView). v.dist) is) ∙ has)

  ends_by : Bool → LiveView → Bool
  ends_by c v = is_ending v && (c || not v.is_stopped)

  ends_at : (m : Node) → is_alive_at t m ≡ true → (m.0 ≡ n.0) ⊎ (m.0 ≢ n.0) → is_to_end m t ≡ false
  unfolding ends_by
  ends_at m alive (inl same) =
      ap (λ (x : Node). is_to_end x t) (same_node m n same) ∙ ap (ends_by t.ends_soon) f.here
      ∙ ap (λ (c : Bool). ends_by c (node_at s n)) f.ends_soon ∙ none_ends s n reached rest.settled comes.alive
  ends_at m alive (inr apart) =
      by (f.others m apart) ∙ ap (λ (c : Bool). ends_by c (node_at s m)) f.ends_soon
      ∙ none_ends s m reached rest.settled (alive_before m apart alive)
    where
      by : IsMet n m s t → is_to_end m t ≡ ends_by t.ends_soon (node_at s m)
      by (inl same) = ap (ends_by t.ends_soon) same
      by (inr (allowed, is)) = ap (ends_by t.ends_soon) is

  -- what is seen of it
  has_come_up : HasArrived n s comes.due t
  has_come_up = record {
    is_up = ap is_up f.here;
    itself = ap (λ (v : LiveView). record v { dist = None }) f.here;
    synchronised = λ d is. (f.awake d (dist_here d is)).synchronised;
    others = λ m apart. others_at m (f.others m apart);
    events = f.events;
    messages = f.messages;
    slow = f.slow;
    calls = f.calls;
    locks = f.locks;
    cluster = f.cluster;
    files = f.files;
    alive = f.alive;
    links = f.links;
    clock = f.clock;
    timers = f.timers;
  }
    where
      others_at : (m : Node) → IsMet n m s t → record (node_at t m) { dist = None } ≡ record (node_at s m) { dist = None }
      others_at m (inl same) = λ i. record (same i) { dist = None }
      others_at m (inr (allowed, is)) = λ i. record (is i) { dist = None }

  boots_alone : BootsAlone n t
  boots_alone = record {
    messages = f.messages;
    slow = f.slow;
    calls = f.calls;
    locks = f.locks;
    dists = λ m d alive has. dists_at m d alive has (cases_eq m.0 n.0);
    ends = λ m alive. ends_at m alive (cases_eq m.0 n.0);
  }

  can_boot : CanBootThere n s → CanBoot n t
  can_boot can = record {
    alive = ap is_alive f.here;
    requests = ap (λ (v : LiveView). v.controller.start_req) f.here ∙ comes.requests;
    sees_all = record {
      takeovers = λ d has. (f.awake d (dist_here d has)).takeovers;
      sees = λ d has m among alive. sees_it m alive (cases_eq n.0 m.0);
    };
    runners = λ d has. all_rows (λ (row : App × Restart). SeesRunners n row.0 d t) (boot_of t.cluster n) (λ row. runner d has row.0);
    lists = lists_still n s t f.files f.cluster can;
  }
    where
      sees_it : (m : Node) → is_alive_at t m ≡ true → (n.0 ≡ m.0) ⊎ (n.0 ≢ m.0) → (n.0 == m.0 || are_linked n m t.links) ≡ true
      sees_it m alive (inl same) = or_left (n.0 == m.0) (are_linked n m t.links) (eq-eqb n.0 m.0 same)
      sees_it m alive (inr apart) =
          let other : m.0 ≢ n.0 = λ same. apart (sym same) in
          or_right (n.0 == m.0) (are_linked n m t.links) (sees m other (alive_before m other alive))

      runner : (d : DistView) → (node_at t n).dist ≡ Some d → (a : App) → SeesRunners n a d t
      runner d has a m apart among =
          let there : is_alive_at s m ≡ true = f.runners d m a (dist_here d has) apart (candidate_may t n m a d among) in
          (alive_by m (f.others m apart) ∙ there, or_right (n.0 == m.0) (are_linked n m t.links) (sees m apart there))

-- ---- the end of its wait is all that can come at first

-- the one message that there is
only_taken : (e m : Envelope) (left : List Envelope) → Taken m (e ∷ []) left → (m ≡ e) × (left ≡ [])
only_taken e m left (inl is) = (sym is.0, is.1)
only_taken e m left (inr behind) = absurd behind.3

module _ (s : SystemView) (n : Node) (reached : IsReached s) (rest : AreAtRest s) (comes : ComesUpInTime n s) where
  -- its wait is over, and all else as it was
  abbrev alone : SystemView
  alone = then s n reached rest comes

  abbrev to : Process
  to = process_in s n role.KernelConfig

  abbrev over : Envelope
  over = message_of (record { due = comes.due; step = comes.step; to = to; message = message.Timeout })

  abbrev fired_then : SystemView
  fired_then = without alone (over ∷ [])

  abbrev joined : SystemView
  joined = join n alone

  fires_so : uncounted (fired_next comes.due s) ≡ fired_then
  fires_so =
      ap uncounted (due_fire s comes.due)
      ∙ (λ i. without alone ((none s n reached rest comes).0 i ++ map message_of (comes.alone i)))

  arrives_so : arrived to message.Timeout alone ≡ joined
  arrives_so =
      arrives_alive to message.Timeout alone comes.alive refl
      ∙ ap (λ (b : Bool). cond b alone (timed_out n alone)) comes.waits
      ∙ ap (λ (b : Bool). cond b (ended n alone) (join n alone)) comes.has

  some : fired_then.messages ≡ [] → ⊥
  some empty = let long : 1 ≡ 0 = ap length empty in omega (arith, long)

  only : (u : SystemView) → Delivers fired_then u → u ≡ joined
  only u one =
      let come : Comes fired_then u = only_comes fired_then u some one in
      let it : (come.message ≡ over) × (come.left ≡ []) = only_taken over come.message come.left come.taken in
      come.is ∙ (λ i. arrived (it.0 i).to (it.0 i).message (without alone (it.1 i))) ∙ arrives_so

  first : (u : SystemView) × Delivers fired_then u
  first = one_comes fired_then some

  pub fired_reached : IsReached fired_then
  fired_reached =
      subst IsReached fires_so
      (later (fired_next comes.due s) (uncounted (fired_next comes.due s))
      (later s (fired_next comes.due s) reached (fires s comes.due comes.step comes.next)) (settles (fired_next comes.due s)))

  behind : (k : ℕ) × (t : SystemView) × LeadsTo k joined t × Reaches joined t × IsWoken n s comes.due t
  behind = comes_up s n reached rest comes

  abbrev last : SystemView
  last = behind.1

  leads : LeadsTo (suc behind.0) fired_then last
  leads = (first, λ u one. subst (λ (x : SystemView). LeadsTo behind.0 x last) (sym (only u one)) behind.2)

  reaches : Reaches fired_then last
  reaches = behind_one fired_then joined last (subst (Delivers fired_then) (only first.0 first.1) first.1) behind.3

  last_reached : IsReached last
  last_reached = reached_there fired_then last reaches fired_reached

  pub one_state : (k : ℕ) × (t : SystemView) × LeadsTo k (uncounted (fired_next comes.due s)) t
      × Reaches (uncounted (fired_next comes.due s)) t × HasArrived n s comes.due t
  one_state = (
    suc behind.0,
    last,
    subst (λ (x : SystemView). LeadsTo (suc behind.0) x last) (sym fires_so) leads,
    subst (λ (x : SystemView). Reaches x last) (sym fires_so) reaches,
    has_come_up s last n reached rest comes behind.4,
  )

  pub every : CanBootThere n s → (s.ends_soon ≡ true → FailOverLater s) → EveryOrderEndsAlike (uncounted (fired_next comes.due s))
  every can timed =
      subst EveryOrderEndsAlike (sym fires_so)
      (ends_alike (suc behind.0) fired_then last fired_reached leads
      (scripts_alike last n last_reached (boots_alone s last n reached rest comes behind.4)
      (can_boot s last n reached rest comes behind.4 can)
      (fails_later s last behind.4.files behind.4.ends_soon timed)).0)

-- ---- the laws

pub arrivals_meet : ArrivalsComeToOneState
arrivals_meet s n reached rest comes = one_state s n reached rest comes

pub arrivals_alike : ArrivalsEndAlike
arrivals_alike s n reached rest comes can timed = by_any_two (fired_next comes.due s) (every s n reached rest comes can timed)
