-- On live nodes the last boot of a cold start comes to rest where all nodes are up.
use Rattle.std.proofs.Common.{◌≡◌, ◌≢◌, ◌<◌, ◌+◌, ◌-◌, ◌^◌, ◌&&◌, ◌||◌, ℕ, Bool, true, false, not, cond, nat_lt, [], length, None, Some, refl, sym, ap, subst, ◌∙◌, inl, arith}
use Rattle.std.specs.Prelude.{Option, is_some, unwrap_or}
use Rattle.std.proofs.lemmas.Bool.{false≢true, true≢false, false_from_ne_true, lt-ltb}
use Rattle.std.proofs.lemmas.Bool.Decides.{nat_tests}
use Rattle.rh_model.specs.ClusterView.{ClusterView, node_count, boot_of}
use Rattle.rh_model.specs.declared.node.App.{App}
use Rattle.rh_model.specs.declared.node.Node.{Node}
use Rattle.rh_rules.specs.declared.event.Event.TheVariants as event
use Rattle.rh_trail.specs.SimView.{SimView}
use Rattle.rh_otp_node.specs.declared.node.Phase.TheVariants as phase
use Rattle.rh_otp_node.specs.Live.{LiveView, never_begun, is_alive, is_ending}
use Rattle.rh_otp_sim.specs.declared.stepping.Outcome.TheVariants as live
use Rattle.rh_otp_sim.specs.Acting.{acted, acted_at_once, is_acted, is_quiet_at_once, booted_if, most_moves}
use Rattle.rh_otp_sim.specs.Refusing.{life_in}
use Rattle.rh_otp_sim.specs.Sim.{LiveSimView, net_in}
use Rattle.rh_otp_sim.specs.Stepping.{begun, happened, cells_behind, system_with, outcome_with, with_step, stepped_with}
use Rattle.rh_otp_system.specs.Doing.{booted}
use Rattle.rh_otp_system.specs.Moves.{IsAmong, IsQuiet, IsSettled, Reaches, here, settled, is_settled_by}
use Rattle.rh_otp_system.specs.Resting.{forgotten, rested, open_of}
use Rattle.rh_otp_system.specs.State.{SystemView, live_at, node_at, is_alive_at}
use Rattle.rh_otp_system.proofs.Moving.{settles}
use Rattle.rh_otp_laws.specs.Acting.{IsThere, IsReached, later, acts, rests, takes_up}
use Rattle.rh_otp_laws.specs.Acting.{begins as node_begins}
use Rattle.rh_otp_laws.proofs.Commands.{commands_reached}
use Rattle.rh_otp_laws.proofs.Hanging.{settled_stays_so}
use Rattle.rh_otp_laws.proofs.Listing.{alive_listed}
use Rattle.rh_otp_crashes.proofs.Crash.{none_ends}
use Rattle.rh_otp_crashes.proofs.Crossing.{same_node}
use Rattle.rh_otp_joins.specs.Joins.{uncounted}
use Rattle.rh_otp_gathers.proofs.Begun.{Begins, z, here_n, at_m, boots_so}
use Rattle.rh_otp_gathers.proofs.LastBoot.{begins_so}
use Rattle.rh_otp_colds.specs.Colds.{is_there, IsColdStart}
use Rattle.rh_otp_colds.specs.Starts.{HaveComeUp, LastBootsComeUp}
use Rattle.rh_otp_colds.specs.Wholes.{CanStartTogether, IsLeft}
use Rattle.rh_otp_colds.proofs.Last.{all_begun}
use Rattle.rh_otp_colds.proofs.Starting.{is_there_so, is_last}
use Rattle.rh_otp_colds.proofs.Whole.{same_order, AllBegun}
use Rattle.rh_agreement.specs.Telling.{GoTogether}
use Rattle.rh_agreement.specs.Resting.{AreBothAtRest, held}
use Rattle.rh_agreement.proofs.Rest.{IsOver}
use Rattle.rh_agreement_colds.specs.Colds.{StartsCold}
use Rattle.rh_agreement_colds.proofs.Cells.{of_moves, of_boot}
use Rattle.rh_agreement_colds.proofs.Manual as manual

-- no node has to end, whether the command waits for that or not
neither_ends : (p q x : Bool) → (p && (q || x)) ≡ false → (p && x) ≡ false
neither_ends true true x is = absurd (true≢false is)
neither_ends true false x is = is
neither_ends false q x is = refl

-- a number that no node has: nobody is alive there
none_alive : (s : SystemView) (m : Node) → is_there s m ≡ false → is_alive_at s m ≡ false
none_alive s m none = false_from_ne_true (is_alive_at s m) (λ alive. by (live_at s m) none alive)
  where
    by : (o : Option LiveView) → is_some o ≡ false → is_alive (unwrap_or o never_begun) ≡ true → ⊥
    by None none alive = false≢true alive
    by (Some w) none alive = true≢false none

module _ (lives : LastBootsComeUp) (sim : SimView) (l : LiveSimView) (n : Node) (together : GoTogether sim l)
    (at_rest : AreBothAtRest sim l) (starts : StartsCold n sim l) where
  -- where it begins: it waits for nodes that are on their way to their end, and else it is as where a crash begins
  abbrev pub first : SystemView
  first = begun (net_in l) (event.Boot n) l

  first_reached : IsReached first
  unfolding forgotten
  first_reached = later (held l) first at_rest.reached (takes_up (held l) l.history.now (net_in l).told true (refl, refl) (λ m. inl refl))

  cold : IsColdStart first
  unfolding forgotten
  cold = record {
    names = record { wait = starts.cold.names.wait; lists = starts.cold.names.lists };
    once = starts.cold.once;
    begun = λ m some. record {
      there = (starts.cold.begun m some).there;
      node = (starts.cold.begun m some).node;
      awaits = (starts.cold.begun m some).awaits;
      sees = (starts.cold.begun m some).sees;
      not_itself = (starts.cold.begun m some).not_itself;
    };
    new = starts.cold.new;
    unseen = starts.cold.unseen;
    locks = starts.cold.locks;
    messages = starts.cold.messages;
    slow = starts.cold.slow;
    calls = starts.cold.calls;
  }

  can_start : (can : CanStartTogether first) × (can.at ≡ starts.can.at)
  unfolding forgotten
  can_start = (
    record {
      nodes = starts.can.nodes;
      has_dist = starts.can.has_dist;
      in_order = λ m there. same_order (held l) first m refl refl [] (boot_of l.cluster m) (starts.can.in_order m there);
      short = starts.can.short;
      apps = starts.can.apps;
      distributed = starts.can.distributed;
      strangers = starts.can.strangers;
      at = starts.can.at;
      runners = starts.can.runners;
      first = starts.can.first;
    },
    refl,
  )

  left : IsLeft n first
  unfolding forgotten
  left = record {
    there = starts.left.there;
    down = starts.left.down;
    others = starts.left.others;
    other = starts.left.other;
    alive = starts.left.alive;
  }

  -- ---- the node has begun

  abbrev pub base : SystemView
  base = uncounted (booted n first)

  begins : Begins n first
  begins = begins_so first n (is_last first n left.other cold left.there left.down left.others left.alive)

  base_so : booted n first ≡ z first n begins (boots_so first n begins).0
  base_so = (boots_so first n begins).1

  pub all : AllBegun base
  all = all_begun first n first_reached cold can_start.0 left

  pub cluster_so : base.cluster ≡ l.cluster
  unfolding forgotten
  cluster_so = ap (λ (s : SystemView). s.cluster) base_so

  pub files_so : base.files ≡ l.files
  unfolding forgotten
  files_so = ap (λ (s : SystemView). s.files) base_so

  clock_so : base.clock ≡ (net_in l).clock
  unfolding forgotten
  clock_so = ap (λ (s : SystemView). s.clock) base_so

  pub events_so : base.events ≡ []
  unfolding forgotten
  events_so = ap (λ (s : SystemView). s.events) base_so

  pub base_there : (m : Node) → m.0 < node_count l.cluster → IsThere m base
  base_there m within =
      is_there_so base m
      (all.can.nodes m ∙ (λ i. nat_lt m.0 (node_count (cluster_so i))) ∙ lt-ltb m.0 (node_count l.cluster) within)

  none_there : (m : Node) → m.0 ≡ node_count l.cluster → is_there base m ≡ false
  none_there m at =
      all.can.nodes m ∙ (λ i. nat_lt m.0 (node_count (cluster_so i))) ∙ below_none m.0 (node_count l.cluster) at
    where
      below_none : (k count : ℕ) → k ≡ count → nat_lt k count ≡ false
      below_none k count same = grind (arith, nat_tests, same)

  life_here : (node_at base n).life ≡ life_in l n + 1
  unfolding forgotten
  life_here = ap (λ (s : SystemView). (node_at s n).life) base_so ∙ ap (λ (x : LiveView). x.life) (here_n first n begins)

  life_there : (m : Node) → m.0 ≢ n.0 → (node_at base m).life ≡ life_in l m
  unfolding forgotten
  life_there m other = ap (λ (s : SystemView). (node_at s m).life) base_so ∙ ap (λ (x : LiveView). x.life) (at_m first n begins m other)

  -- ---- until nothing moves

  boots_if : booted_if n first ≡ booted n first
  unfolding forgotten
  boots_if = λ i.
      cond (lt-ltb n.0 (node_count l.cluster) within i && lt-ltb (life_in l n) (2 ^ 32 - 1) few i) (booted n first) first
    where
      within : n.0 < node_count l.cluster
      within = subst (λ (c : ClusterView). n.0 < node_count c) (sym together.now.cluster) (manual.within sim l n together at_rest starts)

      few : life_in l n < 2 ^ 32 - 1
      few =
          let none : life_in l n ≡ 0 = ap (λ (x : LiveView). x.life) (manual.never sim l n together at_rest starts) in
          omega (arith, none)

  abbrev pub over : SystemView
  over = settled most_moves l.order (booted n first)

  -- the system behind it
  abbrev pub behind : SystemView
  behind = rested over

  quiet : is_settled_by most_moves l.order (booted n first) ≡ true
  unfolding is_acted is_quiet_at_once
  quiet = sym (ap (λ (s : SystemView). is_settled_by most_moves l.order s) boots_if) ∙ starts.ends

  reaches : Reaches base over
  reaches = (settles most_moves l.order (booted n first)).0

  is_settled : IsSettled over
  is_settled = (settles most_moves l.order (booted n first)).1 quiet

  pub up : HaveComeUp starts.can.at base over
  up =
      subst (λ (at : App → Node). HaveComeUp at base over) can_start.1
      (lives first n first_reached cold can_start.0 left over reaches is_settled)

  runs : system_with (net_in l) (event.Boot n) l ≡ behind
  unfolding acted acted_at_once
  runs = ap (λ (s : SystemView). rested (settled most_moves l.order s)) boots_if

  pub steps_so : stepped_with (net_in l) (event.Boot n) l ≡ with_step (cells_behind (net_in l) (node_count l.cluster) behind) l
  steps_so =
      ap (λ (b : Bool). cond b (with_step (cells_behind (net_in l) (node_count l.cluster) (system_with (net_in l) (event.Boot n) l)) l) l)
      starts.ends
      ∙ ap (λ (s : SystemView). with_step (cells_behind (net_in l) (node_count l.cluster) s) l) runs

  pub comes_to : outcome_with (net_in l) (event.Boot n) l ≡ live.Done (happened (net_in l) behind)
  comes_to =
      ap (λ (b : Bool). cond b (live.Done (happened (net_in l) (system_with (net_in l) (event.Boot n) l))) live.Endless) starts.ends
      ∙ ap (λ (s : SystemView). live.Done (happened (net_in l) s)) runs

  -- ---- so it is over

  booted_reached : IsReached (booted n first)
  booted_reached = later first (booted n first) first_reached (acts first (booted n first) (node_begins first n left.there left.down))

  over_reached : IsReached over
  over_reached = commands_reached.settles_there most_moves l.order (booted n first) booted_reached

  is_quiet : IsQuiet over
  is_quiet = (settled_stays_so over over is_settled (here over)).0

  alive_so : over.alive ≡ base.alive
  alive_so = ap (λ (s : SystemView). s.alive) up.same

  -- nobody is alive whose number no node has
  nobody : (m : Node) → m.0 ≡ node_count l.cluster → is_alive_at over m ≡ false
  nobody m at =
      false_from_ne_true (is_alive_at over m) (λ alive.
      let among : IsAmong m over.alive = ((alive_listed over over_reached).exactly m).1 alive in
      false≢true (sym (none_alive base m (none_there m at))
      ∙ ((alive_listed base all.reached).exactly m).0 (subst (IsAmong m) alive_so among)))

  many : node_count l.cluster < length l.history.now → node_count l.cluster < length over.nodes.cells
  unfolding forgotten
  many inside =
      subst (λ (count : ℕ). node_count l.cluster < count) (sym (of_moves base over reaches ∙ of_boot n first left.there)) inside

  pub is_over : IsOver l behind
  unfolding rested
  is_over = record {
    inside = many together.now.cells;
    idle = record {
      calls = ap open_of up.rest.calls;
      listed = λ m among. ((alive_listed over over_reached).exactly m).0 among;
      dists = up.rest.dists;
      ends = λ m alive. neither_ends (is_ending (node_at over m)) over.ends_soon (not (node_at over m).is_stopped)
          (none_ends over m over_reached is_settled alive);
    };
    reached = later over (rested over) over_reached (rests over);
    is_quiet = is_quiet;
    cluster = ap (λ (s : SystemView). s.cluster) up.same ∙ cluster_so;
    files = ap (λ (s : SystemView). s.files) up.same ∙ files_so;
    nobody = nobody;
  }

  -- ---- what it tells of nodes and of the clock

  pub same_clock : behind.clock ≡ (net_in l).clock
  unfolding rested
  same_clock = ap (λ (s : SystemView). s.clock) up.same ∙ clock_so

  pub same_cluster : behind.cluster ≡ l.cluster
  unfolding rested
  same_cluster = ap (λ (s : SystemView). s.cluster) up.same ∙ cluster_so

  pub no_calls : behind.calls ≡ []
  unfolding rested
  no_calls = up.rest.calls

  module _ (m : Node) (within : m.0 < node_count l.cluster) where
    pub is_up : (node_at behind m).phase ≡ phase.Up
    unfolding rested
    is_up = (up.each m (base_there m within)).phase

    pub same_life : m.0 ≢ n.0 → (node_at behind m).life ≡ life_in l m
    unfolding rested
    same_life other = (up.each m (base_there m within)).life ∙ life_there m other

    pub one_life_more : m.0 ≡ n.0 → (node_at behind m).life ≡ life_in l n + 1
    unfolding rested
    one_life_more is =
        (up.each m (base_there m within)).life ∙ ap (λ (x : Node). (node_at base x).life) (same_node m n is) ∙ life_here
