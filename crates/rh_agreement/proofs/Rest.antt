-- Live nodes at rest are at rest where the next command begins.
use Rattle.std.proofs.Common.{◌≡◌, ◌≢◌, ◌<◌, ◌≤◌, ◌+◌, ◌&&◌, ◌||◌, ℕ, Bool, true, false, not, cond, List, [], length, slice_get, unwrap_or, Option, Some, None, refl, sym, ap, subst, ◌∙◌, inl, inr, arith}
use Rattle.std.specs.Option.{option_and_then}
use Rattle.std.proofs.lemmas.Bool.{cases_eq, false≢true, false_from_ne_true}
use Rattle.std.proofs.lemmas.List.Elements.{All-weaker}
use Rattle.std.proofs.lemmas.Option.{none-some}
use Rattle.rh_model.specs.ClusterView.{ClusterView, node_count}
use Rattle.rh_model.specs.declared.node.Node.{Node}
use Rattle.rh_rules.specs.declared.event.Event.TheVariants as event
use Rattle.rh_otp_model.specs.declared.wait.OwnFile.{OwnFile}
use Rattle.rh_otp_model.specs.declared.process.Role.TheVariants as role
use Rattle.rh_otp_model.specs.Processes.{process_at}
use Rattle.rh_otp_dist.specs.State.{DistView}
use Rattle.rh_otp_net.specs.declared.timers.Timer.{Timer}
use Rattle.rh_otp_net.specs.Timers.{next_due}
use Rattle.rh_otp_node.specs.declared.node.Phase.{Phase}
use Rattle.rh_otp_node.specs.Live.{LiveView, never_begun, is_down, is_alive, is_ending}
use Rattle.rh_otp_sim.specs.Acting.{most_moves}
use Rattle.rh_otp_sim.specs.Sim.{LiveSimView, net_in, net_of_cell}
use Rattle.rh_otp_sim.specs.Stepping.{net_behind, cells_behind, ends_with, with_step}
use Rattle.rh_otp_system.specs.declared.calls.Call.{Call}
use Rattle.rh_otp_system.specs.declared.cell.Cell.{Cell}
use Rattle.rh_otp_system.specs.declared.cell.Cell.TheVariants as cell
use Rattle.rh_otp_system.specs.declared.moves.Move.TheVariants as move
use Rattle.rh_otp_system.specs.Moves.{IsAmong, IsQuiet, IsSettled, can_go_on_at, is_to_end, here, settled}
use Rattle.rh_otp_system.specs.Resting.{forgotten, rested, open_of, crashed}
use Rattle.rh_otp_system.specs.State.{SystemView, system_of, live_in, node_at, is_alive_at}
use Rattle.rh_otp_system.specs.Views.{NetView}
use Rattle.rh_otp_system.proofs.Moving.{settles}
use Rattle.rh_otp_laws.specs.Acting.{IsReached, later, acts, crashes, passes, ticks, rests, forgets, takes_up, taken_up, HasNodesOf, IsNoneDueBefore}
use Rattle.rh_otp_laws.proofs.Commands.{commands_reached}
use Rattle.rh_otp_laws.proofs.Hanging.{settled_stays_so}
use Rattle.rh_otp_laws.proofs.Listing.{alive_listed}
use Rattle.rh_otp_laws.proofs.Nodes.{same_number, written_elsewhere}
use Rattle.rh_otp_laws.proofs.Ticking.{none_until}
use Rattle.rh_otp_crashes.specs.Crashes.{IsUnoccupied, AreAtRest, FailOverLater}
use Rattle.rh_otp_crashes.proofs.Crash.{none_ends, lives_of}
use Rattle.rh_otp_crashes.proofs.Falling.{Fallout}
use Rattle.rh_otp_crashes.proofs.Peace.{here_in, is_free_at_ease, no_lock_at}
use Rattle.rh_trail.specs.SimView.{SimView}
use Rattle.rh_agreement.specs.Laws.{IsStill, ticking}
use Rattle.rh_agreement.specs.Resting.{ReachesNoTimer, held}
use Rattle.rh_agreement.proofs.CrashAlike.{behind_it, inside_it, quiet_it}
use Rattle.rh_agreement.proofs.Crashing.{Ends, fallen, settled_ends}
use Rattle.rh_agreement.proofs.Quiet as quiet
use Rattle.rh_agreement.proofs.Stepping.{net_so, set_here}

-- No call is open; no dist_ac of a node that is alive stands in the middle of something, and no such node has to end.
pub record AreIdle (s : SystemView) : Type 0 where
  pub calls : open_of s.calls ≡ []
  pub listed : (n : Node) → IsAmong n s.alive → is_alive_at s n ≡ true
  pub dists : (n : Node) (d : DistView) → is_alive_at s n ≡ true → (node_at s n).dist ≡ Some d → IsUnoccupied d
  pub ends : (n : Node) → is_alive_at s n ≡ true → (is_ending (node_at s n) && not (node_at s n).is_stopped) ≡ false

-- So a command ends: nothing is on its way, live nodes reach it, and there is a cell for what is between them, and no node in its place.
pub record IsOver (l : LiveSimView) (last : SystemView) : Type 0 where
  pub inside : node_count l.cluster < length last.nodes.cells
  pub idle : AreIdle last
  pub reached : IsReached last
  pub is_quiet : IsQuiet last
  pub cluster : last.cluster ≡ l.cluster
  pub files : last.files ≡ l.files
  pub nobody : (n : Node) → n.0 ≡ node_count l.cluster → is_alive_at last n ≡ false

-- ---- nothing can move where the next one begins

no_place : (k : ℕ) → k < 0 → ⊥
no_place k below = omega (arith, below)

abbrev in_cell : Option Cell → LiveView
in_cell o = unwrap_or (option_and_then live_in o) never_begun

never_locks : (n : Node) (s : SystemView) → node_at s n ≡ never_begun → can_go_on_at n s ≡ false
never_locks n s never = no_lock_at n s (node_at s n).dist (λ d has. absurd (none-some d (sym (ap (λ (v : LiveView). v.dist) never) ∙ has)))

module _ (l : LiveSimView) (last : SystemView) (over : IsOver l last) where
  abbrev place : ℕ
  place = node_count l.cluster

  abbrev net : NetView
  net = net_behind (net_in l) last

  abbrev cells : List Cell
  cells = cells_behind (net_in l) place last

  -- where the next command begins
  abbrev begins : SystemView
  begins = forgotten (system_of l.cluster l.files cells net false)

  node_there : (n : Node) → n.0 ≢ place → node_at begins n ≡ node_at last n
  unfolding forgotten
  node_there n other = ap in_cell (written_elsewhere last.nodes.cells place n.0 (cell.Net net) other)

  node_here : (n : Node) → n.0 ≡ place → node_at begins n ≡ never_begun
  unfolding forgotten
  node_here n same =
      ap (λ (k : ℕ). in_cell (slice_get cells k)) same ∙ ap in_cell (set_here last.nodes.cells place (cell.Net net) over.inside)

  dists_so : (n : Node) (d : DistView) → is_alive_at begins n ≡ true → (node_at begins n).dist ≡ Some d → IsUnoccupied d
  dists_so n d is has = elim (cases_eq n.0 place) [
    | inl same ↦ absurd (false≢true (sym (ap is_alive (node_here n same)) ∙ is))
    | inr other ↦ over.idle.dists n d (sym (ap is_alive (node_there n other)) ∙ is) (sym (ap (λ (v : LiveView). v.dist) (node_there n other)) ∙ has)
  ]

  listed_so : (n : Node) → IsAmong n begins.alive → is_alive_at last n ≡ true
  unfolding forgotten
  listed_so n among = over.idle.listed n among

  locks_so : (n : Node) → IsAmong n begins.alive → can_go_on_at n begins ≡ false
  locks_so n among = elim (cases_eq n.0 place) [
    | inl same ↦ never_locks n begins (node_here n same)
    | inr other ↦ no_lock_at n begins (node_at begins n).dist
        (λ d has. is_free_at_ease d (over.idle.dists n d (listed_so n among) (sym (ap (λ (v : LiveView). v.dist) (node_there n other)) ∙ has)))
  ]

  ends_so : (n : Node) → IsAmong n begins.alive → is_to_end n begins ≡ false
  unfolding forgotten
  ends_so n among = elim (cases_eq n.0 place) [
    | inl same ↦ ap (λ (v : LiveView). is_ending v && not v.is_stopped) (node_here n same)
    | inr other ↦ ap (λ (v : LiveView). is_ending v && not v.is_stopped) (node_there n other) ∙ over.idle.ends n (listed_so n among)
  ]

  calls_so : begins.calls ≡ []
  unfolding forgotten
  calls_so = over.idle.calls

  settled_so : IsSettled begins
  unfolding forgotten
  settled_so (move.Deliver k) possible = no_place k possible
  settled_so (move.Slow k) possible = no_place k possible.1
  settled_so (move.Lock n) possible = false≢true (sym (locks_so n possible.1) ∙ possible.2)
  settled_so (move.Call k) possible =
      none-some possible.1.0 (sym (ap (λ (waiting : List Call). slice_get waiting k) calls_so) ∙ possible.1.1)
  settled_so (move.End n) possible = false≢true (sym (ends_so n possible.1) ∙ possible.2)

  pub rests_again : AreAtRest (held (with_step cells l))
  rests_again =
      subst (λ (v : NetView). AreAtRest (forgotten (system_of l.cluster l.files cells v false)))
      (sym (net_so l last.nodes.cells net over.inside))
      (record { settled = settled_so; calls = calls_so; dists = dists_so })

  -- ---- and live nodes reach it

  nodes_so : HasNodesOf last (taken_up last cells net.told false)
  nodes_so n = elim (cases_eq n.0 place) [
    | inl same ↦ inr (
      ap (λ (k : ℕ). option_and_then live_in (slice_get cells k)) same
          ∙ ap (λ (o : Option Cell). option_and_then live_in o) (set_here last.nodes.cells place (cell.Net net) over.inside),
      over.nobody n same,
    )
    | inr other ↦ inl (ap (λ (o : Option Cell). option_and_then live_in o) (written_elsewhere last.nodes.cells place n.0 (cell.Net net) other))
  ]

  taken : IsReached (system_of last.cluster last.files cells net false)
  taken = later last (taken_up last cells net.told false) over.reached (takes_up last cells net.told false over.is_quiet nodes_so)

  of_them : IsReached (system_of l.cluster l.files cells net false)
  of_them =
      subst (λ (c : ClusterView). IsReached (system_of c l.files cells net false)) over.cluster
      (subst (λ (files : List OwnFile). IsReached (system_of last.cluster files cells net false)) over.files taken)

  pub reached_again : IsReached (held (with_step cells l))
  reached_again =
      subst (λ (v : NetView). IsReached (forgotten (system_of l.cluster l.files cells v false)))
      (sym (net_so l last.nodes.cells net over.inside))
      (later (system_of l.cluster l.files cells net false) begins of_them (forgets (system_of l.cluster l.files cells net false)))

-- ---- where a command begins

-- a cell that has a live node has nothing of what is between them
no_net : (o : Option Cell) → is_alive (in_cell o) ≡ true → (net_of_cell o).alive ≡ []
no_net None is = absurd (false≢true is)
no_net (Some (cell.Node v)) is = refl
no_net (Some (cell.Net _)) is = absurd (false≢true is)

pub nobody_there : (l : LiveSimView) → IsReached (held l) → (n : Node) → n.0 ≡ node_count l.cluster → is_alive_at (held l) n ≡ false
unfolding forgotten
nobody_there l reached n there =
    false_from_ne_true (is_alive_at (held l) n) (λ alive.
    let among : IsAmong n (net_in l).alive = ((alive_listed (held l) reached).exactly n).1 alive in
    let none : (net_in l).alive ≡ [] =
    no_net (slice_get l.history.now (node_count l.cluster))
    (sym (ap (λ (k : ℕ). is_alive (in_cell (slice_get l.history.now k))) there) ∙ alive) in
    none-some n (sym (ap (λ (nodes : List Node). slice_get nodes among.0) none) ∙ among.1))

pub idle_at_rest : (l : LiveSimView) → IsReached (held l) → AreAtRest (held l) → AreIdle (held l)
unfolding forgotten
idle_at_rest l reached rest = record {
  calls = ap open_of rest.calls;
  listed = λ n among. ((alive_listed (held l) reached).exactly n).0 among;
  dists = rest.dists;
  ends = λ n alive. none_ends (held l) n reached rest.settled alive;
}

-- ---- a tick

pub rests_still : (sim : SimView) (l : LiveSimView) (ms : ℕ) → IsReached (held l) → AreAtRest (held l) → ReachesNoTimer ms sim l → IsStill ms sim l
unfolding forgotten
rests_still sim l ms reached rest none =
    let idle : AreIdle (held l) = idle_at_rest l reached rest in
    record {
      timers = none.timers;
      live_timers = none.live_timers;
      calls = rest.calls;
      locks = λ n among. no_lock_at n (ticking ms l) (node_at (ticking ms l) n).dist (λ d has. is_free_at_ease d (idle.dists n d (idle.listed n among) has));
      ends = λ n among. idle.ends n (idle.listed n among);
    }

module _ (sim : SimView) (l : LiveSimView) (ms : ℕ) (inside : node_count l.cluster < length l.history.now) (reached : IsReached (held l))
    (rest : AreAtRest (held l)) (none : ReachesNoTimer ms sim l) (still : IsStill ms sim l) (within : (net_in l).clock + ms ≤ 1000000000000) where
  abbrev end : ℕ
  end = (net_in l).clock + ms

  abbrev ticked : SystemView
  ticked = quiet.behind ms sim l still within

  none_before : IsNoneDueBefore end (held l).timers
  unfolding forgotten
  none_before =
      All-weaker (λ (t : Timer). end < t.due) (λ (t : Timer). end ≤ t.due) (λ t later. omega (arith, later)) (held l).timers
      (none_until end (held l).timers (next_due (held l).timers) refl none.live_timers)

  tick_reached : IsReached ticked
  unfolding forgotten
  tick_reached =
      let passed : SystemView = record (held l) { clock = end } in
      let over : SystemView = record passed { is_ticking = false } in
      later over (rested over)
      (later passed over (later (held l) passed reached (passes (held l) end (omega arith) none_before)) (ticks passed false)) (rests over)

  pub tick_over : IsOver l ticked
  unfolding rested forgotten
  tick_over =
      let idle : AreIdle (held l) = idle_at_rest l reached rest in
      record {
        inside = inside;
        idle = record { calls = idle.calls; listed = idle.listed; dists = idle.dists; ends = idle.ends };
        reached = tick_reached;
        is_quiet = (refl, refl);
        cluster = refl;
        files = refl;
        nobody = nobody_there l reached;
      }

-- ---- a crash

module _ (l : LiveSimView) (n : Node) (over : ends_with (net_in l) (event.Crash n) l ≡ true) (inside : node_count l.cluster < length l.history.now)
    (reached : IsReached (held l)) (rest : AreAtRest (held l)) (timed : FailOverLater (held l)) where
  abbrev settled_then : SystemView
  settled_then = settled most_moves l.order (crashed n (held l))

  crash_ends : Ends n (held l) settled_then
  crash_ends = settled_ends n most_moves l.order (held l) reached rest timed

  crash_falls : Fallout (lives_of (held l)) (process_at (here_in (lives_of (held l)) n) role.DistAc) settled_then
  crash_falls = fallen n most_moves l.order (held l) reached rest timed

  crash_idle : AreIdle settled_then
  unfolding forgotten
  crash_idle = record {
    calls = ap open_of (crash_ends.calls ∙ rest.calls);
    listed = crash_falls.peace.listed;
    dists = crash_falls.peace.dists;
    ends = λ k alive.
        sym (ap (λ (soon : Bool). is_ending (node_at settled_then k) && (soon || not (node_at settled_then k).is_stopped)) crash_ends.soon)
        ∙ crash_falls.peace.ends k alive;
  }

  crash_quiet : IsQuiet settled_then
  crash_quiet =
      (settled_stays_so settled_then settled_then ((settles most_moves l.order (crashed n (held l))).1 (quiet_it l n over)) (here settled_then)).0

  crash_reached : IsReached settled_then
  crash_reached =
      commands_reached.settles_there most_moves l.order (crashed n (held l))
      (later (held l) (crashed n (held l)) reached (acts (held l) (crashed n (held l)) (crashes (held l) n)))

  -- a number that no node had none has
  crash_nobody : (k : Node) → k.0 ≡ node_count l.cluster → is_alive_at settled_then k ≡ false
  crash_nobody k there = elim (cases_eq k.0 n.0) [
    | inl same ↦ ap is_alive (same_number settled_then k n same) ∙ crash_ends.itself
    | inr other ↦ ap (λ (p : Phase). cond (is_down p) false true) (crash_ends.others k other) ∙ nobody_there l reached k there
  ]

  pub crash_over : IsOver l (behind_it l n over)
  unfolding rested forgotten
  crash_over = record {
    inside = inside_it l n over reached rest timed inside;
    idle = record { calls = crash_idle.calls; listed = crash_idle.listed; dists = crash_idle.dists; ends = crash_idle.ends };
    reached = later settled_then (rested settled_then) crash_reached (rests settled_then);
    is_quiet = crash_quiet;
    cluster = crash_ends.cluster;
    files = crash_ends.files;
    nobody = crash_nobody;
  }
