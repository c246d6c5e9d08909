-- Worked rows: three nodes n1, n2 and n3, and a distributed application, web, which may run at all of them.
use Rattle.std.proofs.Common.{◌≡◌, ◌≤◌, ◌+◌, ◌-◌, ℕ, zero, suc, true, false, Some, None, [], ◌∷◌, codes, slice_get, inl, inr, refl, ap, ◌∙◌, arith}
use Rattle.std.proofs.lemmas.Option.{same_Some}
use Rattle.rh_model.specs.ClusterView.{ClusterView, NodeView, numbered, app_numbered}
use Rattle.rh_model.proofs.PlainNode.{plain_node}
use Rattle.rh_model.specs.declared.node.Node.{Node}
use Rattle.rh_model.specs.declared.node.App.{App}
use Rattle.rh_model.specs.declared.settings.SyncWait.TheVariants.{After}
use Rattle.rh_state.specs.Numbers.{nodes_of, apps_of}
use Rattle.rh_state.specs.declared.status.Mode.TheVariants as mode
use Rattle.rh_state.specs.declared.status.Kind.TheVariants as kind
use Rattle.rh_state.specs.declared.status.Standing.TheVariants as standing
use Rattle.rh_state.specs.declared.status.Timer.TheVariants.{Sync, Failover}
use Rattle.rh_state.specs.First.{configured, first}
use Rattle.rh_state.specs.Limits.{time_limit}
use Rattle.rh_state.specs.StateView.{StateView}
use Rattle.rh_rules.specs.declared.event.Event.TheVariants.{Crash, Tick}
use Rattle.rh_rules.specs.declared.pick.Pick.TheVariants.{First}
use Rattle.rh_rules.specs.declared.refusal.Refusal.TheVariants.{TimeLimit}
use Rattle.rh_rules.specs.Placing.{deps_run, is_operational, best, candidates}
use Rattle.rh_rules.specs.Moves.{can_start, local_moves, placements, calls_away, takeovers}
use Rattle.rh_rules.specs.Settling.{next_moves, moved_by, all_moved}
use Rattle.rh_rules.specs.NodesStart.{all_alive, is_ready, come_up_if_ready, ready_come_up}
use Rattle.rh_rules.specs.NodesEnd.{cleared, lost_if_ran, all_lost, ended}
use Rattle.rh_rules.specs.Refusals.{refused}
use Rattle.rh_rules.specs.Steps.{next}
use Rattle.rh_rules.specs.Time.{fired, fired_by, all_fired, ticked}
use Rattle.rh_step.specs.Runs.{step}
use Rattle.rh_explore.specs.declared.moves.Move.{Move}
use Rattle.rh_explore.specs.declared.moves.Move.TheVariants.{Make, Wait}
use Rattle.rh_explore.specs.declared.asking.Condition.TheVariants.{RunsSomewhere, RunsNowhere, RunsAt, IsUp, IsNotUp, RunsAtMostOnce, NothingHangs}
use Rattle.rh_explore.specs.declared.bounds.Covered.TheVariants as covered
use Rattle.rh_explore.specs.Asking.{has_timer, is_so}
use Rattle.rh_explore.specs.Exploring.{CoversAll}
use Rattle.rh_explore.specs.Moves.{ms_to, event_in}
use Rattle.rh_keys.specs.Keys.{key_of, node_numbers, pair_numbers, app_numbers}
use Rattle.rh_keys.specs.Packed.{packed_key, packed_node, packed_pair}
use Rattle.rh_explore.specs.Reaching.{Scope, not_up_count}
use Rattle.rh_explore.specs.Before.{ComesBefore}

abbrev n1 : Node
n1 = numbered 0

abbrev n2 : Node
n2 = numbered 1

abbrev n3 : Node
n3 = numbered 2

abbrev n4 : Node
n4 = numbered 3

abbrev web : App
web = app_numbered 0

abbrev other : App
other = app_numbered 1

abbrev alone : NodeView
alone = record plain_node { permissions = true ∷ [] }

abbrev cluster : ClusterView
cluster = record {
  profile = 1;
  node_names = codes "n1" ∷ codes "n2" ∷ codes "n3" ∷ [];
  app_names = codes "web" ∷ [];
  platform_names = [];
  nodes = alone ∷ alone ∷ alone ∷ [];
  apps = record { deps = []; start_arg = None; phases = false; spread = Some (record { timeout = 5000; groups = (n1 ∷ []) ∷ (n2 ∷ n3 ∷ []) ∷ [] }) } ∷ [];
}

-- n1 is down and web was lost with it, n2 waits, n3 is up; web waits at n3, where it was taken over from n2 once, and may not run at n2
abbrev lost : StateView
lost = record (first cluster) {
  time = 700;
  modes = mode.Down ∷ mode.Waiting ∷ mode.Up ∷ [];
  incarnations = 2 ∷ 1 ∷ 4 ∷ [];
  waiting = [] ∷ [] ∷ (web ∷ []) ∷ [];
  kinds = (kind.Normal ∷ []) ∷ (kind.Failover n1 ∷ []) ∷ (kind.Takeover n2 ∷ []) ∷ [];
  allowed = (true ∷ []) ∷ (false ∷ []) ∷ (true ∷ []) ∷ [];
  standings = standing.Lost n1 ∷ [];
  timers = (1200, Sync n2) ∷ (5600, Failover web) ∷ [];
}

-- all are up, and web runs at n2
abbrev running : StateView
running = record (first cluster) {
  modes = mode.Up ∷ mode.Up ∷ mode.Up ∷ [];
  running = [] ∷ (web ∷ []) ∷ [] ∷ [];
  standings = standing.Running n2 ∷ [];
}

-- ---- what a wait is: until n2's timer at 1,200 half a second passes, and at least a millisecond for one that is due
row_wait : event_in lost Wait ≡ Some (Tick 500)
row_wait = refl

row_no_wait : event_in running Wait ≡ None
row_no_wait = refl

row_due_now : ms_to lost (700, Sync n2) ≡ 1
row_due_now = refl

-- ---- what is asked
row_timers : has_timer lost ≡ true
row_timers = refl

row_quiet : has_timer running ≡ false
row_quiet = refl

row_nowhere : is_so lost (RunsNowhere web) ≡ true
unfolding nodes_of
row_nowhere = refl

row_somewhere : is_so running (RunsSomewhere web) ≡ true
unfolding nodes_of
row_somewhere = refl

row_unknown_app : is_so running (RunsSomewhere other) ≡ false
unfolding nodes_of
row_unknown_app = refl

row_runs_at : is_so running (RunsAt web n2) ≡ true
row_runs_at = refl

row_runs_elsewhere : is_so running (RunsAt web n1) ≡ false
row_runs_elsewhere = refl

-- at no two nodes, at one or at none; and not where it runs at two, which the rules never let come
row_once : is_so running (RunsAtMostOnce web) ≡ true
unfolding nodes_of
row_once = refl

row_never : is_so lost (RunsAtMostOnce web) ≡ true
unfolding nodes_of
row_never = refl

row_twice : is_so (record running { running = (web ∷ []) ∷ (web ∷ []) ∷ [] ∷ [] }) (RunsAtMostOnce web) ≡ false
unfolding nodes_of
row_twice = refl

row_hangs : is_so lost NothingHangs ≡ true
row_hangs = refl

-- one that waits is not up, and neither is one that isn't there
row_waits : is_so lost (IsNotUp n2) ≡ true
row_waits = refl

row_up : is_so lost (IsUp n3) ≡ true
row_up = refl

row_unknown : is_so running (IsNotUp n4) ≡ true
row_unknown = refl

-- ---- what is to be met in time
-- web was lost with n1, and waits at n3: from its timer on it runs there, and not a millisecond before
abbrev failing_over : StateView
failing_over = record (first cluster) {
  modes = mode.Down ∷ mode.Down ∷ mode.Up ∷ [];
  waiting = [] ∷ [] ∷ (web ∷ []) ∷ [];
  standings = standing.Lost n1 ∷ [];
  timers = (5000, Failover web) ∷ [];
}

row_before_its_timer : is_so (step First failing_over (Tick 4999)) (RunsAt web n3) ≡ false
unfolding fired_by all_fired ticked next step
row_before_its_timer = refl

row_at_its_timer : is_so (step First failing_over (Tick 5000)) (RunsAt web n3) ≡ true
unfolding nodes_of apps_of configured all_alive is_ready come_up_if_ready ready_come_up is_operational deps_run best candidates can_start local_moves
    placements calls_away takeovers next_moves moved_by all_moved fired fired_by all_fired ticked next step
row_at_its_timer = refl

row_behind_its_timer : is_so (step First failing_over (Tick 9000)) (RunsAt web n3) ≡ true
unfolding nodes_of apps_of configured all_alive is_ready come_up_if_ready ready_come_up is_operational deps_run best candidates can_start local_moves
    placements calls_away takeovers next_moves moved_by all_moved fired fired_by all_fired ticked next step
row_behind_its_timer = refl

-- were web to stand as running at n2 while that waits for n1, the end of the wait would set a timer. Behind a tick to that one web runs
-- at n3, and behind none to a timer of now that is due so soon: that a cluster reaches the state is needed. (In a tick at most as
-- many timers fire as are set when it begins, so a second one is set here.)
abbrev amiss : StateView
amiss = record (first (record cluster { nodes = alone ∷ record alone { mandatory = n1 ∷ []; sync_wait = After 1200 } ∷ alone ∷ [] })) {
  modes = mode.Down ∷ mode.Waiting ∷ mode.Up ∷ [];
  waiting = [] ∷ [] ∷ (web ∷ []) ∷ [];
  standings = standing.Running n2 ∷ [];
  timers = (1200, Sync n2) ∷ (9000, Sync n1) ∷ [];
}

row_not_at_the_timer : is_so (step First amiss (Tick 1200)) (RunsAt web n3) ≡ false
unfolding nodes_of apps_of configured all_alive is_ready come_up_if_ready ready_come_up cleared lost_if_ran all_lost ended is_operational deps_run best
    candidates can_start local_moves placements calls_away takeovers next_moves moved_by all_moved fired fired_by all_fired ticked next step
row_not_at_the_timer = refl

row_at_another_tick : is_so (step First amiss (Tick 6200)) (RunsAt web n3) ≡ true
unfolding nodes_of apps_of configured all_alive is_ready come_up_if_ready ready_come_up cleared lost_if_ran all_lost ended is_operational deps_run best
    candidates can_start local_moves placements calls_away takeovers next_moves moved_by all_moved fired fired_by all_fired ticked next step
row_at_another_tick = refl

-- where the limit of time is nearer than the timer, the tick that would reach it is refused: that the limit lets it wait is needed
abbrev at_the_limit : StateView
at_the_limit = record failing_over { time = time_limit - 100; timers = (time_limit + 50, Failover web) ∷ [] }

row_past_the_limit : refused at_the_limit (Tick 150) ≡ Some TimeLimit
unfolding refused
row_past_the_limit = refl

row_met_past_it : is_so (step First at_the_limit (Tick 150)) (RunsAt web n3) ≡ true
unfolding nodes_of apps_of configured all_alive is_ready come_up_if_ready ready_come_up is_operational deps_run best candidates can_start local_moves
    placements calls_away takeovers next_moves moved_by all_moved fired fired_by all_fired ticked next step
row_met_past_it = refl

-- ---- how many are not up
row_two_not_up : not_up_count lost ≡ 2
unfolding nodes_of
row_two_not_up = refl

row_none_not_up : not_up_count running ≡ 0
unfolding nodes_of
row_none_not_up = refl

-- ---- the key: of each node its mode, what runs, what waits, and of each application its restart type, and whether it may run; of each
-- application where it stands; and the timers, counted from 700
row_key : key_of lost
    ≡ 0 ∷ 0 ∷ 0 ∷ 2 ∷ 1
    ∷ 1 ∷ 0 ∷ 0 ∷ 2 ∷ 0
    ∷ 2 ∷ 0 ∷ 1 ∷ 0 ∷ 2 ∷ 1
    ∷ 4 ∷ 0
    ∷ 500 ∷ 0 ∷ 1 ∷ 4900 ∷ 1 ∷ 0 ∷ []
unfolding key_of node_numbers pair_numbers app_numbers nodes_of apps_of
row_key = refl

-- ---- as it is kept: the restart type and the permission of a pair are one number
row_packed : packed_key lost
    ≡ 0 ∷ 0 ∷ 0 ∷ 6
    ∷ 1 ∷ 0 ∷ 0 ∷ 2
    ∷ 2 ∷ 0 ∷ 1 ∷ 0 ∷ 6
    ∷ 4 ∷ 0
    ∷ 500 ∷ 0 ∷ 1 ∷ 4900 ∷ 1 ∷ 0 ∷ []
unfolding packed_key packed_node packed_pair app_numbers nodes_of apps_of
row_packed = refl

-- ---- the order of lists: a shorter one comes first, and of those that are as long the one whose event is the earlier move
abbrev scope : Scope
scope = record { base = running; pick = First; moves = Make (Crash n1) ∷ Make (Crash n2) ∷ []; down = 3 }

row_shorter_first : ComesBefore scope (Crash n2 ∷ []) (Crash n1 ∷ Crash n2 ∷ [])
row_shorter_first = inl (omega arith)

row_earlier_move_first : ComesBefore scope (Crash n1 ∷ []) (Crash n2 ∷ [])
row_earlier_move_first = inr (refl, inl (record { place = 0; move = Make (Crash n1); listed = refl; is = refl; first = not_before }))
  where
    not_before : (k : ℕ) (m : Move) → k ≤ 0 → slice_get scope.moves k ≡ Some m → event_in running m ≡ Some (Crash n2) → ⊥
    not_before zero m l at is =
        let same : Some (Crash n1) ≡ Some (Crash n2) = ap (event_in running) (same_Some (Make (Crash n1)) m at) ∙ is in
        let nodes : n1 ≡ n2 = cc same in
        omega (arith, ap (λ (n : Node). n.0) nodes)
    not_before (suc k) m l at is = omega (arith, l)

-- ---- what is covered
row_all_covered : CoversAll 12 covered.All
row_all_covered = tt
