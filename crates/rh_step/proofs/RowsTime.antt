-- What passes with the time, computed from the definitions.
use Rattle.std.proofs.Common.{◌≡◌, List, [], ◌∷◌, Some, refl}
use Rattle.rh_model.specs.declared.settings.Restart.TheVariants.{Permanent, Temporary}
use Rattle.rh_state.specs.declared.status.Kind.TheVariants as kind
use Rattle.rh_state.specs.declared.status.Mode.{Mode}
use Rattle.rh_state.specs.declared.status.Mode.TheVariants.{Down, Waiting, Up}
use Rattle.rh_state.specs.declared.status.Standing.{Standing}
use Rattle.rh_state.specs.declared.status.Standing.TheVariants.{Quiet, Wanted, Lost}
use Rattle.rh_state.specs.declared.status.Timer.TheVariants.{Sync, Failover}
use Rattle.rh_state.specs.First.{configured}
use Rattle.rh_state.specs.Numbers.{nodes_of, apps_of}
use Rattle.rh_state.specs.StateView.{StateView}
use Rattle.rh_rules.specs.declared.pick.Pick.TheVariants.{First}
use Rattle.rh_rules.specs.Placing.{deps_run, is_operational, best, candidates}
use Rattle.rh_rules.specs.declared.notice.Notice.TheVariants as notice
use Rattle.rh_rules.specs.Course.{course_of}
use Rattle.rh_rules.specs.Moves.{can_start, local_moves, placements, calls_away, takeovers}
use Rattle.rh_rules.specs.Settling.{next_moves, moved_by, all_moved}
use Rattle.rh_rules.specs.NodesStart.{all_alive, is_ready, come_up, come_up_if_ready, ready_come_up, booted}
use Rattle.rh_rules.specs.declared.event.Event.TheVariants.{Boot, Tick, Start, StartAll}
use Rattle.rh_rules.specs.Marking.{with_mark, mark_all}
use Rattle.rh_rules.specs.NodesEnd.{cleared, lost_if_ran, all_lost, ended}
use Rattle.rh_rules.specs.Everywhere.{targets, start_all}
use Rattle.rh_events.proofs.Scene.{p, q, job, aid, at, scene, none}
use Rattle.rh_rules.specs.Time.{effect, taken_off, fired, fired_by, all_fired, ticked}
use Rattle.rh_rules.specs.Steps.{outcome, followed, next}

abbrev quiet : List Standing
quiet = Quiet ∷ Quiet ∷ Quiet ∷ []

-- ---- the end of a wait: q waits for p, and its time is over
abbrev waiting : Mode → StateView
waiting mode = record (scene (mode ∷ Waiting ∷ []) none none quiet) { incarnations = 0 ∷ 1 ∷ []; timers = (500, Sync q) ∷ [] }

-- one without which it can't be is missing, and it ends
ends_without_a_mandatory_node_row : next (waiting Down) (Tick 500) First
    ≡ outcome (record (waiting Down) { time = 500; modes = Down ∷ Down ∷ []; timers = [] }) (notice.Ended q ∷ [])
unfolding nodes_of apps_of configured all_alive is_ready come_up_if_ready ready_come_up cleared lost_if_ran all_lost ended is_operational deps_run best
    candidates can_start local_moves placements calls_away takeovers next_moves moved_by all_moved fired fired_by all_fired ticked next
ends_without_a_mandatory_node_row = refl

waits_until_then_row : next (waiting Down) (Tick 499) First ≡ outcome (record (waiting Down) { time = 499 }) []
unfolding fired_by all_fired ticked next
waits_until_then_row = refl

-- it is alive, and q comes up
comes_up_row : effect (course_of (waiting Waiting) [] []) (Sync q) ≡ come_up (course_of (waiting Waiting) [] []) q
unfolding all_alive
comes_up_row = refl

comes_up_too_row : effect (course_of (waiting Up) [] []) (Sync q) ≡ come_up (course_of (waiting Up) [] []) q
unfolding all_alive
comes_up_too_row = refl

-- ---- a timer that fires is gone, the time is that at which it was due, and nothing is fresh any more
taken_off_row : taken_off (course_of (record (waiting Up) { timers = (500, Sync q) ∷ (500, Failover job) ∷ [] }) (notice.Up p ∷ []) (at p job ∷ [])) (500, Sync q)
    ≡ course_of (record (waiting Up) { time = 500; timers = (500, Failover job) ∷ [] }) (notice.Up p ∷ []) []
taken_off_row = refl

-- the failover timer of a lost application makes it wanted, with the node with which it was lost
failover_row : effect (course_of (scene (Down ∷ Up ∷ []) none ([] ∷ (job ∷ []) ∷ []) (Lost p ∷ Lost q ∷ Quiet ∷ [])) [] []) (Failover job)
    ≡ course_of (scene (Down ∷ Up ∷ []) none ([] ∷ (job ∷ []) ∷ []) (Wanted (Some p) ∷ Lost q ∷ Quiet ∷ [])) [] []
failover_row = refl

-- ---- job was lost with p, and could run at q, where it waits and aid runs
abbrev lost : StateView
lost = record (scene (Down ∷ Up ∷ []) ([] ∷ (aid ∷ []) ∷ []) ([] ∷ (job ∷ []) ∷ []) (Lost p ∷ Quiet ∷ Quiet ∷ [])) { timers = (1000, Failover job) ∷ [] }

-- it doesn't start before its time
lost_until_then_row : next lost (Tick 999) First ≡ outcome (record lost { time = 999 }) []
unfolding fired_by all_fired ticked next
lost_until_then_row = refl

starts_then_row : (next lost (Tick 1000) First).notices ≡ notice.Started job q kind.Normal (Some p) ∷ []
unfolding nodes_of apps_of all_alive is_ready come_up_if_ready ready_come_up is_operational deps_run best candidates can_start local_moves placements
    calls_away takeovers next_moves moved_by all_moved fired fired_by all_fired ticked next
starts_then_row = refl

-- nor where it is started elsewhere than at the node with which it was lost
abbrev lost_here : StateView
lost_here = record lost { waiting = [] ∷ [] ∷ [] }

start_elsewhere_row : next lost_here (Start q job Permanent) First
    ≡ outcome (record lost { restarts = (next lost_here (Start q job Permanent) First).state.restarts }) (notice.Waits job q ∷ [])
unfolding with_mark nodes_of apps_of is_ready come_up_if_ready ready_come_up is_operational deps_run best candidates can_start local_moves placements
    calls_away takeovers next_moves moved_by all_moved followed next
start_elsewhere_row = refl

-- nor where it is started at all nodes, since that one is down
start_all_row : next lost_here (StartAll job Permanent) First
    ≡ outcome (record lost {
      restarts = (Temporary ∷ Temporary ∷ Temporary ∷ Temporary ∷ Temporary ∷ []) ∷ (Permanent ∷ Temporary ∷ Temporary ∷ Temporary ∷ Temporary ∷ []) ∷ [];
    }) (notice.Waits job q ∷ [])
unfolding start_all targets with_mark nodes_of apps_of is_ready come_up_if_ready ready_come_up is_operational deps_run best candidates can_start local_moves
    placements calls_away takeovers next_moves moved_by all_moved followed next
start_all_row = refl

-- where it is up it is started there too, and wanted at once
start_all_at_that_node_row : (next (record lost_here { modes = Up ∷ Up ∷ [] }) (StartAll job Permanent) First).notices
    ≡ notice.Started job q kind.Normal (Some p) ∷ notice.Waits job p ∷ []
unfolding start_all targets with_mark nodes_of apps_of is_ready come_up_if_ready ready_come_up is_operational deps_run best candidates can_start local_moves
    placements calls_away takeovers next_moves moved_by all_moved followed next
start_all_at_that_node_row = refl

-- but where that node comes back and boots it, it is wanted at once: it starts where it can
comes_back_row : (next lost (Boot p) First).notices ≡ notice.Up p ∷ notice.Started job q kind.Normal (Some p) ∷ notice.Waits job p ∷ []
unfolding booted with_mark mark_all come_up come_up_if_ready ready_come_up nodes_of apps_of all_alive is_ready is_operational deps_run best candidates
    can_start local_moves placements calls_away takeovers next_moves moved_by all_moved followed next
comes_back_row = refl

cancelled_row : (next lost (Boot p) First).state.timers ≡ []
unfolding booted with_mark mark_all come_up come_up_if_ready ready_come_up nodes_of apps_of all_alive is_ready is_operational deps_run best candidates
    can_start local_moves placements calls_away takeovers next_moves moved_by all_moved followed next
cancelled_row = refl
