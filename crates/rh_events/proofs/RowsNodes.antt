-- How nodes boot, come up and end, computed from the definitions.
use Rattle.std.proofs.Common.{◌≡◌, List, [], ◌∷◌, Some, None, true, false, refl}
use Rattle.rh_model.specs.declared.settings.Restart.TheVariants.{Transient, Temporary}
use Rattle.rh_model.specs.declared.settings.SyncWait.{SyncWait}
use Rattle.rh_model.specs.declared.settings.SyncWait.TheVariants.{Unset, After, Forever}
use Rattle.rh_state.specs.declared.status.Mode.TheVariants.{Down, Waiting, Up}
use Rattle.rh_state.specs.declared.status.Standing.{Standing}
use Rattle.rh_state.specs.declared.status.Standing.TheVariants.{Quiet, Wanted, Running, Lost}
use Rattle.rh_state.specs.declared.status.Timer.TheVariants.{Sync, Failover}
use Rattle.rh_state.specs.First.{configured}
use Rattle.rh_state.specs.Numbers.{nodes_of, apps_of}
use Rattle.rh_state.specs.StateView.{StateView}
use Rattle.rh_rules.specs.declared.notice.Notice.TheVariants as notice
use Rattle.rh_rules.specs.Course.{course_of}
use Rattle.rh_rules.specs.NodesStart.{all_alive, is_ready, come_up, come_up_if_ready, ready_come_up, booted}
use Rattle.rh_rules.specs.declared.event.Event.TheVariants.{Boot, Crash}
use Rattle.rh_rules.specs.Marking.{with_mark, mark_all}
use Rattle.rh_rules.specs.NodesEnd.{cleared, lost_if_ran, all_lost, ended}
use Rattle.rh_rules.specs.Steps.{change}
use Rattle.rh_events.proofs.Scene.{p, q, job, twin, far, tool, aid, at, scene_of, scene, none}

abbrev quiet : List Standing
quiet = Quiet ∷ Quiet ∷ Quiet ∷ []

-- ---- a node that boots counts one start more and waits; how long, says its timeout
abbrev dark : SyncWait → StateView
dark wait = record (scene_of wait (Up ∷ Down ∷ []) none none quiet) { time = 40; incarnations = 1 ∷ 6 ∷ []; timers = (90, Failover job) ∷ [] }

abbrev waits : SyncWait → StateView
waits wait = record (dark wait) { modes = Up ∷ Waiting ∷ []; incarnations = 1 ∷ 7 ∷ [] }

boot_row : change (course_of (dark (After 500)) [] []) (Boot q)
    ≡ course_of (record (waits (After 500)) { timers = (90, Failover job) ∷ (540, Sync q) ∷ [] }) [] []
unfolding booted
boot_row = refl

-- a timeout of 0 is due now, before what is due later
boot_with_no_time_row : booted (dark (After 0)) q ≡ record (waits (After 0)) { timers = (40, Sync q) ∷ (90, Failover job) ∷ [] }
unfolding booted
boot_with_no_time_row = refl

-- without a timeout, and with an infinite one, there is no timer
boot_without_a_timeout_row : booted (dark Unset) q ≡ waits Unset
unfolding booted
boot_without_a_timeout_row = refl

boot_for_ever_row : booted (dark Forever) q ≡ waits Forever
unfolding booted
boot_for_ever_row = refl

-- ---- a node that comes up is told, its timer goes, and it starts its boot list in written order
abbrev alone : List Standing → StateView
alone standings = record (scene (Down ∷ Waiting ∷ []) none none standings) { timers = (540, Sync q) ∷ (600, Failover twin) ∷ [] }

abbrev risen : List Standing → StateView
risen standings = record (alone standings) {
  modes = Down ∷ Up ∷ [];
  waiting = [] ∷ (tool ∷ job ∷ []) ∷ [];
  restarts = (Temporary ∷ Temporary ∷ Temporary ∷ Temporary ∷ Temporary ∷ [])
      ∷ (Temporary ∷ Temporary ∷ Temporary ∷ Transient ∷ Temporary ∷ []) ∷ [];
  timers = (600, Failover twin) ∷ [];
}

comes_up_row : come_up (course_of (alone (Quiet ∷ Lost p ∷ Quiet ∷ [])) [] []) q
    ≡ course_of (risen (Wanted None ∷ Lost p ∷ Quiet ∷ [])) (notice.Up q ∷ []) (at q tool ∷ at q job ∷ [])
unfolding come_up with_mark mark_all
comes_up_row = refl

-- one that was lost with another node stays lost, and its timer set
comes_up_beside_a_lost_one_row : come_up (course_of (record (alone (Lost p ∷ Quiet ∷ Quiet ∷ [])) { timers = (600, Failover job) ∷ [] }) [] []) q
    ≡ course_of (record (risen (Lost p ∷ Quiet ∷ Quiet ∷ [])) { timers = (600, Failover job) ∷ [] }) (notice.Up q ∷ []) (at q tool ∷ at q job ∷ [])
unfolding come_up with_mark mark_all
comes_up_beside_a_lost_one_row = refl

-- one that was lost with this very node is wanted again, and its timer cancelled
comes_back_row : (come_up (course_of (record (alone (Lost q ∷ Quiet ∷ Quiet ∷ [])) { timers = (540, Sync q) ∷ (600, Failover job) ∷ [] }) [] []) q).state
    ≡ record (risen (Wanted (Some q) ∷ Quiet ∷ Quiet ∷ [])) { timers = [] }
unfolding come_up with_mark mark_all
comes_back_row = refl

-- the ready nodes come up in node order: p waits for nobody, and then q has p
in_node_order_row : (ready_come_up (course_of (record (alone quiet) { modes = Waiting ∷ Waiting ∷ [] }) [] [])).notices ≡ notice.Up p ∷ notice.Up q ∷ []
unfolding ready_come_up come_up_if_ready come_up with_mark mark_all is_ready all_alive nodes_of
in_node_order_row = refl

-- ---- a node that ends: at p run twin and then job and aid, and tool waits; at q runs far, and job waits
abbrev both_up : StateView
both_up = record (scene (Up ∷ Up ∷ []) ((twin ∷ job ∷ aid ∷ []) ∷ (far ∷ []) ∷ []) ((tool ∷ []) ∷ (job ∷ []) ∷ []) (Running p ∷ Running p ∷ Running q ∷ [])) {
  time = 40;
  incarnations = 3 ∷ 4 ∷ [];
  allowed = (true ∷ true ∷ false ∷ true ∷ true ∷ []) ∷ (true ∷ true ∷ true ∷ false ∷ true ∷ []) ∷ [];
}

-- what ran there is lost for 1000 milliseconds, by application; its lists are empty, its permissions as configured; and at
-- the other node all is as it was
crash_row : change (course_of both_up [] []) (Crash p)
    ≡ course_of (record both_up {
      modes = Down ∷ Up ∷ [];
      running = [] ∷ (far ∷ []) ∷ [];
      waiting = [] ∷ (job ∷ []) ∷ [];
      allowed = (true ∷ true ∷ true ∷ true ∷ true ∷ []) ∷ (true ∷ true ∷ true ∷ false ∷ true ∷ []) ∷ [];
      standings = Lost p ∷ Lost p ∷ Running q ∷ [];
      timers = (1040, Failover job) ∷ (1040, Failover twin) ∷ [];
    }) (notice.Ended p ∷ []) []
unfolding ended cleared all_lost lost_if_ran configured apps_of
crash_row = refl

-- one whose timeout is 0 is wanted at once, and one that waits there stands as it stood
crash_without_a_timeout_row : change (course_of both_up [] []) (Crash q)
    ≡ course_of (record both_up {
      modes = Up ∷ Down ∷ [];
      running = (twin ∷ job ∷ aid ∷ []) ∷ [] ∷ [];
      waiting = (tool ∷ []) ∷ [] ∷ [];
      allowed = (true ∷ true ∷ false ∷ true ∷ true ∷ []) ∷ (true ∷ true ∷ true ∷ true ∷ true ∷ []) ∷ [];
      standings = Running p ∷ Running p ∷ Wanted (Some q) ∷ [];
    }) (notice.Ended q ∷ []) []
unfolding ended cleared all_lost lost_if_ran configured apps_of
crash_without_a_timeout_row = refl

-- a node that waited has no timer any more; what was lost before stays lost, and what is wanted stays wanted
crash_of_a_waiting_node_row : change (course_of (alone (Wanted (Some p) ∷ Lost p ∷ Quiet ∷ [])) [] []) (Crash q)
    ≡ course_of (record (alone (Wanted (Some p) ∷ Lost p ∷ Quiet ∷ [])) { modes = Down ∷ Down ∷ []; timers = (600, Failover twin) ∷ [] })
    (notice.Ended q ∷ []) []
unfolding ended cleared all_lost lost_if_ran configured apps_of
crash_of_a_waiting_node_row = refl
