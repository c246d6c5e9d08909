-- What an operator does by hand, computed from the definitions.
use Rattle.std.proofs.Common.{◌≡◌, List, Bool, [], ◌∷◌, Some, None, true, false, refl}
use Rattle.rh_model.specs.declared.node.App.{App}
use Rattle.rh_model.specs.declared.settings.Restart.{Restart}
use Rattle.rh_model.specs.declared.settings.Restart.TheVariants.{Permanent, Transient, Temporary}
use Rattle.rh_state.specs.declared.status.Kind.TheVariants as kind
use Rattle.rh_state.specs.declared.status.Mode.TheVariants.{Up}
use Rattle.rh_state.specs.declared.status.Standing.{Standing}
use Rattle.rh_state.specs.declared.status.Standing.TheVariants.{Quiet, Wanted, Running, Lost}
use Rattle.rh_state.specs.declared.status.Timer.TheVariants.{Failover}
use Rattle.rh_state.specs.Numbers.{nodes_of}
use Rattle.rh_state.specs.StateView.{StateView}
use Rattle.rh_rules.specs.declared.notice.Notice.TheVariants.{Started, Stopped}
use Rattle.rh_rules.specs.Course.{Course, course_of}
use Rattle.rh_rules.specs.declared.event.Event.{Event}
use Rattle.rh_rules.specs.declared.event.Event.TheVariants.{Start, Stop, Permit, Takeover, Exit}
use Rattle.rh_rules.specs.Marking.{with_mark}
use Rattle.rh_rules.specs.NodesEnd.{ended}
use Rattle.rh_rules.specs.ByHand.{stopped, is_started_anywhere, left_waiting, forbidden, permitted, ends_node, taken_over, exited}
use Rattle.rh_rules.specs.Steps.{change}
use Rattle.rh_events.proofs.Scene.{p, q, job, twin, far, tool, aid, at, scene, in_second, none}

abbrev pub after : StateView → Event → Course
after s e = change (course_of s [] []) e

abbrev pub up : List (List App) → List (List App) → List Standing → StateView
up running waiting standings = scene (Up ∷ Up ∷ []) running waiting standings

abbrev pub all_temporary : List Restart
all_temporary = Temporary ∷ Temporary ∷ Temporary ∷ Temporary ∷ Temporary ∷ []

-- ---- start: behind all that wait there, with its restart type, and fresh
abbrev two_wait : List Standing → StateView
two_wait standings = up none ((far ∷ aid ∷ []) ∷ [] ∷ []) standings

abbrev job_too : List Standing → StateView
job_too standings = record (up none ((far ∷ aid ∷ job ∷ []) ∷ [] ∷ []) standings) {
  restarts = (Permanent ∷ Temporary ∷ Temporary ∷ Temporary ∷ Temporary ∷ []) ∷ all_temporary ∷ [];
}

-- a quiet one is wanted now
start_row : after (two_wait (Quiet ∷ Quiet ∷ Quiet ∷ [])) (Start p job Permanent) ≡ course_of (job_too (Wanted None ∷ Quiet ∷ Quiet ∷ [])) [] (at p job ∷ [])
unfolding with_mark
start_row = refl

-- one that is wanted or runs stays as it stands
start_of_a_wanted_one_row : after (two_wait (Wanted (Some q) ∷ Quiet ∷ Quiet ∷ [])) (Start p job Permanent)
    ≡ course_of (job_too (Wanted (Some q) ∷ Quiet ∷ Quiet ∷ [])) [] (at p job ∷ [])
unfolding with_mark
start_of_a_wanted_one_row = refl

start_of_one_that_runs_row : after (two_wait (Running q ∷ Quiet ∷ Quiet ∷ [])) (Start p job Permanent)
    ≡ course_of (job_too (Running q ∷ Quiet ∷ Quiet ∷ [])) [] (at p job ∷ [])
unfolding with_mark
start_of_one_that_runs_row = refl

-- one that was lost with another node stays lost, and its timer set; at the node with which it was lost it is wanted again
start_of_one_lost_elsewhere_row : after (record (two_wait (Lost q ∷ Quiet ∷ Quiet ∷ [])) { timers = (60, Failover job) ∷ [] }) (Start p job Permanent)
    ≡ course_of (record (job_too (Lost q ∷ Quiet ∷ Quiet ∷ [])) { timers = (60, Failover job) ∷ [] }) [] (at p job ∷ [])
unfolding with_mark
start_of_one_lost_elsewhere_row = refl

start_of_one_lost_here_row : after (record (two_wait (Lost p ∷ Lost p ∷ Quiet ∷ [])) { timers = (60, Failover job) ∷ (60, Failover twin) ∷ [] }) (Start p job Permanent)
    ≡ course_of (record (job_too (Wanted (Some p) ∷ Lost p ∷ Quiet ∷ [])) { timers = (60, Failover twin) ∷ [] }) [] (at p job ∷ [])
unfolding with_mark
start_of_one_lost_here_row = refl

-- a local one has no standing
start_of_a_local_one_row : after (up none none (Quiet ∷ Quiet ∷ Quiet ∷ [])) (Start q aid Transient)
    ≡ course_of (record (up none ([] ∷ (aid ∷ []) ∷ []) (Quiet ∷ Quiet ∷ Quiet ∷ [])) {
      restarts = all_temporary ∷ (Temporary ∷ Temporary ∷ Temporary ∷ Temporary ∷ Transient ∷ []) ∷ [];
    }) [] (at q aid ∷ [])
unfolding with_mark
start_of_a_local_one_row = refl

-- ---- job is permanent, and aid at p transient: no node ends where these are stopped or forbidden
abbrev lasting : StateView → StateView
lasting s = record s {
  restarts = (Permanent ∷ Temporary ∷ Temporary ∷ Temporary ∷ Transient ∷ []) ∷ (Permanent ∷ Temporary ∷ Temporary ∷ Temporary ∷ Temporary ∷ []) ∷ [];
}

-- ---- stop: one that runs is told and quiet, though the other node holds it ready
stop_row : after (lasting (up ((twin ∷ job ∷ aid ∷ []) ∷ [] ∷ []) ([] ∷ (job ∷ []) ∷ []) (Running p ∷ Running p ∷ Quiet ∷ []))) (Stop p job)
    ≡ course_of (lasting (up ((twin ∷ aid ∷ []) ∷ [] ∷ []) ([] ∷ (job ∷ []) ∷ []) (Quiet ∷ Running p ∷ Quiet ∷ []))) (Stopped job p ∷ []) []
unfolding stopped
stop_row = refl

stop_of_a_local_one_row : after (lasting (up ((aid ∷ []) ∷ (aid ∷ []) ∷ []) none (Quiet ∷ Quiet ∷ Quiet ∷ []))) (Stop p aid)
    ≡ course_of (lasting (up ([] ∷ (aid ∷ []) ∷ []) none (Quiet ∷ Quiet ∷ Quiet ∷ []))) (Stopped aid p ∷ []) []
unfolding stopped
stop_of_a_local_one_row = refl

-- one that waits leaves its list, and nothing is told; while it runs, or waits at another node, it stands as it stood
stop_beside_one_that_runs_row : after (up ((job ∷ []) ∷ [] ∷ []) ([] ∷ (twin ∷ job ∷ []) ∷ []) (Running p ∷ Wanted None ∷ Quiet ∷ [])) (Stop q job)
    ≡ course_of (up ((job ∷ []) ∷ [] ∷ []) ([] ∷ (twin ∷ []) ∷ []) (Running p ∷ Wanted None ∷ Quiet ∷ [])) [] []
unfolding left_waiting
stop_beside_one_that_runs_row = refl

stop_beside_one_that_waits_row : after (lasting (up none ((job ∷ []) ∷ (job ∷ []) ∷ []) (Wanted None ∷ Quiet ∷ Quiet ∷ []))) (Stop q job)
    ≡ course_of (lasting (up none ((job ∷ []) ∷ [] ∷ []) (Wanted None ∷ Quiet ∷ Quiet ∷ []))) [] []
unfolding left_waiting is_started_anywhere nodes_of
stop_beside_one_that_waits_row = refl

-- one that is wanted or lost and is started nowhere then is quiet, and its timer cancelled
stop_of_the_last_wanted_one_row : after (up none ([] ∷ (job ∷ []) ∷ []) (Wanted (Some p) ∷ Quiet ∷ Quiet ∷ [])) (Stop q job)
    ≡ course_of (up none none (Quiet ∷ Quiet ∷ Quiet ∷ [])) [] []
unfolding left_waiting is_started_anywhere nodes_of
stop_of_the_last_wanted_one_row = refl

stop_of_the_last_lost_one_row : after (record (up none ([] ∷ (job ∷ []) ∷ []) (Lost p ∷ Lost p ∷ Quiet ∷ [])) { timers = (60, Failover job) ∷ (60, Failover twin) ∷ [] })
    (Stop q job)
    ≡ course_of (record (up none none (Quiet ∷ Lost p ∷ Quiet ∷ [])) { timers = (60, Failover twin) ∷ [] }) [] []
unfolding left_waiting is_started_anywhere nodes_of
stop_of_the_last_lost_one_row = refl

stop_of_another_lost_one_row : after (record (up none ((job ∷ []) ∷ (job ∷ []) ∷ []) (Lost p ∷ Quiet ∷ Quiet ∷ [])) { timers = (60, Failover job) ∷ [] }) (Stop q job)
    ≡ course_of (record (up none ((job ∷ []) ∷ [] ∷ []) (Lost p ∷ Quiet ∷ Quiet ∷ [])) { timers = (60, Failover job) ∷ [] }) [] []
unfolding left_waiting is_started_anywhere nodes_of
stop_of_another_lost_one_row = refl

-- ---- permit
abbrev job_runs : StateView
job_runs = lasting (up ((job ∷ aid ∷ []) ∷ [] ∷ []) ((tool ∷ []) ∷ (job ∷ []) ∷ []) (Running p ∷ Quiet ∷ Quiet ∷ []))

-- one that is forbidden where it runs stops and waits there, and is wanted, without the node that it left
forbid_row : after job_runs (Permit p job false)
    ≡ course_of (record (lasting (up ((aid ∷ []) ∷ [] ∷ []) ((tool ∷ job ∷ []) ∷ (job ∷ []) ∷ []) (Wanted None ∷ Quiet ∷ Quiet ∷ []))) {
      allowed = (false ∷ true ∷ true ∷ true ∷ true ∷ []) ∷ (true ∷ true ∷ true ∷ true ∷ true ∷ []) ∷ [];
    }) (Stopped job p ∷ []) []
unfolding permitted forbidden
forbid_row = refl

forbid_a_local_one_row : after job_runs (Permit p aid false)
    ≡ course_of (record (lasting (up ((job ∷ []) ∷ [] ∷ []) ((tool ∷ aid ∷ []) ∷ (job ∷ []) ∷ []) (Running p ∷ Quiet ∷ Quiet ∷ []))) {
      allowed = (true ∷ true ∷ true ∷ true ∷ false ∷ []) ∷ (true ∷ true ∷ true ∷ true ∷ true ∷ []) ∷ [];
    }) (Stopped aid p ∷ []) []
unfolding permitted forbidden
forbid_a_local_one_row = refl

-- where it waits, or isn't started, the permission alone changes, and so where it becomes true
forbid_where_it_waits_row : after job_runs (Permit q job false)
    ≡ course_of (record job_runs { allowed = (true ∷ true ∷ true ∷ true ∷ true ∷ []) ∷ (false ∷ true ∷ true ∷ true ∷ true ∷ []) ∷ [] }) [] []
unfolding permitted
forbid_where_it_waits_row = refl

permit_row : after (record job_runs { allowed = (true ∷ true ∷ true ∷ true ∷ true ∷ []) ∷ (false ∷ true ∷ true ∷ true ∷ true ∷ []) ∷ [] }) (Permit q job true)
    ≡ course_of job_runs [] []
unfolding permitted
permit_row = refl

-- to set it to what it was changes nothing
permit_again_row : after job_runs (Permit p job true) ≡ course_of job_runs [] []
unfolding permitted
permit_again_row = refl

-- ---- profiles: job runs at q and waits at p, with these permissions there
abbrev job_at_q : List Bool → StateView
job_at_q at_p = record (up ((aid ∷ []) ∷ (aid ∷ job ∷ []) ∷ []) ((job ∷ []) ∷ [] ∷ []) (Running q ∷ Quiet ∷ Quiet ∷ [])) {
  allowed = at_p ∷ (true ∷ true ∷ true ∷ true ∷ true ∷ []) ∷ [];
}

abbrev all_allowed : StateView
all_allowed = job_at_q (true ∷ true ∷ true ∷ true ∷ true ∷ [])

abbrev job_forbidden : StateView
job_forbidden = job_at_q (false ∷ true ∷ true ∷ true ∷ true ∷ [])

-- in the second profile a permission that is given back frees its pair, which isn't marked, and keeps its place
permit_frees_row : after (in_second job_forbidden) (Permit p job true) ≡ record (course_of (in_second all_allowed) [] []) { freed = at p job ∷ [] }
unfolding permitted
permit_frees_row = refl

-- in the first it frees none
permit_in_the_first_profile_row : after job_forbidden (Permit p job true) ≡ course_of all_allowed [] []
unfolding permitted
permit_in_the_first_profile_row = refl

-- nor does one that was there already, one that is taken, or one of an application that isn't started there
permit_that_was_there_row : after (in_second all_allowed) (Permit p job true) ≡ course_of (in_second all_allowed) [] []
unfolding permitted
permit_that_was_there_row = refl

forbid_in_the_second_profile_row : after (in_second all_allowed) (Permit p job false) ≡ course_of (in_second job_forbidden) [] []
unfolding permitted
forbid_in_the_second_profile_row = refl

permit_where_it_isnt_started_row : after (in_second (job_at_q (true ∷ false ∷ true ∷ true ∷ true ∷ []))) (Permit p twin true)
    ≡ course_of (in_second all_allowed) [] []
unfolding permitted
permit_where_it_isnt_started_row = refl

-- ---- takeover by call: the new node has the given restart type, and the old one keeps its own; it needn't be started there
abbrev before : StateView
before = record (up ((twin ∷ job ∷ []) ∷ (aid ∷ []) ∷ []) none (Running p ∷ Running p ∷ Quiet ∷ [])) {
  restarts = (Transient ∷ Temporary ∷ Temporary ∷ Temporary ∷ Temporary ∷ []) ∷ (Temporary ∷ Temporary ∷ Temporary ∷ Temporary ∷ Temporary ∷ []) ∷ [];
}

takeover_row : after before (Takeover q job Permanent)
    ≡ course_of (record (up ((twin ∷ []) ∷ (aid ∷ job ∷ []) ∷ []) ((job ∷ []) ∷ [] ∷ []) (Running q ∷ Running p ∷ Quiet ∷ [])) {
      restarts = (Transient ∷ Temporary ∷ Temporary ∷ Temporary ∷ Temporary ∷ []) ∷ (Permanent ∷ Temporary ∷ Temporary ∷ Temporary ∷ Temporary ∷ []) ∷ [];
      kinds = (kind.Normal ∷ kind.Normal ∷ kind.Normal ∷ kind.Normal ∷ kind.Normal ∷ [])
          ∷ (kind.Takeover p ∷ kind.Normal ∷ kind.Normal ∷ kind.Normal ∷ kind.Normal ∷ []) ∷ [];
    }) (Started job q (kind.Takeover p) None ∷ Stopped job p ∷ []) []
unfolding taken_over
takeover_row = refl

-- where it waited, it waits no longer
takeover_where_it_waits_row : (after (record before { waiting = [] ∷ (job ∷ twin ∷ []) ∷ [] }) (Takeover q job Temporary)).state.waiting
    ≡ (job ∷ []) ∷ (twin ∷ []) ∷ []
unfolding taken_over
takeover_where_it_waits_row = refl

-- ---- exit
permanent_ends_its_node_row : ends_node Permanent true ≡ true
permanent_ends_its_node_row = refl

permanent_ends_its_node_too_row : ends_node Permanent false ≡ true
permanent_ends_its_node_too_row = refl

transient_stays_after_a_normal_exit_row : ends_node Transient true ≡ false
transient_stays_after_a_normal_exit_row = refl

transient_ends_its_node_after_another_row : ends_node Transient false ≡ true
transient_ends_its_node_after_another_row = refl

temporary_stays_row : ends_node Temporary true ≡ false
temporary_stays_row = refl

temporary_stays_too_row : ends_node Temporary false ≡ false
temporary_stays_too_row = refl

-- at p job is transient and twin temporary: after a normal exit job is told as stopped, counts as not started, and is quiet
exit_row : after before (Exit p job true)
    ≡ course_of (record before { running = (twin ∷ []) ∷ (aid ∷ []) ∷ []; standings = Quiet ∷ Running p ∷ Quiet ∷ [] }) (Stopped job p ∷ []) []
unfolding exited stopped
exit_row = refl

-- after another its node ends, with all that ran there, as by a crash
exit_ends_the_node_row : after before (Exit p job false) ≡ ended (course_of before [] []) p
unfolding exited
exit_ends_the_node_row = refl

exit_of_a_permanent_one_row : after (record before { restarts = (Permanent ∷ Temporary ∷ Temporary ∷ Temporary ∷ Temporary ∷ []) ∷ all_temporary ∷ [] }) (Exit p job true)
    ≡ ended (course_of (record before { restarts = (Permanent ∷ Temporary ∷ Temporary ∷ Temporary ∷ Temporary ∷ []) ∷ all_temporary ∷ [] }) [] []) p
unfolding exited
exit_of_a_permanent_one_row = refl

exit_of_a_temporary_one_row : (after before (Exit p twin false)).notices ≡ Stopped twin p ∷ []
unfolding exited stopped
exit_of_a_temporary_one_row = refl
