-- What an operator starts or stops at all nodes, and why that is refused, computed from the definitions.
use Rattle.std.proofs.Common.{◌≡◌, List, [], ◌∷◌, map, Option, Some, None, true, false, refl}
use Rattle.rh_model.specs.declared.settings.Dep.TheVariants.{Listed}
use Rattle.rh_model.specs.declared.settings.Restart.TheVariants.{Permanent, Transient, Temporary}
use Rattle.rh_state.specs.declared.status.Mode.TheVariants.{Down, Waiting, Up}
use Rattle.rh_state.specs.declared.status.Standing.{Standing}
use Rattle.rh_state.specs.declared.status.Standing.TheVariants.{Quiet, Wanted, Running, Lost}
use Rattle.rh_state.specs.declared.status.Timer.TheVariants.{Failover}
use Rattle.rh_state.specs.Numbers.{nodes_of}
use Rattle.rh_state.specs.StateView.{StateView}
use Rattle.rh_rules.specs.Placing.{missing_dep}
use Rattle.rh_rules.specs.declared.notice.Notice.TheVariants.{Stopped}
use Rattle.rh_rules.specs.Course.{course_of}
use Rattle.rh_rules.specs.declared.event.Event.{Event}
use Rattle.rh_rules.specs.declared.event.Event.TheVariants.{StartAll, StopAll}
use Rattle.rh_rules.specs.declared.refusal.Refusal.{Refusal}
use Rattle.rh_rules.specs.declared.refusal.Refusal.TheVariants.{UnknownApp, NodeNotUp, NotDistributed, AlreadyStarted, NeverStarted, DependencyNotStarted}
use Rattle.rh_rules.specs.Marking.{with_mark}
use Rattle.rh_rules.specs.ByHand.{is_started_anywhere}
use Rattle.rh_rules.specs.Everywhere.{targets, has_host, has_target, missing_at_targets, start_all, left_everywhere, stop_all}
use Rattle.rh_rules.specs.Refusals.{refused}
use Rattle.rh_events.proofs.RowsByHand.{after, up, all_temporary}
use Rattle.rh_events.proofs.Scene.{p, q, nothing, job, twin, far, tool, aid, at, scene, turned, twin_forbidden, none}

abbrev why : StateView → List Event → List (Option Refusal)
why s events = map (refused s) events

abbrev quiet : List Standing
quiet = Quiet ∷ Quiet ∷ Quiet ∷ []

-- ---- refusals
-- p is down, and q waits for it: an application that isn't there, one of which no node is up, and a local one
dark_row : why (scene (Down ∷ Waiting ∷ []) none none quiet)
    (StartAll nothing Permanent ∷ StopAll nothing ∷ StartAll twin Permanent ∷ StopAll twin ∷ StartAll tool Permanent ∷ StopAll tool ∷ [])
    ≡ Some UnknownApp ∷ Some UnknownApp ∷ Some NodeNotUp ∷ Some NeverStarted ∷ Some NotDistributed ∷ Some NotDistributed ∷ []
unfolding refused has_host is_started_anywhere nodes_of
dark_row = refl

-- p is up: far is q's alone
not_up_row : why (scene (Up ∷ Down ∷ []) none none quiet) (StartAll twin Permanent ∷ StartAll far Permanent ∷ []) ≡ None ∷ Some NodeNotUp ∷ []
unfolding refused has_host has_target missing_at_targets targets nodes_of missing_dep
not_up_row = refl

-- one that is started at each node goes before what it needs, and one that isn't started at all has never been
started_row : why (up ((job ∷ []) ∷ [] ∷ []) ([] ∷ (job ∷ []) ∷ []) (Running p ∷ Quiet ∷ Lost q ∷ []))
    (StartAll job Permanent ∷ StopAll job ∷ StopAll twin ∷ StopAll far ∷ [])
    ≡ Some AlreadyStarted ∷ None ∷ Some NeverStarted ∷ Some NeverStarted ∷ []
unfolding refused has_host has_target missing_at_targets targets nodes_of missing_dep is_started_anywhere
started_row = refl

-- what it needs must run at each node at which it is started now, and only there
needs_row : why (up ((aid ∷ []) ∷ [] ∷ []) none quiet) (StartAll job Permanent ∷ StartAll twin Permanent ∷ [])
    ≡ Some (DependencyNotStarted (Listed aid)) ∷ None ∷ []
unfolding refused has_host has_target missing_at_targets targets nodes_of missing_dep
needs_row = refl

needs_where_it_is_started_row : why (up ((aid ∷ []) ∷ [] ∷ []) ([] ∷ (job ∷ []) ∷ []) (Wanted None ∷ Quiet ∷ Quiet ∷ [])) (StartAll job Permanent ∷ []) ≡ None ∷ []
unfolding refused has_host has_target missing_at_targets targets nodes_of missing_dep
needs_where_it_is_started_row = refl

-- of several nodes it is the one with the lowest number at which one is missing, though q is written before p, and of this node the
-- first that is missing there: p lacks tool, and q aid
missing_in_node_order_row : why (turned (up ((aid ∷ []) ∷ (tool ∷ []) ∷ []) none quiet)) (StartAll job Permanent ∷ [])
    ≡ Some (DependencyNotStarted (Listed tool)) ∷ []
unfolding refused has_host has_target missing_at_targets targets nodes_of missing_dep
missing_in_node_order_row = refl

-- p lacks aid, and q tool
missing_in_node_order_too_row : why (turned (up ((tool ∷ []) ∷ (aid ∷ []) ∷ []) none quiet)) (StartAll job Permanent ∷ [])
    ≡ Some (DependencyNotStarted (Listed aid)) ∷ []
unfolding refused has_host has_target missing_at_targets targets nodes_of missing_dep
missing_in_node_order_too_row = refl

-- both lack both
missing_both_row : why (turned (up none none quiet)) (StartAll job Permanent ∷ []) ≡ Some (DependencyNotStarted (Listed aid)) ∷ []
unfolding refused has_host has_target missing_at_targets targets nodes_of missing_dep
missing_both_row = refl

-- p lacks none, and q tool
missing_at_the_second_row : why (turned (up ((aid ∷ tool ∷ []) ∷ (aid ∷ []) ∷ []) none quiet)) (StartAll job Permanent ∷ [])
    ≡ Some (DependencyNotStarted (Listed tool)) ∷ []
unfolding refused has_host has_target missing_at_targets targets nodes_of missing_dep
missing_at_the_second_row = refl

-- p lacks aid, but it is started there; q lacks tool
missing_where_it_isnt_started_row : why (turned (up ((tool ∷ []) ∷ (aid ∷ []) ∷ []) ((job ∷ []) ∷ [] ∷ []) (Wanted None ∷ Quiet ∷ Quiet ∷ [])))
    (StartAll job Permanent ∷ []) ≡ Some (DependencyNotStarted (Listed tool)) ∷ []
unfolding refused has_host has_target missing_at_targets targets nodes_of missing_dep
missing_where_it_isnt_started_row = refl

-- it is accepted also where each node that is up forbids it, and refused where it is started at each of these
forbidden_row : why (twin_forbidden (up none none quiet)) (StartAll twin Permanent ∷ []) ≡ None ∷ []
unfolding refused has_host has_target missing_at_targets targets nodes_of missing_dep
forbidden_row = refl

forbidden_at_one_row : why (twin_forbidden (scene (Up ∷ Down ∷ []) none none quiet)) (StartAll twin Permanent ∷ []) ≡ None ∷ []
unfolding refused has_host has_target missing_at_targets targets nodes_of missing_dep
forbidden_at_one_row = refl

forbidden_where_it_waits_row : why (twin_forbidden (up none ((twin ∷ []) ∷ (twin ∷ []) ∷ []) (Quiet ∷ Wanted None ∷ Quiet ∷ []))) (StartAll twin Permanent ∷ [])
    ≡ Some AlreadyStarted ∷ []
unfolding refused has_host has_target missing_at_targets targets nodes_of missing_dep
forbidden_where_it_waits_row = refl

-- ---- started: behind all that wait at each node, with its restart type, and fresh
start_all_row : (after (up none ((far ∷ aid ∷ []) ∷ [] ∷ []) quiet) (StartAll twin Transient)).state
    ≡ record (up none ((far ∷ aid ∷ twin ∷ []) ∷ (twin ∷ []) ∷ []) (Quiet ∷ Wanted None ∷ Quiet ∷ [])) {
      restarts = (Temporary ∷ Transient ∷ Temporary ∷ Temporary ∷ Temporary ∷ []) ∷ (Temporary ∷ Transient ∷ Temporary ∷ Temporary ∷ Temporary ∷ []) ∷ [];
    }
unfolding start_all targets nodes_of with_mark
start_all_row = refl

start_all_marks_row : (after (up none ((far ∷ aid ∷ []) ∷ [] ∷ []) quiet) (StartAll twin Transient)).marked ≡ at p twin ∷ at q twin ∷ []
unfolding start_all targets nodes_of with_mark
start_all_marks_row = refl

-- in node order, though q is written before p
start_all_order_row : (after (turned (up none none quiet)) (StartAll job Transient)).marked ≡ at p job ∷ at q job ∷ []
unfolding start_all targets nodes_of with_mark
start_all_order_row = refl

-- also where it is forbidden
start_all_forbidden_row : after (twin_forbidden (up none none quiet)) (StartAll twin Permanent)
    ≡ course_of (record (twin_forbidden (up none ((twin ∷ []) ∷ (twin ∷ []) ∷ []) (Quiet ∷ Wanted None ∷ Quiet ∷ []))) {
      restarts = (Temporary ∷ Permanent ∷ Temporary ∷ Temporary ∷ Temporary ∷ []) ∷ (Temporary ∷ Permanent ∷ Temporary ∷ Temporary ∷ Temporary ∷ []) ∷ [];
    }) [] (at p twin ∷ at q twin ∷ [])
unfolding start_all targets nodes_of with_mark
start_all_forbidden_row = refl

-- and where it is forbidden at one of them alone
start_all_forbidden_at_one_row : (after (record (up none none quiet) { allowed = (true ∷ false ∷ true ∷ true ∷ true ∷ []) ∷ (true ∷ true ∷ true ∷ true ∷ true ∷ []) ∷ [] })
    (StartAll twin Permanent)).marked ≡ at p twin ∷ at q twin ∷ []
unfolding start_all targets nodes_of with_mark
start_all_forbidden_at_one_row = refl

-- where it is started it keeps its place and its restart type
start_all_others_row : (after (up ((twin ∷ aid ∷ []) ∷ [] ∷ []) none (Quiet ∷ Running p ∷ Quiet ∷ [])) (StartAll twin Transient)).state
    ≡ record (up ((twin ∷ aid ∷ []) ∷ [] ∷ []) ([] ∷ (twin ∷ []) ∷ []) (Quiet ∷ Running p ∷ Quiet ∷ [])) {
      restarts = (Temporary ∷ Temporary ∷ Temporary ∷ Temporary ∷ Temporary ∷ []) ∷ (Temporary ∷ Transient ∷ Temporary ∷ Temporary ∷ Temporary ∷ []) ∷ [];
    }
unfolding start_all targets nodes_of with_mark
start_all_others_row = refl

start_all_others_marks_row : (after (up ((twin ∷ aid ∷ []) ∷ [] ∷ []) none (Quiet ∷ Running p ∷ Quiet ∷ [])) (StartAll twin Transient)).marked ≡ at q twin ∷ []
unfolding start_all targets nodes_of with_mark
start_all_others_marks_row = refl

-- nothing waits at a node that isn't up, or that its list hasn't
start_all_up_row : (after (scene (Up ∷ Down ∷ []) none none quiet) (StartAll twin Temporary)).state.waiting ≡ (twin ∷ []) ∷ [] ∷ []
unfolding start_all targets nodes_of with_mark
start_all_up_row = refl

start_all_listed_row : (after (up none none quiet) (StartAll far Temporary)).state.waiting ≡ [] ∷ (far ∷ []) ∷ []
unfolding start_all targets nodes_of with_mark
start_all_listed_row = refl

-- one that was lost with a node at which it is started now is wanted again
start_all_lost_row : (after (record (up none none (Quiet ∷ Lost q ∷ Quiet ∷ [])) { timers = (60, Failover twin) ∷ (70, Failover job) ∷ [] }) (StartAll twin Temporary)).state
    ≡ record (up none ((twin ∷ []) ∷ (twin ∷ []) ∷ []) (Quiet ∷ Wanted (Some q) ∷ Quiet ∷ [])) {
      timers = (70, Failover job) ∷ [];
      restarts = all_temporary ∷ all_temporary ∷ [];
    }
unfolding start_all targets nodes_of with_mark
start_all_lost_row = refl

-- one that was lost with a node that is down stays lost, and its timer set
start_all_lost_elsewhere_row : (after (record (scene (Up ∷ Down ∷ []) none none (Quiet ∷ Lost q ∷ Quiet ∷ [])) { timers = (60, Failover twin) ∷ [] })
    (StartAll twin Temporary)).state
    ≡ record (scene (Up ∷ Down ∷ []) none ((twin ∷ []) ∷ [] ∷ []) (Quiet ∷ Lost q ∷ Quiet ∷ [])) {
      timers = (60, Failover twin) ∷ [];
      restarts = all_temporary ∷ all_temporary ∷ [];
    }
unfolding start_all targets nodes_of with_mark
start_all_lost_elsewhere_row = refl

-- ---- stopped: it leaves all lists, and is told where it ran; no node ends, also where it is permanent
abbrev twin_permanent : StateView → StateView
twin_permanent s = record s {
  restarts = (Temporary ∷ Permanent ∷ Temporary ∷ Temporary ∷ Temporary ∷ []) ∷ (Temporary ∷ Permanent ∷ Temporary ∷ Temporary ∷ Temporary ∷ []) ∷ [];
}

stop_all_row : (after (twin_permanent (up ((twin ∷ aid ∷ []) ∷ [] ∷ []) ([] ∷ (far ∷ twin ∷ job ∷ []) ∷ []) (Quiet ∷ Running p ∷ Quiet ∷ []))) (StopAll twin)).state
    ≡ twin_permanent (up ((aid ∷ []) ∷ [] ∷ []) ([] ∷ (far ∷ job ∷ []) ∷ []) quiet)
unfolding stop_all left_everywhere nodes_of
stop_all_row = refl

stop_all_told_row : (after (up ((twin ∷ aid ∷ []) ∷ [] ∷ []) ([] ∷ (far ∷ twin ∷ job ∷ []) ∷ []) (Quiet ∷ Running p ∷ Quiet ∷ [])) (StopAll twin)).notices
    ≡ Stopped twin p ∷ []
unfolding stop_all left_everywhere nodes_of
stop_all_told_row = refl

-- one that was lost is awaited no longer; the timer of another one stays
stop_all_lost_row : (after (record (up none ((twin ∷ []) ∷ [] ∷ []) (Lost p ∷ Lost q ∷ Quiet ∷ [])) { timers = (60, Failover twin) ∷ (70, Failover job) ∷ [] }) (StopAll twin)).state
    ≡ record (up none none (Lost p ∷ Quiet ∷ Quiet ∷ [])) { timers = (70, Failover job) ∷ [] }
unfolding stop_all left_everywhere nodes_of
stop_all_lost_row = refl

stop_all_lost_told_row : (after (up none ((twin ∷ []) ∷ [] ∷ []) (Lost p ∷ Lost q ∷ Quiet ∷ [])) (StopAll twin)).notices ≡ []
unfolding stop_all left_everywhere nodes_of
stop_all_lost_told_row = refl
