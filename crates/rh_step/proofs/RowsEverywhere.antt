-- Worked rows of applications that are started or stopped at all their nodes: the definitions compute to what an operator expects.
use Rattle.std.proofs.Common.{◌≡◌, true, false, [], ◌∷◌, Some, None, codes, refl}
use Rattle.rh_model.specs.ClusterView.{ClusterView, numbered, app_numbered}
use Rattle.rh_model.proofs.PlainNode.{plain_node}
use Rattle.rh_model.specs.declared.node.Node.{Node}
use Rattle.rh_model.specs.declared.node.App.{App}
use Rattle.rh_model.specs.declared.settings.Dep.TheVariants.{Listed}
use Rattle.rh_model.specs.declared.settings.Restart.TheVariants.{Permanent, Transient, Temporary}
use Rattle.rh_state.specs.declared.status.Kind.TheVariants as kind
use Rattle.rh_state.specs.declared.status.Standing.TheVariants.{Quiet}
use Rattle.rh_state.specs.Numbers.{nodes_of, apps_of}
use Rattle.rh_state.specs.First.{first, configured}
use Rattle.rh_state.specs.StateView.{StateView}
use Rattle.rh_rules.specs.Placing.{missing_dep, deps_run, is_operational, best, candidates}
use Rattle.rh_rules.specs.declared.notice.Notice.TheVariants.{Up, Ended, Started, Stopped, Waits}
use Rattle.rh_rules.specs.Moves.{can_start, local_moves, placements, calls_away, takeovers}
use Rattle.rh_rules.specs.Settling.{next_moves, moved_by, all_moved}
use Rattle.rh_rules.specs.declared.event.Event.TheVariants.{Boot, Crash, Tick, Start, StartAll, StopAll}
use Rattle.rh_rules.specs.NodesStart.{all_alive, is_ready, come_up, come_up_if_ready, ready_come_up, booted}
use Rattle.rh_rules.specs.Marking.{with_mark, mark_all}
use Rattle.rh_rules.specs.NodesEnd.{cleared, lost_if_ran, all_lost, ended}
use Rattle.rh_rules.specs.ByHand.{is_started_anywhere}
use Rattle.rh_rules.specs.Everywhere.{targets, has_host, has_target, missing_at_targets, start_all, left_everywhere, stop_all}
use Rattle.rh_rules.specs.declared.refusal.Refusal.TheVariants.{UnknownApp, NodeNotUp, NotDistributed, AlreadyStarted, NeverStarted, DependencyNotStarted}
use Rattle.rh_rules.specs.Refusals.{refused}
use Rattle.rh_rules.specs.Time.{fired, fired_by, all_fired, ticked}
use Rattle.rh_rules.specs.Steps.{followed, next}
use Rattle.rh_step.proofs.Rows.{state_after, answers, one, a, three_apps}
use Rattle.rh_step.proofs.RowsElsewhere.{p, q, svc, waiting}

-- ---- svc runs at p, and waits at q
abbrev ready : StateView
ready = state_after (first waiting) (Boot p ∷ Boot q ∷ Tick 1000 ∷ [])

-- it stops where it runs and is no longer held ready elsewhere; and it starts at the best node at once
stop_and_start_row : answers ready (StopAll svc ∷ StartAll svc Permanent ∷ [])
    ≡ (Stopped svc p ∷ []) ∷ (Started svc p kind.Normal None ∷ Waits svc q ∷ []) ∷ []
unfolding nodes_of apps_of configured all_alive is_ready booted with_mark mark_all come_up come_up_if_ready ready_come_up cleared lost_if_ran all_lost ended
    stop_all left_everywhere start_all targets missing_dep deps_run is_operational best candidates can_start local_moves placements calls_away takeovers
    next_moves moved_by all_moved fired fired_by all_fired ticked followed next
stop_and_start_row = refl

stopped_row : refused (state_after ready (StopAll svc ∷ [])) (StopAll svc) ≡ Some NeverStarted
unfolding nodes_of apps_of configured all_alive is_ready booted with_mark mark_all come_up come_up_if_ready ready_come_up cleared lost_if_ran all_lost ended
    stop_all left_everywhere start_all targets missing_dep deps_run is_operational best candidates can_start local_moves placements calls_away takeovers
    next_moves moved_by all_moved fired fired_by all_fired ticked followed next
    refused has_host has_target missing_at_targets is_started_anywhere
stopped_row = refl

started_row : refused (state_after ready (StopAll svc ∷ StartAll svc Permanent ∷ [])) (StartAll svc Permanent) ≡ Some AlreadyStarted
unfolding nodes_of apps_of configured all_alive is_ready booted with_mark mark_all come_up come_up_if_ready ready_come_up cleared lost_if_ran all_lost ended
    stop_all left_everywhere start_all targets missing_dep deps_run is_operational best candidates can_start local_moves placements calls_away takeovers
    next_moves moved_by all_moved fired fired_by all_fired ticked followed next
    refused has_host has_target missing_at_targets is_started_anywhere
started_row = refl

-- what was lost with a node is quiet then, and nothing awaits its return; and it starts where it can
lost_row : answers ready (Crash p ∷ StopAll svc ∷ StartAll svc Transient ∷ Crash q ∷ [])
    ≡ (Ended p ∷ []) ∷ [] ∷ (Started svc q kind.Normal None ∷ []) ∷ (Ended q ∷ []) ∷ []
unfolding nodes_of apps_of configured all_alive is_ready booted with_mark mark_all come_up come_up_if_ready ready_come_up cleared lost_if_ran all_lost ended
    stop_all left_everywhere start_all targets missing_dep deps_run is_operational best candidates can_start local_moves placements calls_away takeovers
    next_moves moved_by all_moved fired fired_by all_fired ticked followed next
lost_row = refl

lost_quiet_row : (state_after ready (Crash p ∷ StopAll svc ∷ [])).standings ≡ Quiet ∷ []
unfolding nodes_of apps_of configured all_alive is_ready booted with_mark mark_all come_up come_up_if_ready ready_come_up cleared lost_if_ran all_lost ended
    stop_all left_everywhere start_all targets missing_dep deps_run is_operational best candidates can_start local_moves placements calls_away takeovers
    next_moves moved_by all_moved fired fired_by all_fired ticked followed next
lost_quiet_row = refl

lost_no_timer_row : (state_after ready (Crash p ∷ StopAll svc ∷ [])).timers ≡ []
unfolding nodes_of apps_of configured all_alive is_ready booted with_mark mark_all come_up come_up_if_ready ready_come_up cleared lost_if_ran all_lost ended
    stop_all left_everywhere start_all targets missing_dep deps_run is_operational best candidates can_start local_moves placements calls_away takeovers
    next_moves moved_by all_moved fired fired_by all_fired ticked followed next
lost_no_timer_row = refl

no_node_up_row : refused (state_after ready (Crash p ∷ StopAll svc ∷ StartAll svc Transient ∷ Crash q ∷ [])) (StartAll svc Transient) ≡ Some NodeNotUp
unfolding nodes_of apps_of configured all_alive is_ready booted with_mark mark_all come_up come_up_if_ready ready_come_up cleared lost_if_ran all_lost ended
    stop_all left_everywhere start_all targets missing_dep deps_run is_operational best candidates can_start local_moves placements calls_away takeovers
    next_moves moved_by all_moved fired fired_by all_fired ticked followed next
    refused has_host has_target missing_at_targets is_started_anywhere
no_node_up_row = refl

-- ---- a local application, and none
local_row : refused (state_after (first three_apps) (Boot one ∷ [])) (StartAll a Permanent) ≡ Some NotDistributed
unfolding nodes_of apps_of configured all_alive is_ready booted with_mark mark_all come_up come_up_if_ready ready_come_up cleared lost_if_ran all_lost ended
    stop_all left_everywhere start_all targets missing_dep deps_run is_operational best candidates can_start local_moves placements calls_away takeovers
    next_moves moved_by all_moved fired fired_by all_fired ticked followed next
    refused has_host has_target missing_at_targets is_started_anywhere
local_row = refl

unknown_row : refused (state_after (first three_apps) (Boot one ∷ [])) (StopAll (app_numbered 3)) ≡ Some UnknownApp
unfolding nodes_of apps_of configured all_alive is_ready booted with_mark mark_all come_up come_up_if_ready ready_come_up cleared lost_if_ran all_lost ended
    stop_all left_everywhere start_all targets missing_dep deps_run is_operational best candidates can_start local_moves placements calls_away takeovers
    next_moves moved_by all_moved fired fired_by all_fired ticked followed next
    refused has_host has_target missing_at_targets is_started_anywhere
unknown_row = refl

-- ---- one that needs another
abbrev u : Node
u = numbered 0

abbrev job : App
job = app_numbered 0

abbrev aid : App
aid = app_numbered 1

abbrev needing : ClusterView
needing = record {
  profile = 1;
  node_names = codes "u" ∷ [];
  app_names = codes "q" ∷ codes "d" ∷ [];
  platform_names = codes "kernel" ∷ codes "stdlib" ∷ [];
  nodes = record plain_node { permissions = true ∷ true ∷ []; platforms = true ∷ true ∷ [] } ∷ [];
  apps = record { deps = Listed aid ∷ []; start_arg = None; phases = false; spread = Some (record { timeout = 0; groups = (u ∷ []) ∷ [] }) }
      ∷ record { deps = []; start_arg = None; phases = false; spread = None }
      ∷ [];
}

missing_row : refused (state_after (first needing) (Boot u ∷ [])) (StartAll job Temporary) ≡ Some (DependencyNotStarted (Listed aid))
unfolding nodes_of apps_of configured all_alive is_ready booted with_mark mark_all come_up come_up_if_ready ready_come_up cleared lost_if_ran all_lost ended
    stop_all left_everywhere start_all targets missing_dep deps_run is_operational best candidates can_start local_moves placements calls_away takeovers
    next_moves moved_by all_moved fired fired_by all_fired ticked followed next
    refused has_host has_target missing_at_targets is_started_anywhere
missing_row = refl

needed_row : answers (first needing) (Boot u ∷ Start u aid Permanent ∷ StartAll job Temporary ∷ [])
    ≡ (Up u ∷ []) ∷ (Started aid u kind.Normal None ∷ []) ∷ (Started job u kind.Normal None ∷ []) ∷ []
unfolding nodes_of apps_of configured all_alive is_ready booted with_mark mark_all come_up come_up_if_ready ready_come_up cleared lost_if_ran all_lost ended
    stop_all left_everywhere start_all targets missing_dep deps_run is_operational best candidates can_start local_moves placements calls_away takeovers
    next_moves moved_by all_moved fired fired_by all_fired ticked followed next
needed_row = refl
