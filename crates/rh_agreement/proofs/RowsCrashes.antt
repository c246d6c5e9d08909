-- Worked rows of crashes: the laws are about something, and would be wrong without a condition.
use Rattle.std.proofs.Common.{◌≡◌, ℕ, true, false, Some, None, [], ◌∷◌, refl}
use Rattle.rh_model.specs.ClusterView.{ClusterView, NodeView, numbered, app_numbered}
use Rattle.rh_model.specs.declared.node.App.{App}
use Rattle.rh_model.specs.declared.node.Node.{Node}
use Rattle.rh_model.specs.declared.settings.Restart.TheVariants.{Permanent}
use Rattle.rh_model.specs.declared.settings.SyncWait.TheVariants.{Unset}
use Rattle.rh_rules.specs.declared.event.Event.TheVariants as event
use Rattle.rh_rules.specs.declared.notice.Notice.TheVariants as notice
use Rattle.rh_rules.specs.declared.pick.Pick.TheVariants.{First}
use Rattle.rh_rules.specs.Placing.{missing_dep, deps_run, is_operational, best, candidates}
use Rattle.rh_rules.specs.Marking.{with_mark, mark_all}
use Rattle.rh_rules.specs.Moves.{can_start, local_moves, placements, calls_away, takeovers}
use Rattle.rh_rules.specs.NodesEnd.{cleared, lost_if_ran, all_lost, ended}
use Rattle.rh_rules.specs.NodesStart.{all_alive, is_ready, come_up, come_up_if_ready, ready_come_up, booted}
use Rattle.rh_rules.specs.Refusals.{refused}
use Rattle.rh_rules.specs.Settling.{next_moves, moved_by, all_moved}
use Rattle.rh_rules.specs.Steps.{followed, next}
use Rattle.rh_calls.specs.declared.call.Call.TheVariants as call
use Rattle.rh_calls.specs.declared.call.Reply.TheVariants as reply
use Rattle.rh_state.specs.declared.status.Kind.TheVariants as kind
use Rattle.rh_state.specs.First.{configured}
use Rattle.rh_state.specs.Numbers.{nodes_of, apps_of}
use Rattle.rh_step.specs.Runs.{step}
use Rattle.rh_trail.specs.Lone.{served}
use Rattle.rh_trail.specs.SimView.{SimView}

abbrev a : Node
a = numbered 0

abbrev b : Node
b = numbered 1

abbrev job : App
job = app_numbered 0

-- two nodes that wait for nobody, and boot an application of which the first is to run it, else the second
abbrev node : NodeView
node = record { mandatory = []; optional = []; sync_wait = Unset; boot = (job, Permanent) ∷ []; permissions = true ∷ []; platforms = [] }

abbrev pair : ℕ → ClusterView
pair timeout = record {
  profile = 2;
  node_names = (97 ∷ []) ∷ (98 ∷ []) ∷ [];
  app_names = (106 ∷ []) ∷ [];
  platform_names = [];
  nodes = node ∷ node ∷ [];
  apps = record { deps = []; start_arg = None; phases = false; spread = Some (record { timeout = timeout; groups = (a ∷ []) ∷ (b ∷ []) ∷ [] }) } ∷ [];
}

abbrev both_up : ℕ → SimView
both_up timeout = record { cluster = pair timeout; pick = First; trail = event.Boot a ∷ event.Boot b ∷ []; cursor = 2 }

-- where it has a timeout the end of the node is all that is told
timed_row : (served (both_up 1000) (call.Step (event.Crash a))).reply ≡ reply.Done (notice.Ended a ∷ [])
unfolding step refused nodes_of apps_of configured all_alive is_ready booted with_mark mark_all come_up come_up_if_ready ready_come_up cleared lost_if_ran
    all_lost ended missing_dep deps_run is_operational best candidates can_start local_moves placements calls_away takeovers next_moves moved_by all_moved
    followed next
timed_row = refl

-- where it has none it is started elsewhere at once: the condition is needed
untimed_row : (served (both_up 0) (call.Step (event.Crash a))).reply ≡ reply.Done (notice.Ended a ∷ notice.Started job b kind.Normal (Some a) ∷ [])
unfolding step refused nodes_of apps_of configured all_alive is_ready booted with_mark mark_all come_up come_up_if_ready ready_come_up cleared lost_if_ran
    all_lost ended missing_dep deps_run is_operational best candidates can_start local_moves placements calls_away takeovers next_moves moved_by all_moved
    followed next
untimed_row = refl
