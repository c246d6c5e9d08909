-- Worked rows: the definitions compute to what an operator expects.
use Rattle.std.proofs.Common.{◌≡◌, true, false, [], ◌∷◌, Some, None, codes, refl}
use Rattle.std.specs.Fmt.{digits}
use Rattle.rh_model.specs.ClusterView.{ClusterView, numbered, app_numbered}
use Rattle.rh_model.specs.declared.settings.Restart.TheVariants.{Permanent, Transient, Temporary}
use Rattle.rh_rules.specs.declared.event.Event.TheVariants.{Boot, Crash}
use Rattle.rh_rules.specs.declared.notice.Notice.TheVariants.{Up, Ended}
use Rattle.rh_rules.specs.declared.pick.Pick.TheVariants.{First}
use Rattle.rh_rules.specs.declared.refusal.Refusal.TheVariants.{UnknownNode, AlreadyAlive, IncarnationLimit, NotAlive, TrailFull}
use Rattle.rh_calls.specs.declared.call.Call.TheVariants.{Step, Undo, Redo, UndoAll, RedoAll, Look}
use Rattle.rh_calls.specs.declared.call.Reply.TheVariants.{Done, Refused, Undone, Redone, AtStart, AtEnd, Moved, Seen}
use Rattle.rh_state.specs.declared.status.Mode.TheVariants as mode
use Rattle.rh_state.specs.declared.status.Kind.TheVariants.{Normal, Failover}
use Rattle.rh_state.specs.declared.status.Standing.TheVariants.{Quiet, Running, Lost}
use Rattle.rh_state.specs.declared.status.Timer.TheVariants as timer
use Rattle.rh_state.specs.StateView.{StateView}
use Rattle.rh_rules.specs.Refusals.{refused}
use Rattle.rh_state.specs.Numbers.{nodes_of, apps_of}
use Rattle.rh_state.specs.First.{first, configured}
use Rattle.rh_rules.specs.Settling.{moved_by, all_moved}
use Rattle.rh_rules.specs.NodesStart.{all_alive, is_ready, come_up, come_up_if_ready, ready_come_up, booted}
use Rattle.rh_rules.specs.Marking.{mark_all}
use Rattle.rh_rules.specs.NodesEnd.{cleared, lost_if_ran, all_lost, ended}
use Rattle.rh_rules.specs.Steps.{followed, next}
use Rattle.rh_step.specs.Runs.{step}
use Rattle.rh_calls.specs.Report.{report_text, node_line, running_line, waiting_line, forbidden_line, line_if_forbidden}
use Rattle.rh_calls.specs.Report.{standing_line, app_line, timer_line, node_lines}
use Rattle.rh_trail.specs.Lone.{opened, replies, served}

abbrev two_nodes : ClusterView
two_nodes = record { profile = 1; node_names = codes "a@x" ∷ codes "b@x" ∷ []; app_names = []; platform_names = []; nodes = []; apps = [] }

abbrev one_node : ClusterView
one_node = record { profile = 1; node_names = codes "a" ∷ []; app_names = []; platform_names = []; nodes = []; apps = [] }

-- boot, crash, undo, look, redo, undo all, undo, redo all
two_nodes_row : replies (opened two_nodes First) (Step (Boot (numbered 0)) ∷ Step (Crash (numbered 0)) ∷ Undo ∷ Look ∷ Redo ∷ UndoAll ∷ Undo ∷ RedoAll ∷ [])
    ≡ Done (Up (numbered 0) ∷ []) ∷ Done (Ended (numbered 0) ∷ []) ∷ Undone ∷ Seen 1 2 (codes "now 0\nnode a@x up 1\nnode b@x down 0\n")
    ∷ Redone ∷ Moved 2 ∷ AtStart ∷ Moved 2 ∷ []
unfolding nodes_of apps_of configured moved_by all_moved all_alive is_ready mark_all come_up come_up_if_ready ready_come_up booted cleared lost_if_ran all_lost
    ended followed refused next step node_line line_if_forbidden standing_line app_line timer_line node_lines digits
two_nodes_row = refl

-- a refused step leaves what can be made again
redo_stays_row : replies (opened one_node First) (Undo ∷ Step (Boot (numbered 0)) ∷ Undo ∷ Step (Crash (numbered 0)) ∷ Redo ∷ Step (Boot (numbered 255)) ∷ Step
    (Boot (numbered 0)) ∷ Redo ∷ [])
    ≡ AtStart ∷ Done (Up (numbered 0) ∷ []) ∷ Undone ∷ Refused NotAlive ∷ Redone ∷ Refused UnknownNode ∷ Refused AlreadyAlive ∷ AtEnd ∷ []
unfolding nodes_of apps_of configured moved_by all_moved all_alive is_ready mark_all come_up come_up_if_ready ready_come_up booted cleared lost_if_ran all_lost
    ended followed refused next step
redo_stays_row = refl

-- a node at its last incarnation
last_incarnation_row : refused (record (first one_node) { incarnations = 9999 ∷ [] }) (Boot (numbered 0)) ≡ Some IncarnationLimit
unfolding refused
last_incarnation_row = refl

-- a full trail refuses what the state would accept
full_trail_row : (served (record { cluster = one_node; pick = First; trail = []; cursor = 65535 }) (Step (Boot (numbered 0)))).reply ≡ Refused TrailFull
unfolding refused nodes_of configured
full_trail_row = refl

-- ---- the report of a state with applications: one that is distributed, and one that isn't
abbrev with_apps : ClusterView
with_apps = record {
  profile = 1;
  node_names = codes "n1" ∷ codes "n2" ∷ [];
  app_names = codes "job" ∷ codes "load" ∷ [];
  platform_names = [];
  nodes = [];
  apps = record { deps = []; start_arg = None; phases = false; spread = Some (record { timeout = 0; groups = (numbered 0 ∷ []) ∷ (numbered 1 ∷ []) ∷ [] }) }
      ∷ record { deps = []; start_arg = None; phases = false; spread = None } ∷ [];
}

-- job failed over from n1 to n2, and may no longer run at n1, where load waits
abbrev failed_over : StateView
failed_over = record (first with_apps) {
  time = 7;
  modes = mode.Up ∷ mode.Up ∷ [];
  incarnations = 2 ∷ 1 ∷ [];
  running = [] ∷ (app_numbered 1 ∷ app_numbered 0 ∷ []) ∷ [];
  waiting = (app_numbered 1 ∷ []) ∷ [] ∷ [];
  restarts = (Temporary ∷ Temporary ∷ []) ∷ (Permanent ∷ Transient ∷ []) ∷ [];
  kinds = (Normal ∷ Normal ∷ []) ∷ (Failover (numbered 0) ∷ Normal ∷ []) ∷ [];
  allowed = (false ∷ true ∷ []) ∷ (true ∷ true ∷ []) ∷ [];
  standings = Running (numbered 1) ∷ Quiet ∷ [];
}

report_row : report_text failed_over
    ≡ codes "now 7\nnode n1 up 2\n  waiting load temporary\n  forbidden job\nnode n2 up 1\n  running load transient normal\n  running job permanent failover n1\napp job running n2\n"
unfolding nodes_of apps_of node_line running_line waiting_line forbidden_line line_if_forbidden standing_line app_line timer_line node_lines digits
report_row = refl

-- where a distributed application stands that doesn't run
lost_row : report_text (record failed_over {
  running = [] ∷ [] ∷ [];
  waiting = [] ∷ [] ∷ [];
  allowed = (true ∷ true ∷ []) ∷ (true ∷ true ∷ []) ∷ [];
  standings = Lost (numbered 0) ∷ Quiet ∷ [];
  timers = (9, timer.Failover (app_numbered 0)) ∷ [];
})
    ≡ codes "now 7\nnode n1 up 2\nnode n2 up 1\napp job lost n1\ntimer failover job 9\n"
unfolding nodes_of apps_of node_line running_line waiting_line forbidden_line line_if_forbidden standing_line app_line timer_line node_lines digits
lost_row = refl
