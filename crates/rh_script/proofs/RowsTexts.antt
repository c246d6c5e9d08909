-- Worked rows: the text of each answer, of each fault, of each command and of what comes of a plan.
use Rattle.std.proofs.Common.{◌≡◌, [], ◌∷◌, true, false, Some, None, codes, map, refl}
use Rattle.std.specs.Fmt.{digits}
use Rattle.rh_model.specs.ClusterView.{ClusterView, numbered, app_numbered}
use Rattle.rh_model.specs.declared.settings.Dep.TheVariants.{Listed, Platform}
use Rattle.rh_model.specs.declared.settings.Restart.TheVariants.{Permanent, Transient, Temporary}
use Rattle.rh_state.specs.declared.status.Kind.TheVariants as kind
use Rattle.rh_state.specs.declared.status.Standing.TheVariants as standing
use Rattle.rh_rules.specs.declared.notice.Notice.TheVariants.{Up, Ended, Started, Stopped, Waits}
use Rattle.rh_rules.specs.declared.event.Event.TheVariants.{Boot, Crash, Tick, Start, Stop, Permit, Takeover, Exit, StartAll, StopAll}
use Rattle.rh_rules.specs.declared.refusal.Refusal.TheVariants.{UnknownNode, UnknownApp, AlreadyAlive, IncarnationLimit, NotAlive, ZeroTick, TimeLimit, NodeNotUp, NotDistributed, NotListed, AlreadyStarted, NeverStarted, NotRunning, RunsHere, NotRunningHere, NotPermitted, DependencyNotStarted, TrailFull}
use Rattle.rh_calls.specs.declared.call.Call.TheVariants.{Step, Undo, Redo, UndoAll, RedoAll, Look}
use Rattle.rh_calls.specs.declared.call.Reply.TheVariants.{Done, Refused, Undone, Redone, AtStart, AtEnd, Moved, Seen}
use Rattle.rh_calls.specs.Report.{standing_line}
use Rattle.rh_cluster.specs.declared.fault.ClusterFault.TheVariants.{NoNodes, BadName}
use Rattle.rh_plans.specs.declared.fault.SweepFault.TheVariants.{BaseNotAtEnd, TrailRoom}
use Rattle.rh_script.specs.declared.script.TheConstants.{NO_NODE, NO_APP}
use Rattle.rh_script.specs.Answers.{notice_line, answer_text, fault_text, bad_text}
use Rattle.rh_script.specs.CommandWords.{command_words}
use Rattle.rh_script.specs.SweepAnswers.{plan_line, refused_line, outcome_text, sweep_fault_text}

-- nodes a and b, and applications w and v
abbrev c : ClusterView
c = record {
  profile = 1;
  node_names = codes "a" ∷ codes "b" ∷ [];
  app_names = codes "w" ∷ codes "v" ∷ [];
  platform_names = codes "kernel" ∷ [];
  nodes = [];
  apps = [];
}

-- ---- answers

-- the notices in their order
notices_row : answer_text c (Done (Up (numbered 0) ∷ Ended (numbered 1) ∷ Started (app_numbered 0) (numbered 1) kind.Normal None
    ∷ Started (app_numbered 0) (numbered 1) (kind.Failover (numbered 0)) (Some (numbered 0)) ∷ Started (app_numbered 1) (numbered 0) (kind.Takeover (numbered 1)) None
    ∷ Stopped (app_numbered 1) (numbered 1) ∷ Waits (app_numbered 0) (numbered 0) ∷ []))
    ≡ codes "ok\nup a\nended b\nstarted w b normal\nstarted w b failover a\nstarted v a takeover b\nstopped v b\nwaits w a\n"
unfolding answer_text notice_line
notices_row = refl

replies_row : map (answer_text c) (Done [] ∷ Undone ∷ Redone ∷ AtStart ∷ AtEnd ∷ Moved 0 ∷ Moved 12 ∷ Seen 3 4 (codes "now 7\n") ∷ [])
    ≡ codes "ok\n" ∷ codes "ok\n" ∷ codes "ok\n" ∷ codes "refused at_start\n" ∷ codes "refused at_end\n" ∷ codes "ok 0\n" ∷ codes "ok 12\n" ∷ codes "ok\nnow 7\n" ∷ []
unfolding answer_text digits
replies_row = refl

refusals_row : map (λ refusal. answer_text c (Refused refusal)) (UnknownNode ∷ UnknownApp ∷ AlreadyAlive ∷ IncarnationLimit ∷ NotAlive ∷ ZeroTick ∷ TimeLimit ∷ NodeNotUp
    ∷ NotDistributed ∷ NotListed ∷ AlreadyStarted ∷ NeverStarted ∷ NotRunning ∷ RunsHere ∷ NotRunningHere ∷ NotPermitted
    ∷ DependencyNotStarted (Listed (app_numbered 1)) ∷ DependencyNotStarted (Platform 0) ∷ TrailFull ∷ [])
    ≡ codes "refused S1 unknown_node\n" ∷ codes "refused S2 unknown_app\n" ∷ codes "refused S3 already_alive\n" ∷ codes "refused S4 incarnation_limit\n"
    ∷ codes "refused S5 not_alive\n" ∷ codes "refused S6 zero_tick\n" ∷ codes "refused S7 time_limit\n" ∷ codes "refused S8 node_not_up\n"
    ∷ codes "refused S9 not_distributed\n" ∷ codes "refused S10 not_listed\n" ∷ codes "refused S11 already_started\n" ∷ codes "refused S12 never_started\n"
    ∷ codes "refused S13 not_running\n" ∷ codes "refused S14 runs_here\n" ∷ codes "refused S15 not_running_here\n" ∷ codes "refused S16 not_permitted\n"
    ∷ codes "refused S17 dependency_not_started v\n" ∷ codes "refused S17 dependency_not_started kernel\n" ∷ codes "refused S18 trail_full\n" ∷ []
unfolding answer_text
refusals_row = refl

faults_row : map fault_text (NoNodes ∷ BadName ∷ []) ≡ codes "cluster refused C2 no_nodes\n" ∷ codes "cluster refused C11 bad_name\n" ∷ []
unfolding fault_text
faults_row = refl

bad_line_row : bad_text 10 ≡ codes "bad line 10\n"
unfolding bad_text digits
bad_line_row = refl

-- ---- commands

commands_row : map (command_words c) (Step (Boot (numbered 1)) ∷ Step (Crash (numbered 0)) ∷ Step (Tick 5) ∷ Step (Start (numbered 1) (app_numbered 0) Permanent)
    ∷ Step (Stop (numbered 1) (app_numbered 1)) ∷ Step (Permit (numbered 0) (app_numbered 1) true) ∷ Step (Permit (numbered 0) (app_numbered 1) false)
    ∷ Step (Takeover (numbered 0) (app_numbered 0) Temporary) ∷ Step (Exit (numbered 1) (app_numbered 0) true) ∷ Step (Exit (numbered 1) (app_numbered 0) false)
    ∷ Step (Start NO_NODE NO_APP Transient) ∷ Step (StartAll (app_numbered 1) Permanent) ∷ Step (StartAll NO_APP Temporary) ∷ Step (StopAll (app_numbered 1))
    ∷ Step (StopAll NO_APP) ∷ Undo ∷ Redo ∷ UndoAll ∷ RedoAll ∷ Look ∷ [])
    ≡ codes "boot b" ∷ codes "crash a" ∷ codes "tick 5" ∷ codes "start b w permanent" ∷ codes "stop b v" ∷ codes "permit a v true" ∷ codes "permit a v false"
    ∷ codes "takeover a w temporary" ∷ codes "exit b w normal" ∷ codes "exit b w abnormal" ∷ codes "start ? ? transient"
    ∷ codes "start_all v permanent" ∷ codes "start_all ? temporary" ∷ codes "stop_all v" ∷ codes "stop_all ?" ∷ codes "undo" ∷ codes "redo" ∷ codes "undo_all" ∷ codes "redo_all" ∷ codes "show" ∷ []
unfolding command_words digits
commands_row = refl

-- ---- plans

-- what was counted, the refused event counted from 1, and where the applications stand
outcome_row : outcome_text c (codes "p") (record {
  accepted = 4;
  refused = Some (4, DependencyNotStarted (Listed (app_numbered 1)));
  standings = (app_numbered 1, standing.Lost (numbered 1)) ∷ (app_numbered 0, standing.Wanted None) ∷ [];
  failovers = 2;
  takeovers = 3;
}) ≡ codes "plan p accepted 4 failovers 2 takeovers 3\nrefused 5 S17 dependency_not_started v\napp v lost b\napp w wanted\n"
unfolding outcome_text plan_line refused_line standing_line digits
outcome_row = refl

sweep_faults_row : map sweep_fault_text (BaseNotAtEnd ∷ TrailRoom ∷ []) ≡ codes "sweep refused V2 base_not_at_end\n" ∷ codes "sweep refused V3 trail_room\n" ∷ []
unfolding sweep_fault_text
sweep_faults_row = refl
