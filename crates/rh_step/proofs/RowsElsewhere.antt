-- Worked rows of distributed applications: the definitions compute to what an operator expects.
use Rattle.std.proofs.Common.{◌≡◌, List, true, false, [], ◌∷◌, Some, None, codes, refl}
use Rattle.rh_model.specs.ClusterView.{ClusterView, NodeView, numbered, app_numbered}
use Rattle.rh_model.proofs.PlainNode.{plain_node}
use Rattle.rh_model.specs.declared.node.Node.{Node}
use Rattle.rh_model.specs.declared.node.App.{App}
use Rattle.rh_model.specs.declared.settings.Restart.{Restart}
use Rattle.rh_model.specs.declared.settings.Restart.TheVariants.{Permanent, Transient}
use Rattle.rh_model.specs.declared.settings.SyncWait.{SyncWait}
use Rattle.rh_model.specs.declared.settings.SyncWait.TheVariants.{Unset, After}
use Rattle.rh_state.specs.declared.status.Kind.TheVariants as kind
use Rattle.rh_state.specs.declared.status.Standing.TheVariants.{Quiet}
use Rattle.rh_state.specs.declared.status.Timer.TheVariants.{Sync, Failover}
use Rattle.rh_state.specs.Numbers.{nodes_of, apps_of}
use Rattle.rh_state.specs.First.{first, configured}
use Rattle.rh_rules.specs.Placing.{missing_dep, deps_run, is_operational, best, candidates}
use Rattle.rh_rules.specs.declared.notice.Notice.TheVariants.{Up, Ended, Started, Stopped, Waits}
use Rattle.rh_rules.specs.Moves.{can_start, local_moves, placements, calls_away, takeovers}
use Rattle.rh_rules.specs.Settling.{next_moves, moved_by, all_moved}
use Rattle.rh_rules.specs.declared.event.Event.TheVariants.{Boot, Crash, Tick, Stop, Takeover, Exit}
use Rattle.rh_rules.specs.NodesStart.{all_alive, is_ready, come_up, come_up_if_ready, ready_come_up, booted}
use Rattle.rh_rules.specs.Marking.{with_mark, mark_all}
use Rattle.rh_rules.specs.NodesEnd.{cleared, lost_if_ran, all_lost, ended}
use Rattle.rh_rules.specs.ByHand.{stopped, is_started_anywhere, left_waiting, taken_over, exited}
use Rattle.rh_rules.specs.Time.{fired, fired_by, all_fired, ticked}
use Rattle.rh_rules.specs.Steps.{followed, next}
use Rattle.rh_step.proofs.Rows.{state_after, answers}

abbrev node : List Node → List Node → SyncWait → List (App × Restart) → NodeView
node mandatory optional wait boot = record plain_node {
  mandatory = mandatory;
  optional = optional;
  sync_wait = wait;
  boot = boot;
  permissions = true ∷ true ∷ [];
}

abbrev pub p : Node
p = numbered 0

abbrev pub q : Node
q = numbered 1

abbrev r : Node
r = numbered 2

-- ---- two nodes of one group, and a third behind them; the first has another application to run
abbrev load : App
load = app_numbered 0

abbrev job : App
job = app_numbered 1

abbrev busy : ClusterView
busy = record {
  profile = 1;
  node_names = codes "m1@lab" ∷ codes "m2@lab" ∷ codes "m3@lab" ∷ [];
  app_names = codes "load" ∷ codes "job" ∷ [];
  platform_names = [];
  nodes = node [] [] Unset ((load, Permanent) ∷ (job, Permanent) ∷ []) ∷ node [] [] Unset ((job, Permanent) ∷ []) ∷ node [] [] Unset
      ((job, Permanent) ∷ []) ∷ [];
  apps = record { deps = []; start_arg = None; phases = false; spread = None }
      ∷ record { deps = []; start_arg = None; phases = false; spread = Some (record { timeout = 0; groups = (p ∷ q ∷ []) ∷ (r ∷ []) ∷ [] }) }
      ∷ [];
}

-- a node of a better group takes over as it comes up; one of the same group waits; one is taken over by hand; and without a
-- timeout the other nodes wait for none
takeover_row : answers (first busy) (Boot r ∷ Boot p ∷ Boot q ∷ Takeover r job Permanent ∷ Crash r ∷ [])
    ≡ (Up r ∷ Started job r kind.Normal None ∷ [])
    ∷ (Up p ∷ Started load p kind.Normal None ∷ Started job p (kind.Takeover r) None ∷ Stopped job r ∷ [])
    ∷ (Up q ∷ Waits job q ∷ [])
    ∷ (Started job r (kind.Takeover p) None ∷ Stopped job p ∷ [])
    ∷ (Ended r ∷ Started job q kind.Normal (Some r) ∷ [])
    ∷ []
unfolding nodes_of apps_of configured all_alive is_ready booted with_mark mark_all come_up come_up_if_ready ready_come_up cleared lost_if_ran all_lost ended
    taken_over missing_dep deps_run is_operational best candidates can_start local_moves placements calls_away takeovers next_moves moved_by all_moved followed
    next
takeover_row = refl

-- ---- two nodes that wait for each other and for a third, which they can do without; an application with start phases
abbrev pub svc : App
svc = app_numbered 0

abbrev pub waiting : ClusterView
waiting = record {
  profile = 1;
  node_names = codes "n1@lab" ∷ codes "n2@lab" ∷ codes "n3@lab" ∷ [];
  app_names = codes "svc" ∷ [];
  platform_names = [];
  nodes = node [] (q ∷ r ∷ []) (After 1000) ((svc, Transient) ∷ []) ∷ node [] (p ∷ r ∷ []) (After 1000) ((svc, Transient) ∷ []) ∷ node [] [] Unset [] ∷ [];
  apps = record { deps = []; start_arg = None; phases = true; spread = Some (record { timeout = 1000; groups = (p ∷ []) ∷ (q ∷ []) ∷ [] }) } ∷ [];
}

-- timers that are due together fire in the order in which they were set
failover_row : answers (first waiting) (Boot p ∷ Boot q ∷ Tick 1000 ∷ Crash p ∷ Boot p ∷ Tick 1000 ∷ [])
    ≡ [] ∷ []
    ∷ (Up p ∷ Started svc p kind.Normal None ∷ Up q ∷ Waits svc q ∷ [])
    ∷ (Ended p ∷ []) ∷ []
    ∷ (Started svc q (kind.Failover p) (Some p) ∷ Up p ∷ Started svc p (kind.Takeover q) None ∷ Stopped svc q ∷ [])
    ∷ []
unfolding nodes_of apps_of configured all_alive is_ready booted with_mark mark_all come_up come_up_if_ready ready_come_up cleared lost_if_ran all_lost ended
    missing_dep deps_run is_operational best candidates can_start local_moves placements calls_away takeovers next_moves moved_by all_moved fired fired_by
    all_fired ticked followed next
failover_row = refl

timers_row : (state_after (first waiting) (Boot p ∷ Boot q ∷ Tick 1000 ∷ Crash p ∷ Boot p ∷ [])).timers ≡ (2000, Failover svc) ∷ (2000, Sync p) ∷ []
unfolding nodes_of apps_of configured all_alive is_ready booted with_mark mark_all come_up come_up_if_ready ready_come_up cleared lost_if_ran all_lost ended
    missing_dep deps_run is_operational best candidates can_start local_moves placements calls_away takeovers next_moves moved_by all_moved fired fired_by
    all_fired ticked followed next
timers_row = refl

-- one that is lost, and then started nowhere, is quiet, and its timer goes
quiet_row : (state_after (first waiting) (Boot p ∷ Boot q ∷ Tick 1000 ∷ Exit p svc false ∷ Stop q svc ∷ [])).standings ≡ Quiet ∷ []
unfolding nodes_of apps_of configured all_alive is_ready booted with_mark mark_all come_up come_up_if_ready ready_come_up cleared lost_if_ran all_lost ended
    stopped left_waiting is_started_anywhere exited missing_dep deps_run is_operational best candidates can_start local_moves placements calls_away takeovers
    next_moves moved_by all_moved fired fired_by all_fired ticked followed next
quiet_row = refl

no_timer_row : (state_after (first waiting) (Boot p ∷ Boot q ∷ Tick 1000 ∷ Exit p svc false ∷ Stop q svc ∷ [])).timers ≡ []
unfolding nodes_of apps_of configured all_alive is_ready booted with_mark mark_all come_up come_up_if_ready ready_come_up cleared lost_if_ran all_lost ended
    stopped left_waiting is_started_anywhere exited missing_dep deps_run is_operational best candidates can_start local_moves placements calls_away takeovers
    next_moves moved_by all_moved fired fired_by all_fired ticked followed next
no_timer_row = refl
