-- Worked rows: each line of a report, in its place.
use Rattle.std.proofs.Common.{◌≡◌, true, false, [], ◌∷◌, ◌++◌, Some, None, codes, refl}
use Rattle.std.specs.Fmt.{digits}
use Rattle.rh_model.specs.ClusterView.{ClusterView, AppView, numbered, app_numbered}
use Rattle.rh_model.specs.declared.settings.Restart.TheVariants.{Permanent, Transient, Temporary}
use Rattle.rh_state.specs.declared.status.Mode.TheVariants as mode
use Rattle.rh_state.specs.declared.status.Kind.TheVariants.{Normal, Failover, Takeover}
use Rattle.rh_state.specs.declared.status.Standing.TheVariants.{Quiet, Wanted, Running, Lost}
use Rattle.rh_state.specs.declared.status.Timer.TheVariants as timer
use Rattle.rh_state.specs.StateView.{StateView}
use Rattle.rh_state.specs.Numbers.{nodes_of, apps_of}
use Rattle.rh_state.specs.First.{first, configured}
use Rattle.rh_calls.specs.Report.{report_text, node_line, running_line, waiting_line, forbidden_line, line_if_forbidden}
use Rattle.rh_calls.specs.Report.{standing_line, app_line, timer_line, node_lines}

-- a local application, and a distributed one
abbrev local : AppView
local = record { deps = []; start_arg = None; phases = false; spread = None }

abbrev distributed : AppView
distributed = record local { spread = Some (record { timeout = 0; groups = [] }) }

abbrev cluster : ClusterView
cluster = record {
  profile = 1;
  node_names = codes "n1" ∷ codes "n2" ∷ codes "n3" ∷ [];
  app_names = codes "job" ∷ codes "load" ∷ codes "web" ∷ codes "db" ∷ codes "old" ∷ codes "new" ∷ [];
  platform_names = [];
  nodes = [];
  apps = distributed ∷ local ∷ distributed ∷ distributed ∷ distributed ∷ distributed ∷ [];
}

-- a node that is up, one that waits and one that is down; applications that run, wait and are forbidden at the first; each standing, and both kinds of timers
abbrev state : StateView
state = record (first cluster) {
  time = 12;
  modes = mode.Up ∷ mode.Waiting ∷ mode.Down ∷ [];
  incarnations = 3 ∷ 10 ∷ 0 ∷ [];
  running = (app_numbered 1 ∷ app_numbered 0 ∷ app_numbered 3 ∷ []) ∷ [] ∷ [] ∷ [];
  waiting = (app_numbered 4 ∷ app_numbered 2 ∷ []) ∷ [] ∷ [] ∷ [];
  restarts = (Permanent ∷ Transient ∷ Temporary ∷ Temporary ∷ Permanent ∷ Transient ∷ []) ∷ [] ∷ [] ∷ [];
  kinds = (Takeover (numbered 2) ∷ Normal ∷ Normal ∷ Failover (numbered 1) ∷ Normal ∷ Normal ∷ []) ∷ [] ∷ [] ∷ [];
  allowed = (true ∷ true ∷ false ∷ true ∷ false ∷ true ∷ []) ∷ (true ∷ true ∷ true ∷ false ∷ true ∷ true ∷ [])
      ∷ (true ∷ true ∷ true ∷ true ∷ true ∷ true ∷ []) ∷ [];
  standings = Running (numbered 0) ∷ Quiet ∷ Wanted None ∷ Wanted (Some (numbered 2)) ∷ Quiet ∷ Lost (numbered 1) ∷ [];
  timers = (12, timer.Failover (app_numbered 5)) ∷ (12, timer.Sync (numbered 1)) ∷ (40, timer.Sync (numbered 2)) ∷ [];
}

lines_row : report_text state ≡
    codes "now 12\n" ++
    codes "node n1 up 3\n" ++
    codes "  running load transient normal\n" ++
    codes "  running job permanent takeover n3\n" ++
    codes "  running db temporary failover n2\n" ++
    codes "  waiting old permanent\n" ++
    codes "  waiting web temporary\n" ++
    codes "  forbidden web\n" ++
    codes "  forbidden old\n" ++
    codes "node n2 waiting 10\n" ++
    codes "  forbidden db\n" ++
    codes "node n3 down 0\n" ++
    codes "app job running n1\n" ++
    codes "app web wanted\n" ++
    codes "app db wanted n3\n" ++
    codes "app old quiet\n" ++
    codes "app new lost n2\n" ++
    codes "timer failover new 12\n" ++
    codes "timer sync n2 12\n" ++
    codes "timer sync n3 40\n"
unfolding nodes_of apps_of configured node_line running_line waiting_line forbidden_line line_if_forbidden standing_line app_line timer_line node_lines digits
lines_row = refl
