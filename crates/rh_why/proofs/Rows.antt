-- Worked rows: three nodes n1, n2 and n3, a local application db, and a distributed one, web, that needs db and a name of the platform.
use Rattle.std.proofs.Common.{◌≡◌, Bool, true, false, Some, None, [], ◌∷◌, codes, refl}
use Rattle.std.specs.Fmt.{digits}
use Rattle.rh_model.specs.ClusterView.{ClusterView, NodeView, numbered, app_numbered}
use Rattle.rh_model.proofs.PlainNode.{plain_node}
use Rattle.rh_model.specs.declared.node.Node.{Node}
use Rattle.rh_model.specs.declared.node.App.{App}
use Rattle.rh_model.specs.declared.settings.Dep.TheVariants.{Listed, Platform}
use Rattle.rh_model.specs.declared.settings.SyncWait.{SyncWait}
use Rattle.rh_model.specs.declared.settings.SyncWait.TheVariants.{Unset, After, Forever}
use Rattle.rh_state.specs.Numbers.{nodes_of}
use Rattle.rh_state.specs.declared.status.Mode.{Mode}
use Rattle.rh_state.specs.declared.status.Mode.TheVariants as mode
use Rattle.rh_state.specs.declared.status.Standing.{Standing}
use Rattle.rh_state.specs.declared.status.Standing.TheVariants as standing
use Rattle.rh_state.specs.declared.status.Timer.TheVariants.{Sync, Failover}
use Rattle.rh_state.specs.First.{first}
use Rattle.rh_state.specs.StateView.{StateView}
use Rattle.rh_rules.specs.Placing.{missing_dep}
use Rattle.rh_why.specs.declared.reason.Reason.TheVariants.{Needs, Forbidden, RunsAt, LostWith, Quiet}
use Rattle.rh_why.specs.Reasons.{reasons, awaited}
use Rattle.rh_why.specs.Texts.{reason_text, awaited_text}

abbrev n1 : Node
n1 = numbered 0

abbrev n2 : Node
n2 = numbered 1

abbrev n3 : Node
n3 = numbered 2

abbrev db : App
db = app_numbered 0

abbrev web : App
web = app_numbered 1

-- n1 waits for n3 and n2, and names itself; the others wait for nobody
abbrev waits_so : SyncWait → NodeView
waits_so wait = record plain_node {
  mandatory = n3 ∷ n1 ∷ [];
  optional = n2 ∷ n3 ∷ [];
  sync_wait = wait;
  permissions = true ∷ true ∷ [];
  platforms = true ∷ [];
}

abbrev alone : Bool → NodeView
alone platform = record plain_node { permissions = true ∷ true ∷ []; platforms = platform ∷ [] }

abbrev cluster : SyncWait → ClusterView
cluster wait = record {
  profile = 1;
  node_names = codes "n1" ∷ codes "n2" ∷ codes "n3" ∷ [];
  app_names = codes "db" ∷ codes "web" ∷ [];
  platform_names = codes "kernel" ∷ [];
  nodes = waits_so wait ∷ alone true ∷ alone false ∷ [];
  apps = record { deps = []; start_arg = None; phases = false; spread = None }
      ∷ record { deps = Platform 0 ∷ Listed db ∷ []; start_arg = None; phases = false; spread = Some (record { timeout = 5000; groups = (n1 ∷ []) ∷ (n2 ∷ n3 ∷ []) ∷ [] }) }
      ∷ [];
}

-- all nodes are up; db runs at n1, web waits at n2 and n3
abbrev state : Standing → StateView
state at = record (first (cluster Unset)) {
  time = 1000;
  modes = mode.Up ∷ mode.Up ∷ mode.Up ∷ [];
  running = (db ∷ []) ∷ [] ∷ [] ∷ [];
  waiting = [] ∷ (web ∷ []) ∷ (web ∷ []) ∷ [];
  allowed = (true ∷ true ∷ []) ∷ (true ∷ true ∷ []) ∷ (true ∷ true ∷ []) ∷ [];
  standings = standing.Quiet ∷ at ∷ [];
}

-- ---- an application
-- a dependency that runs at another node doesn't run here, and a standby stays one
standby : reasons (record (state (standing.Running n1)) { running = (db ∷ web ∷ []) ∷ [] ∷ [] ∷ [] }) web n2 ≡ Needs (Listed db) ∷ RunsAt n1 ∷ []
unfolding reasons missing_dep
standby = refl

-- of two dependencies that don't run the first is told
first_of_two : reasons (state (standing.Wanted None)) web n3 ≡ Needs (Platform 0) ∷ []
unfolding reasons missing_dep
first_of_two = refl

-- where it is lost its timer's due is told, and not how long that is from now
lost : reasons (record (state (standing.Lost n1)) { running = [] ∷ (db ∷ []) ∷ [] ∷ []; timers = (2000, Sync n3) ∷ (6000, Failover web) ∷ [] }) web n2
    ≡ LostWith n1 6000 ∷ []
unfolding reasons missing_dep
lost = refl

-- all that holds is told
all_three : reasons (record (state (standing.Lost n1)) { allowed = (true ∷ true ∷ []) ∷ (true ∷ false ∷ []) ∷ (true ∷ true ∷ []) ∷ []; timers = (6000, Failover web) ∷ [] }) web n2
    ≡ Needs (Listed db) ∷ Forbidden ∷ LostWith n1 6000 ∷ []
unfolding reasons missing_dep
all_three = refl

-- the permission of another node and of another application don't count
other_permissions : reasons (record (state (standing.Wanted (Some n1))) { allowed = (true ∷ false ∷ []) ∷ (false ∷ true ∷ []) ∷ (true ∷ false ∷ []) ∷ [] }) web n2
    ≡ Needs (Listed db) ∷ []
unfolding reasons missing_dep
other_permissions = refl

quiet : reasons (record (state standing.Quiet) { running = [] ∷ (db ∷ []) ∷ [] ∷ [] }) web n2 ≡ Quiet ∷ []
unfolding reasons missing_dep
quiet = refl

-- a local application has no standing
local : reasons (record (state standing.Quiet) { waiting = [] ∷ (db ∷ []) ∷ [] ∷ []; allowed = (true ∷ true ∷ []) ∷ (false ∷ true ∷ []) ∷ (true ∷ true ∷ []) ∷ [] }) db n2
    ≡ Forbidden ∷ []
unfolding reasons missing_dep
local = refl

-- one that runs, and one that isn't started, wait for nothing
runs_there : reasons (record (state (standing.Running n2)) { running = [] ∷ (web ∷ []) ∷ [] ∷ []; waiting = [] ∷ [] ∷ [] ∷ [] }) web n2 ≡ []
unfolding reasons missing_dep
runs_there = refl

not_started : reasons (state (standing.Running n2)) web n1 ≡ []
unfolding reasons missing_dep
not_started = refl

-- ---- a node
abbrev booting : SyncWait → Mode → Mode → Mode → StateView
booting wait first second third = record (state standing.Quiet) { cluster = cluster wait; modes = first ∷ second ∷ third ∷ [] }

-- in the order of the file, each once, and not itself
for_both : awaited (booting Forever mode.Waiting mode.Down mode.Down) n1 ≡ n2 ∷ n3 ∷ []
unfolding awaited nodes_of
for_both = refl

-- a node that waits is alive as one that is up
for_one : awaited (booting (After 5000) mode.Waiting mode.Waiting mode.Down) n1 ≡ n3 ∷ []
unfolding awaited nodes_of
for_one = refl

for_the_other : awaited (booting (After 5000) mode.Waiting mode.Down mode.Up) n1 ≡ n2 ∷ []
unfolding awaited nodes_of
for_the_other = refl

for_nobody : awaited (booting Unset mode.Waiting mode.Down mode.Down) n1 ≡ []
unfolding awaited nodes_of
for_nobody = refl

up_already : awaited (booting Forever mode.Up mode.Down mode.Down) n1 ≡ []
unfolding awaited nodes_of
up_already = refl

-- ---- texts
app_needed : reason_text (cluster Unset) (Needs (Listed db)) ≡ codes "needs db"
unfolding reason_text
app_needed = refl

platform_needed : reason_text (cluster Unset) (Needs (Platform 0)) ≡ codes "needs kernel"
unfolding reason_text
platform_needed = refl

unknown_needed : reason_text (cluster Unset) (Needs (Platform 1)) ≡ codes "needs ?"
unfolding reason_text
unknown_needed = refl

forbidden_text : reason_text (cluster Unset) Forbidden ≡ codes "forbidden"
unfolding reason_text
forbidden_text = refl

runs_text : reason_text (cluster Unset) (RunsAt n1) ≡ codes "runs at n1"
unfolding reason_text
runs_text = refl

lost_text : reason_text (cluster Unset) (LostWith n2 6000) ≡ codes "lost with n2 until 6000"
unfolding reason_text digits
lost_text = refl

quiet_text : reason_text (cluster Unset) Quiet ≡ codes "quiet"
unfolding reason_text
quiet_text = refl

waits_timed : awaited_text (cluster Unset) (n2 ∷ n3 ∷ []) (Some 5000) ≡ codes "waits for n2 n3 until 5000"
unfolding awaited_text digits
waits_timed = refl

waits_without_end : awaited_text (cluster Unset) (n2 ∷ []) None ≡ codes "waits for n2"
unfolding awaited_text
waits_without_end = refl
