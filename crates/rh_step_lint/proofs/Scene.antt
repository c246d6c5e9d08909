-- The cluster of the worked rows: nodes n1 to n4; db is local, web needs it and runs at n1, else at n2, else at n3; shop runs at n1 or
-- n2, else at n3, and site at n1 or n2, else at n3 or n4.
use Rattle.std.proofs.Common.{List, [], ◌∷◌, Bool, true, false, Some, None, codes}
use Rattle.rh_model.specs.ClusterView.{ClusterView, NodeView, AppView, numbered, app_numbered}
use Rattle.rh_model.proofs.PlainNode.{plain_node}
use Rattle.rh_model.specs.declared.node.Node.{Node}
use Rattle.rh_model.specs.declared.node.App.{App}
use Rattle.rh_model.specs.declared.settings.Dep.{Dep}
use Rattle.rh_model.specs.declared.settings.Dep.TheVariants.{Listed}
use Rattle.rh_model.specs.declared.settings.Restart.{Restart}
use Rattle.rh_model.specs.declared.settings.Restart.TheVariants.{Permanent}
use Rattle.rh_model.specs.declared.settings.SyncWait.{SyncWait}
use Rattle.rh_model.specs.declared.settings.SyncWait.TheVariants.{Unset, Forever}
use Rattle.rh_state.specs.declared.status.Mode.{Mode}
use Rattle.rh_state.specs.declared.status.Mode.TheVariants.{Up}
use Rattle.rh_state.specs.declared.status.Standing.{Standing}
use Rattle.rh_state.specs.declared.status.Standing.TheVariants.{Quiet}
use Rattle.rh_state.specs.First.{first}
use Rattle.rh_state.specs.StateView.{StateView}

abbrev pub n1 : Node
n1 = numbered 0

abbrev pub n2 : Node
n2 = numbered 1

abbrev pub n3 : Node
n3 = numbered 2

abbrev pub n4 : Node
n4 = numbered 3

abbrev pub db : App
db = app_numbered 0

abbrev pub web : App
web = app_numbered 1

abbrev pub shop : App
shop = app_numbered 2

abbrev pub site : App
site = app_numbered 3

-- a node that boots these, and waits so for those
abbrev pub node : SyncWait → List Node → List (App × Restart) → NodeView
node wait others boot = record plain_node { optional = others; sync_wait = wait; boot = boot; permissions = true ∷ true ∷ true ∷ true ∷ [] }

abbrev pub plain : NodeView
plain = node Unset [] ((db, Permanent) ∷ (web, Permanent) ∷ [])

-- one that waits for all others
abbrev pub watchful : NodeView
watchful = node Forever (n1 ∷ n2 ∷ n3 ∷ n4 ∷ []) ((db, Permanent) ∷ (web, Permanent) ∷ [])

-- the applications, of which db and site need these
abbrev pub apps : List Dep → List Dep → List AppView
apps of_db of_site = record { deps = of_db; start_arg = None; phases = false; spread = None }
    ∷ record { deps = Listed db ∷ []; start_arg = None; phases = true; spread = Some (record { timeout = 5000; groups = (n1 ∷ []) ∷ (n2 ∷ []) ∷ (n3 ∷ []) ∷ [] }) }
    ∷ record { deps = []; start_arg = None; phases = false; spread = Some (record { timeout = 0; groups = (n1 ∷ n2 ∷ []) ∷ (n3 ∷ []) ∷ [] }) }
    ∷ record { deps = of_site; start_arg = None; phases = false; spread = Some (record { timeout = 1000; groups = (n1 ∷ n2 ∷ []) ∷ (n3 ∷ n4 ∷ []) ∷ [] }) }
    ∷ []

-- the cluster in which n1 and n2 are these
abbrev pub cluster : NodeView → NodeView → ClusterView
cluster first second = record {
  profile = 2;
  node_names = codes "n1" ∷ codes "n2" ∷ codes "n3" ∷ codes "n4" ∷ [];
  app_names = codes "db" ∷ codes "web" ∷ codes "shop" ∷ codes "site" ∷ [];
  platform_names = [];
  nodes = first ∷ second ∷ plain ∷ plain ∷ [];
  apps = apps [] [];
}

-- the one in which each node waits for all others
abbrev pub watchful_cluster : ClusterView
watchful_cluster = record (cluster watchful watchful) { nodes = watchful ∷ watchful ∷ watchful ∷ watchful ∷ [] }

-- the one in which db needs these
abbrev pub db_needs : List Dep → ClusterView
db_needs deps = record (cluster plain plain) { apps = apps deps [] }

-- and the one in which site needs these, and n1 boots it
abbrev pub site_needs : List Dep → ClusterView
site_needs deps = record (cluster (node Unset [] ((site, Permanent) ∷ [])) plain) { apps = apps [] deps }

abbrev pub all_up : List Mode
all_up = Up ∷ Up ∷ Up ∷ Up ∷ []

abbrev pub none : List (List App)
none = [] ∷ [] ∷ [] ∷ [] ∷ []

abbrev pub all_quiet : List Standing
all_quiet = Quiet ∷ Quiet ∷ Quiet ∷ Quiet ∷ []

-- the standings in which web, or shop, or site stands so
abbrev pub web_at : Standing → List Standing
web_at at = Quiet ∷ at ∷ Quiet ∷ Quiet ∷ []

abbrev pub shop_at : Standing → List Standing
shop_at at = Quiet ∷ Quiet ∷ at ∷ Quiet ∷ []

abbrev pub site_at : Standing → List Standing
site_at at = Quiet ∷ Quiet ∷ Quiet ∷ at ∷ []

abbrev pub row : Bool → Bool → List Bool
row of_db of_web = of_db ∷ of_web ∷ true ∷ true ∷ []

-- nodes that do these and wait for all others, with what runs and waits at each, and where the applications stand; all is permitted
abbrev pub scene : List Mode → List (List App) → List (List App) → List Standing → StateView
scene modes running waiting standings = record (first watchful_cluster) {
  time = 1000;
  modes = modes;
  running = running;
  waiting = waiting;
  allowed = row true true ∷ row true true ∷ row true true ∷ row true true ∷ [];
  standings = standings;
}

-- where db, or web, is forbidden at n1
abbrev pub forbidden_at_n1 : Bool → Bool → StateView → StateView
forbidden_at_n1 of_db of_web s = record s { allowed = row of_db of_web ∷ row true true ∷ row true true ∷ row true true ∷ [] }

-- the same in another cluster
abbrev pub within : ClusterView → StateView → StateView
within c s = record s { cluster = c }
