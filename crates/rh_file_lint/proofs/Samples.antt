-- The cluster of the rows: nodes n1, n2 and n3, and applications a, b and c. Nothing is found in it as it stands.
use Rattle.std.proofs.Common.{ℕ, true, false, Option, Some, None, List, [], ◌∷◌, codes}
use Rattle.rh_model.specs.ClusterView.{ClusterView, NodeView, AppView, numbered, app_numbered}
use Rattle.rh_model.proofs.PlainNode.{plain_node}
use Rattle.rh_model.specs.declared.node.Node.{Node}
use Rattle.rh_model.specs.declared.node.App.{App}
use Rattle.rh_model.specs.declared.settings.Dep.{Dep}
use Rattle.rh_model.specs.declared.settings.Restart.{Restart}
use Rattle.rh_model.specs.declared.settings.Restart.TheVariants.{Temporary}
use Rattle.rh_model.specs.declared.settings.Spread.{Spread}
use Rattle.rh_model.specs.declared.settings.SyncWait.{SyncWait}
use Rattle.rh_model.specs.declared.settings.SyncWait.TheVariants.{After}

abbrev pub n1 : Node
n1 = numbered 0

abbrev pub n2 : Node
n2 = numbered 1

abbrev pub n3 : Node
n3 = numbered 2

abbrev pub a : App
a = app_numbered 0

abbrev pub b : App
b = app_numbered 1

abbrev pub c : App
c = app_numbered 2

-- a node with these lists, this timeout and this boot list; it has the one platform name
abbrev pub node : List Node → List Node → SyncWait → List (App × Restart) → NodeView
node mandatory optional wait boot = record plain_node {
  mandatory = mandatory;
  optional = optional;
  sync_wait = wait;
  boot = boot;
  permissions = true ∷ true ∷ true ∷ [];
  platforms = true ∷ [];
}

-- an application that needs these, local or distributed
abbrev pub app : List Dep → Option Spread → AppView
app deps spread = record { deps = deps; start_arg = None; phases = false; spread = spread }

-- a failover timeout and a list of groups
abbrev pub at : ℕ → List (List Node) → Option Spread
at timeout groups = Some (record { timeout = timeout; groups = groups })

abbrev pub plain : List (List Node)
plain = (n1 ∷ []) ∷ (n2 ∷ []) ∷ (n3 ∷ []) ∷ []

abbrev pub cluster : List NodeView → List AppView → ClusterView
cluster nodes apps = record {
  profile = 2;
  node_names = codes "n1" ∷ codes "n2" ∷ codes "n3" ∷ [];
  app_names = codes "a" ∷ codes "b" ∷ codes "c" ∷ [];
  platform_names = codes "kernel" ∷ [];
  nodes = nodes;
  apps = apps;
}

-- all nodes boot a and b, and n1 boots c too
abbrev pub both : List (App × Restart)
both = (a, Temporary) ∷ (b, Temporary) ∷ []

abbrev pub first_node : NodeView
first_node = node (n2 ∷ n3 ∷ []) [] (After 5000) ((a, Temporary) ∷ (b, Temporary) ∷ (c, Temporary) ∷ [])

abbrev pub second_node : NodeView
second_node = node (n1 ∷ []) (n3 ∷ []) (After 5000) both

abbrev pub third_node : NodeView
third_node = node [] (n1 ∷ n2 ∷ []) (After 5000) both

-- with these lists of their own
abbrev pub with_lists : List Node → List Node → List Node → ClusterView
with_lists one two three = cluster
    (record first_node { mandatory = one; optional = [] } ∷ record second_node { mandatory = two; optional = [] } ∷ record third_node { mandatory = three; optional = [] } ∷ [])
    (app [] (at 0 plain) ∷ app [] (at 1000 plain) ∷ app [] None ∷ [])

-- with these timeouts of their own
abbrev pub with_waits : SyncWait → SyncWait → SyncWait → ClusterView
with_waits one two three = cluster
    (record first_node { sync_wait = one } ∷ record second_node { sync_wait = two } ∷ record third_node { sync_wait = three } ∷ [])
    (app [] (at 0 plain) ∷ app [] (at 1000 plain) ∷ app [] None ∷ [])

-- with these boot lists
abbrev pub with_boots : List (App × Restart) → List (App × Restart) → List (App × Restart) → List AppView → ClusterView
with_boots one two three apps = cluster
    (record first_node { boot = one } ∷ record second_node { boot = two } ∷ record third_node { boot = three } ∷ []) apps

-- with these applications
abbrev pub with_apps : List AppView → ClusterView
with_apps apps = cluster (first_node ∷ second_node ∷ third_node ∷ []) apps
