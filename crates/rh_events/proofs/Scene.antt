-- Two nodes and five applications, for rows that are computed: job and twin run at p or q, far at q alone, tool and aid are
-- local; and job, far and tool need aid.
use Rattle.std.proofs.Common.{ℕ, List, Bool, [], ◌∷◌, map, true, false, None, Some}
use Rattle.rh_model.specs.ClusterView.{ClusterView, NodeView, AppView}
use Rattle.rh_model.proofs.PlainNode.{plain_node}
use Rattle.rh_model.specs.declared.node.Node.{Node}
use Rattle.rh_model.specs.declared.node.App.{App}
use Rattle.rh_model.specs.declared.settings.Dep.{Dep}
use Rattle.rh_model.specs.declared.settings.Dep.TheVariants.{Listed}
use Rattle.rh_model.specs.declared.settings.Restart.{Restart}
use Rattle.rh_model.specs.declared.settings.Restart.TheVariants.{Permanent, Transient, Temporary}
use Rattle.rh_model.specs.declared.settings.SyncWait.{SyncWait}
use Rattle.rh_model.specs.declared.settings.SyncWait.TheVariants.{Unset, After}
use Rattle.rh_state.specs.declared.status.Mode.{Mode}
use Rattle.rh_state.specs.declared.status.Standing.{Standing}
use Rattle.rh_state.specs.First.{first}
use Rattle.rh_state.specs.StateView.{StateView}
use Rattle.rh_rules.specs.declared.notice.Pair.{Pair}

abbrev pub p : Node
p = record { 0 = 0 }

abbrev pub q : Node
q = record { 0 = 1 }

-- no node of the cluster, and no application of it
abbrev pub nowhere : Node
nowhere = record { 0 = 2 }

abbrev pub nothing : App
nothing = record { 0 = 5 }

abbrev pub job : App
job = record { 0 = 0 }

abbrev pub twin : App
twin = record { 0 = 1 }

abbrev pub far : App
far = record { 0 = 2 }

abbrev pub tool : App
tool = record { 0 = 3 }

abbrev pub aid : App
aid = record { 0 = 4 }

abbrev pub at : Node → App → Pair
at n a = record { node = n; app = a }

abbrev local_app : List Dep → AppView
local_app deps = record { deps = deps; start_arg = None; phases = false; spread = None }

abbrev spread_app : List Dep → ℕ → List (List Node) → AppView
spread_app deps timeout groups = record { deps = deps; start_arg = None; phases = false; spread = Some (record { timeout = timeout; groups = groups }) }

abbrev node : List Node → SyncWait → List (App × Restart) → NodeView
node mandatory wait boot = record plain_node {
  mandatory = mandatory;
  sync_wait = wait;
  boot = boot;
  permissions = true ∷ true ∷ true ∷ true ∷ true ∷ [];
}

-- all but job
abbrev others : List AppView
others = spread_app [] 1000 ((p ∷ q ∷ []) ∷ [])
    ∷ spread_app (Listed aid ∷ []) 0 ((q ∷ []) ∷ [])
    ∷ local_app (Listed aid ∷ [])
    ∷ local_app []
    ∷ []

-- q waits for p, and boots tool and then job
abbrev pub lab : SyncWait → ClusterView
lab wait = record {
  profile = 1;
  node_names = (1 ∷ []) ∷ (2 ∷ []) ∷ [];
  app_names = (3 ∷ []) ∷ (4 ∷ []) ∷ (5 ∷ []) ∷ (6 ∷ []) ∷ (7 ∷ []) ∷ [];
  platform_names = [];
  nodes = node [] Unset ((job, Permanent) ∷ []) ∷ node (p ∷ []) wait ((tool, Transient) ∷ (job, Temporary) ∷ []) ∷ [];
  apps = spread_app (Listed aid ∷ []) 1000 ((p ∷ []) ∷ (q ∷ []) ∷ []) ∷ others;
}

-- all is permitted, and no timer set: the modes, what runs, what waits, and where job, twin and far stand
abbrev pub scene_of : SyncWait → List Mode → List (List App) → List (List App) → List Standing → StateView
scene_of wait modes running waiting standings = record (first (lab wait)) {
  modes = modes;
  running = running;
  waiting = waiting;
  allowed = (true ∷ true ∷ true ∷ true ∷ true ∷ []) ∷ (true ∷ true ∷ true ∷ true ∷ true ∷ []) ∷ [];
  standings = standings;
}

abbrev pub scene : List Mode → List (List App) → List (List App) → List Standing → StateView
scene = scene_of (After 500)

-- the same in a cluster of the second profile
abbrev pub in_second : StateView → StateView
in_second s = record s { cluster = record s.cluster { profile = 2 } }

-- the same where job needs aid and tool, and its list is q and then p
abbrev pub turned : StateView → StateView
turned s = record s {
  cluster = record s.cluster { apps = spread_app (Listed aid ∷ Listed tool ∷ []) 1000 ((q ∷ []) ∷ (p ∷ []) ∷ []) ∷ others };
}

-- all but twin
abbrev not_twin : List Bool
not_twin = true ∷ false ∷ true ∷ true ∷ true ∷ []

-- the same where each node forbids twin, as it is configured
abbrev pub twin_forbidden : StateView → StateView
twin_forbidden s = record s {
  cluster = record s.cluster { nodes = map (λ (n : NodeView). record n { permissions = not_twin }) s.cluster.nodes };
  allowed = not_twin ∷ not_twin ∷ [];
}

abbrev pub none : List (List App)
none = [] ∷ [] ∷ []
