-- The second stage: the shape and the name of each term (ours).
use Rattle.std.specs.Prelude.{ℕ, List, [], ◌∷◌, ◌++◌, length, map, filter_map, codes}
use Rattle.std.specs.Prelude.{Bool, false, not, ◌||◌, ◌==◌, nat_le, Option, Some, None}
use Rattle.rh_base.specs.Tree.{Tree}
use Rattle.rh_cluster.specs.declared.fault.ClusterFault.{ClusterFault}
use Rattle.rh_cluster.specs.declared.fault.ClusterFault.TheVariants as fault
use Rattle.rh_model.specs.Limits.{node_limit, app_limit}
use Rattle.rh_model.specs.Names.{is_among}
use Rattle.rh_cluster.specs.NameRule.{is_name}
use Rattle.rh_cluster.specs.Shapes.{as_node, as_app}
use Rattle.rh_cluster.specs.Faults.{when, in_turn}

-- the names of the platform that every node has
abbrev pub every_platform : List (List ℕ)
every_platform = codes "kernel" ∷ (codes "stdlib" ∷ [])

-- each node term as its name and its SysConfig
abbrev pub nodes_in : List Tree → List (List ℕ × Tree)
nodes_in = filter_map as_node

-- each application term as its name and its Keys
abbrev pub apps_in : List Tree → List (List ℕ × Tree)
apps_in = filter_map as_app

-- the names of the nodes
unfoldable pub node_names : List Tree → List (List ℕ)
node_names ts = map (λ (n : List ℕ × Tree). n.0) (nodes_in ts)

-- the names of the applications
unfoldable pub app_names : List Tree → List (List ℕ)
app_names ts = map (λ (a : List ℕ × Tree). a.0) (apps_in ts)

-- what is wrong with the name of a term, behind earlier names of its kind: the rule, a taken name, too many names
unfoldable pub new_name_faults : ℕ → Bool → List (List ℕ) → List ℕ → List ClusterFault
new_name_faults most reserved earlier name =
    when (not (is_name name)) fault.BadName
    ++ when (reserved || is_among earlier name) fault.DuplicateName
    ++ when (nat_le most (length earlier)) fault.TooMany

-- the same, where the term is seen as a node term and as an application term of a file of this profile
abbrev pub header_faults_by :
    ℕ → List (List ℕ) → List (List ℕ) → Option (List ℕ × Tree) → Option (List ℕ × Tree) → List ClusterFault
header_faults_by profile nodes apps (Some node) app = new_name_faults (node_limit profile) false nodes node.0
header_faults_by profile nodes apps None (Some app) =
    new_name_faults (app_limit profile) (is_among every_platform app.0) apps app.0
header_faults_by profile nodes apps None None = fault.BadValue ∷ []

-- what is wrong with a term's shape or name, behind terms with these names
unfoldable pub header_faults : ℕ → List (List ℕ) → List (List ℕ) → Tree → List ClusterFault
header_faults profile nodes apps t = header_faults_by profile nodes apps (as_node t) (as_app t)

-- The second stage: each term in order; at last, whether there is a node.
unfoldable pub headers_stage : ℕ → List Tree → List ClusterFault
headers_stage profile ts =
    in_turn (λ earlier t. header_faults profile (node_names earlier) (app_names earlier) t) [] ts
    ++ when (length (node_names ts) == 0) fault.NoNodes
