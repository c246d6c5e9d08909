-- The line that tells the cluster, and the one that tells why there is none (ours).
use Rattle.std.specs.Prelude.{ℕ, List, ◌++◌, ◌==◌, codes, Option, Some, None}
use Rattle.std.specs.List.{before_first, after_first}
use Rattle.std.specs.Fmt.{decimal}
use Rattle.rh_model.specs.ClusterView.{ClusterView, spread_of}
use Rattle.rh_model.specs.declared.node.Node.{Node}
use Rattle.rh_model.specs.declared.node.App.{App}
use Rattle.rh_model.specs.declared.settings.Spread.{Spread}
use Rattle.rh_state.specs.Numbers.{nodes_of, apps_of}
use Rattle.rh_cluster.specs.declared.fault.ClusterFault.{ClusterFault}
use Rattle.rh_cluster.specs.FaultTexts.{cluster_fault_text}
use Rattle.rh_calls.specs.Report.{node_word, app_word}
use Rattle.rh_json_text.specs.Json.{json_string, json_array}

-- the name of a node, and of an application
unfoldable pub node_json : ClusterView → Node → List ℕ
node_json c n = json_string (node_word c n)

unfoldable pub app_json : ClusterView → App → List ℕ
app_json c a = json_string (app_word c a)

-- nodes of equal rank
unfoldable pub group_json : ClusterView → List Node → List ℕ
group_json c group = json_array (node_json c) group

-- whether an application is distributed, and the groups of its nodes, those that it prefers first
abbrev pub spread_json : ClusterView → Option Spread → List ℕ
spread_json c None = codes "false"
spread_json c (Some spread) = codes "true,\"nodes\":" ++ json_array (group_json c) spread.groups

-- an application of the cluster
unfoldable pub settings_json : ClusterView → App → List ℕ
settings_json c a = codes "{\"name\":" ++ app_json c a ++ codes ",\"distributed\":" ++ spread_json c (spread_of c a) ++ codes "}"

-- the cluster, nodes and applications in their order
unfoldable pub cluster_line : ClusterView → List ℕ
cluster_line c =
    codes "{\"profile\":" ++ decimal c.profile ++ codes ",\"nodes\":" ++ json_array (node_json c) (nodes_of c)
    ++ codes ",\"applications\":" ++ json_array (settings_json c) (apps_of c) ++ codes "}\n"

-- a fault with this code, for this reason
unfoldable pub refused_json : List ℕ → List ℕ → List ℕ
refused_json code reason = codes "{\"refused\":" ++ json_string code ++ codes ",\"reason\":" ++ json_string reason ++ codes "}\n"

-- the words of a fault: the first of them is its code, and the others are its reason
unfoldable pub refused_line : List ℕ → List ℕ
refused_line words = refused_json (before_first (λ b. b == 32) words) (after_first (λ b. b == 32) words)

-- why a text is no cluster file
abbrev pub fault_line : ClusterFault → List ℕ
fault_line f = refused_line (cluster_fault_text f)
