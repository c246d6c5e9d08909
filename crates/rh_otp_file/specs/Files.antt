-- What a node's own file says, of the text that a cluster was read from (ours).
use Rattle.std.specs.Prelude.{ℕ, List, [], ◌∷◌, map, codes, Option, Some, None, Result, Ok, Err, if◌then◌else◌}
use Rattle.std.specs.Option.{option_or}
use Rattle.std.specs.Str.{bytes_eq}
use Rattle.rh_base.specs.Tree.{Tree, Trees, list_of_trees}
use Rattle.rh_terms.specs.Grammar.{terms_of}
use Rattle.rh_terms.specs.declared.fault.TermFault.{TermFault}
use Rattle.rh_model.specs.ClusterView.{ClusterView}
use Rattle.rh_cluster.specs.Shapes.{as_node, ◌>>=◌}
use Rattle.rh_cluster.specs.Values.{value_under, kernel_of, distributed_in}
use Rattle.rh_otp_model.specs.declared.wait.OwnFile.{OwnFile}
use Rattle.rh_otp_file.specs.Distributed.{own_in}
use Rattle.rh_otp_file.specs.Waits.{wait_in}

-- the configuration of {node, Name, SysConfig}, where the node has this name
unfoldable pub config_if : List ℕ → Tree → Option Tree
config_if name t = do
  n ← as_node t
  if bytes_eq n.0 name then Some n.1 else None

-- that of the first of these terms that has one
abbrev pub config_of : List ℕ → List Tree → Option Tree
config_of name [] = None
config_of name (t ∷ ts) = option_or (config_if name t) (config_of name ts)

-- what a node's configuration says
unfoldable pub file_in : ClusterView → Tree → OwnFile
file_in c config = record {
  own = own_in c (distributed_in config);
  wait = wait_in (value_under (codes "sync_nodes_timeout") (kernel_of config));
}

-- the same where there may be none: a file without parameters
abbrev pub file_by : ClusterView → Option Tree → OwnFile
file_by c (Some config) = file_in c config
file_by c None = record { own = own_in c None; wait = wait_in None }

-- what these terms say of each node of the cluster
unfoldable pub files_of : ClusterView → List Tree → List OwnFile
files_of c ts = map (λ name. file_by c (config_of name ts)) c.node_names

-- the terms that were read; of a text that can't be read there are none
abbrev pub terms_in : Result Trees TermFault → List Tree
terms_in (Ok ts) = list_of_trees ts
terms_in (Err f) = []

-- what a text says of each node of the cluster
unfoldable pub own_files : ClusterView → List ℕ → List OwnFile
own_files c text = files_of c (terms_in (terms_of text))
