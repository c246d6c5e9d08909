-- Two nodes that have to agree and don't (kernel(6), `distributed` and `sync_nodes_timeout`).
use Rattle.std.specs.Prelude.{ℕ, ◌+◌, List, [], ◌∷◌, codes, length, Bool, false, not, ◌||◌, ◌==◌, Option, Some, None, unwrap_or, Result, Ok, Err, if◌then◌else◌}
use Rattle.std.specs.List.{list_any}
use Rattle.std.specs.Option.{option_map, option_map_or, option_or}
use Rattle.std.specs.Str.{bytes_eq}
use Rattle.rh_base.specs.Tree.{Tree, Trees, list_of_trees}
use Rattle.rh_terms.specs.Grammar.{terms_of}
use Rattle.rh_terms.specs.declared.fault.TermFault.{TermFault}
use Rattle.rh_model.specs.declared.settings.SyncWait.{SyncWait}
use Rattle.rh_cluster.specs.Shapes.{as_atom, as_tuple, as_node, ◌>>=◌}
use Rattle.rh_cluster.specs.Sections.{atom_is}
use Rattle.rh_cluster.specs.Values.{elements, elements_under, value_under, kernel_of, wait_in}
use Rattle.rh_cluster.specs.Agreement.{same_wait}
use Rattle.rh_cluster_lint.specs.declared.waits.Differing.{Differing}
use Rattle.rh_cluster_lint.specs.declared.waits.Differing.TheVariants.{Distributed, SyncTimeout}
use Rattle.rh_cluster_lint.specs.declared.taking_part.Sides.{Sides}

-- a node with its configuration
abbrev pub Configured : Type 0
Configured = List ℕ × Tree

-- ---- which nodes take part

-- the term is this name
abbrev pub is_name : List ℕ → Tree → Bool
is_name name t = atom_is (bytes_eq name) (as_atom t)

-- a group has the node: it is its name, or a tuple that has it
unfoldable pub group_has : List ℕ → Tree → Bool
group_has name g = is_name name g || list_any (is_name name) (unwrap_or (as_tuple g) [])

-- the last part of {App, Nodes} or {App, Timeout, Nodes}
abbrev pub listed_by : Option (List Tree) → List Tree
listed_by (Some (app ∷ (nodes ∷ []))) = elements nodes
listed_by (Some (app ∷ (time ∷ (nodes ∷ [])))) = elements nodes
listed_by _ = []

-- an entry of `distributed` lists the node
unfoldable pub entry_lists : List ℕ → Tree → Bool
entry_lists name e = list_any (group_has name) (listed_by (as_tuple e))

-- the `distributed` of a node
abbrev pub distributed : Tree → List Tree
distributed config = elements_under (codes "distributed") (kernel_of config)

-- that of this term, where it is a node's, lists the node
unfoldable pub term_lists : List ℕ → Tree → Bool
term_lists name t = option_map_or (λ (n : Configured). list_any (entry_lists name) (distributed n.1)) (as_node t) false

-- a node takes part if its `distributed` has an entry, or some node's lists it
unfoldable pub takes_part : List Tree → Configured → Bool
takes_part ts n = not (length (distributed n.1) == 0) || list_any (term_lists n.0) ts

-- ---- where they differ

-- the configuration that a term has, where it is that of a node that takes part, or of the node of this name
unfoldable pub part_config : List Tree → Tree → Option Tree
part_config ts t = do
  n ← as_node t
  if takes_part ts n then Some n.1 else None

unfoldable pub node_config : List ℕ → Tree → Option Tree
node_config name t = do
  n ← as_node t
  if bytes_eq n.0 name then Some n.1 else None

-- the first of these that there is, with its place; the first term has this one
abbrev pub first_config : (Tree → Option Tree) → ℕ → List Tree → Option (ℕ × Tree)
first_config config place [] = None
first_config config place (t ∷ ts) = option_or (option_map (λ c. (place, c)) (config t)) (first_config config (place + 1) ts)

-- the parameter in which two configurations differ
abbrev pub wait : Tree → SyncWait
wait config = wait_in (value_under (codes "sync_nodes_timeout") (kernel_of config))

unfoldable pub differing_in : Tree → Tree → Differing
differing_in own first = if same_wait (wait own) (wait first) then Distributed else SyncTimeout

abbrev pub key_word : Differing → List ℕ
key_word Distributed = codes "distributed"
key_word SyncTimeout = codes "sync_nodes_timeout"

-- the node of this name and the first one that takes part, by the places of their terms, and the parameter in which they differ
unfoldable pub sides_of : List ℕ → List Tree → Option Sides
sides_of name ts = do
  own ← first_config (node_config name) 0 ts
  first ← first_config (part_config ts) 0 ts
  Some (record { own = own.0; first = first.0; parameter = differing_in own.1 first.1 })

abbrev pub sides_read : List ℕ → Result Trees TermFault → Option Sides
sides_read name (Ok ts) = sides_of name (list_of_trees ts)
sides_read name (Err f) = None

unfoldable pub sides_in : List ℕ → List ℕ → Option Sides
sides_in text name = sides_read name (terms_of text)
