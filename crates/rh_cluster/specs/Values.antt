-- What the parts of a term are, where they are in order.
use Rattle.std.specs.Prelude.{ℕ, List, [], ◌∷◌, ◌++◌, length, map, filter_map, flat_map, fold, position, codes}
use Rattle.std.specs.Prelude.{Bool, true, false, not, ◌&&◌, ◌||◌, ◌==◌, nat_le, if◌then◌else◌}
use Rattle.std.specs.Prelude.{Option, Some, None, is_some, unwrap_or}
use Rattle.std.specs.List.{list_any, list_all}
use Rattle.std.specs.Option.{option_map, option_or, option_to_list}
use Rattle.std.specs.Str.{bytes_eq}
use Rattle.rh_base.specs.Tree.{Tree}
use Rattle.rh_model.specs.declared.node.Node.{Node}
use Rattle.rh_model.specs.declared.node.App.{App}
use Rattle.rh_model.specs.declared.settings.Dep.{Dep}
use Rattle.rh_model.specs.declared.settings.Dep.TheVariants.{Listed, Platform}
use Rattle.rh_model.specs.declared.settings.Restart.{Restart}
use Rattle.rh_model.specs.declared.settings.SyncWait.{SyncWait}
use Rattle.rh_model.specs.declared.settings.SyncWait.TheVariants.{Unset}
use Rattle.rh_model.specs.declared.settings.Spread.{Spread}
use Rattle.rh_model.specs.declared.platforms.Platforms.{Platforms}
use Rattle.rh_model.specs.declared.limits.TheConstants.{MAX_PLATFORMS}
use Rattle.rh_cluster.specs.declared.shares.Share.{Share}
use Rattle.rh_cluster.specs.Shapes.{as_atom, as_list, as_pair, as_entry, as_node, as_time, atoms, ◌>>=◌}
use Rattle.rh_model.specs.Names.{is_among, NamesView}
use Rattle.rh_cluster.specs.Headers.{every_platform}
use Rattle.rh_model.specs.ClusterView.{NodeView, AppView, numbered, app_numbered}
use Rattle.rh_model.specs.TermSymbols.{TermSymbol, symbols_of}
use Rattle.rh_cluster.specs.Sections.{as_sync_wait, as_truth, as_restart, as_share, members, atom_is}

-- ---- entries

-- the elements of a list; another term has none
unfoldable pub elements : Tree → List Tree
elements t = unwrap_or (as_list t) []

-- the value of an entry of this key
unfoldable pub value_if : List ℕ → Tree → Option Tree
value_if key t = do
  e ← as_entry t
  if bytes_eq e.0 key then Some e.1 else None

-- the value of the first entry of this key
abbrev pub value_under : List ℕ → List Tree → Option Tree
value_under key [] = None
value_under key (t ∷ ts) = option_or (value_if key t) (value_under key ts)

-- the elements of that value
unfoldable pub elements_under : List ℕ → List Tree → List Tree
elements_under key ts = unwrap_or (option_map elements (value_under key ts)) []

-- ---- platform names (ours)

-- the value of a `platform` parameter
unfoldable pub platform_in_entry : Tree → List Tree
platform_in_entry t = option_to_list (value_if (codes "platform") t)

-- those in a section `rehearse`
unfoldable pub platform_in_section : Tree → List Tree
platform_in_section t = flat_map platform_in_entry (unwrap_or (option_map elements (value_if (codes "rehearse") t)) [])

-- those in a node term
unfoldable pub platform_in_term : Tree → List Tree
platform_in_term t = flat_map platform_in_section (unwrap_or (option_map (λ n. elements n.1) (as_node t)) [])

-- with this name, unless it is there
unfoldable pub with_name : List (List ℕ) → List ℕ → List (List ℕ)
with_name names name = if is_among names name then names else names ++ name ∷ []

-- the same, as long as there are fewer than `MAX_PLATFORMS`
unfoldable pub with_first_name : List (List ℕ) → List ℕ → List (List ℕ)
with_first_name names name = if nat_le MAX_PLATFORMS (length names) then names else with_name names name

-- With the names of one platform list: `first` are the first `MAX_PLATFORMS` different names, of whatever lists;
-- `known` are those of well-shaped lists, which hold atoms alone.
unfoldable pub with_platforms : Platforms → Tree → Platforms
with_platforms p v = record {
  first = fold with_first_name p.first (atoms (elements v));
  known =
      if list_all (λ t. is_some (as_atom t)) (elements v) then fold with_name p.known (atoms (elements v)) else p.known;
}

-- the platform names of a file; every node has the first two
unfoldable pub platforms_in : List Tree → Platforms
platforms_in ts =
    fold with_platforms (record { first = every_platform; known = every_platform }) (flat_map platform_in_term ts)

-- ---- names

-- the node of this name
unfoldable pub node_named : NamesView → Tree → Option Node
node_named names t = do
  name ← as_atom t
  option_map numbered (position (bytes_eq name) names.nodes)

-- the application of this name
unfoldable pub app_named : NamesView → Tree → Option App
app_named names t = do
  name ← as_atom t
  option_map app_numbered (position (bytes_eq name) names.apps)

-- ---- a node

-- the entries of its section `kernel`
abbrev pub kernel_of : Tree → List Tree
kernel_of config = elements_under (codes "kernel") (elements config)

-- the entries of its section `rehearse`
abbrev pub rehearse_of : Tree → List Tree
rehearse_of config = elements_under (codes "rehearse") (elements config)

-- how long the value of `sync_nodes_timeout` lets the node wait
abbrev pub wait_in : Option Tree → SyncWait
wait_in value = unwrap_or (value >>= as_sync_wait) Unset

-- an entry {App, RestartType} of `boot`
unfoldable pub boot_entry : NamesView → Tree → Option (App × Restart)
boot_entry names t = do
  e ← as_pair t
  app ← app_named names e.0
  restart ← as_restart e.1
  Some (app, restart)

-- does the value forbid it?
abbrev pub is_false : Option Bool → Bool
is_false (Some false) = true
is_false o = false

-- do the parts of an entry forbid the application of this name?
abbrev pub forbids_by : List ℕ → Option (Tree × Tree) → Bool
forbids_by name None = false
forbids_by name (Some e) = atom_is (bytes_eq name) (as_atom e.0) && is_false (as_truth e.1)

-- is this the entry {App, false} of that application?
unfoldable pub forbids : List ℕ → Tree → Bool
forbids name t = forbids_by name (as_pair t)

-- for each application, whether it is permitted: it is, unless it is forbidden
unfoldable pub permissions_in : NamesView → List Tree → List Bool
permissions_in names entries = map (λ name. not (list_any (forbids name) entries)) names.apps

-- for each platform name, whether the node has it
unfoldable pub platforms_of : NamesView → List Tree → List Bool
platforms_of names items = map (λ name. is_among every_platform name || is_among (atoms items) name) names.platforms

-- what a SysConfig says of its node
unfoldable pub node_view : NamesView → Tree → NodeView
node_view names config = record {
  mandatory = filter_map (node_named names) (elements_under (codes "sync_nodes_mandatory") (kernel_of config));
  optional = filter_map (node_named names) (elements_under (codes "sync_nodes_optional") (kernel_of config));
  sync_wait = wait_in (value_under (codes "sync_nodes_timeout") (kernel_of config));
  boot = filter_map (boot_entry names) (elements_under (codes "boot") (rehearse_of config));
  permissions = permissions_in names (elements_under (codes "permissions") (kernel_of config));
  platforms = platforms_of names (elements_under (codes "platform") (rehearse_of config));
}

-- ---- an application

-- an application of the cluster, or else a platform name
abbrev pub dep_by : Option ℕ → Option ℕ → Option Dep
dep_by (Some a) p = Some (Listed (app_numbered a))
dep_by None (Some p) = Some (Platform p)
dep_by None None = None

-- what this name stands for in `applications`
unfoldable pub dep_named : NamesView → Tree → Option Dep
dep_named names t = do
  name ← as_atom t
  dep_by (position (bytes_eq name) names.apps) (position (bytes_eq name) names.platforms)

-- the module and the argument of {Module, StartArg}
abbrev pub start_in : Option Tree → Option (List ℕ × Tree)
start_in value = value >>= as_entry

-- the argument in prefix notation
abbrev pub start_view : Option (List ℕ × Tree) → Option (List ℕ × List TermSymbol)
start_view o = option_map (λ (s : List ℕ × Tree). (s.0, symbols_of s.1)) o

-- is the value a list?
abbrev pub is_list_there : Option Tree → Bool
is_list_there value = is_some (value >>= as_list)

-- ---- `distributed`

-- the milliseconds of the value; without it, or for another term, 0
abbrev pub time_or_zero : Option Tree → ℕ
time_or_zero value = unwrap_or (value >>= as_time) 0

-- the nodes of a group
unfoldable pub group_in : NamesView → Tree → List Node
group_in names t = filter_map (node_named names) (members t)

-- an entry of `distributed`
unfoldable pub share_of : NamesView → Tree → Option Share
share_of names t = do
  s ← as_share t
  app ← app_named names s.0
  Some (record {
    app = app;
    spread = record { timeout = time_or_zero s.1; groups = map (group_in names) (elements s.2) };
  })

-- the value of a configuration's `distributed`
abbrev pub distributed_in : Tree → Option Tree
distributed_in config = value_under (codes "distributed") (kernel_of config)

-- that of a term, if it is a node's
abbrev pub distributed_of : Tree → Option Tree
distributed_of t = as_node t >>= λ n. distributed_in n.1

-- a term's `distributed`, if it has an entry
abbrev pub filled : Tree → Option Tree
filled t = distributed_of t >>= λ value. if length (elements value) == 0 then None else Some value

-- the first one of these terms
abbrev pub first_filled : List Tree → Option Tree
first_filled [] = None
first_filled (t ∷ ts) = option_or (filled t) (first_filled ts)

-- the entries of a value of `distributed`
abbrev pub shares_under : NamesView → Option Tree → List Share
shares_under names value = filter_map (share_of names) (unwrap_or (option_map elements value) [])

-- the entries of a node's `distributed`
unfoldable pub shares_in : NamesView → Tree → List Share
shares_in names config = filter_map (share_of names) (elements_under (codes "distributed") (kernel_of config))

-- the entry of an application
abbrev pub spread_for : List Share → App → Option Spread
spread_for [] a = None
spread_for (s ∷ shares) a = if s.app.0 == a.0 then Some s.spread else spread_for shares a

-- the application of this name, as the nodes that take part in distribution know it
abbrev pub spread_named : NamesView → List Share → List ℕ → Option Spread
spread_named names shares name = option_map app_numbered (position (bytes_eq name) names.apps) >>= spread_for shares

-- what Keys say of their application
unfoldable pub app_view : NamesView → List Share → List ℕ → Tree → AppView
app_view names shares name keys = record {
  deps = filter_map (dep_named names) (elements_under (codes "applications") (elements keys));
  start_arg = start_view (start_in (value_under (codes "mod") (elements keys)));
  phases = is_list_there (value_under (codes "start_phases") (elements keys));
  spread = spread_named names shares name;
}
