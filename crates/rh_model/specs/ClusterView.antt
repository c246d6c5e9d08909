-- What callers see of a cluster, and the words of its readers.
use Rattle.std.specs.Prelude.{◌≡◌, ◌≢◌, ◌<◌, ◌≤◌, ℕ, List, [], length, position, slice_get, All, AllPairs}
use Rattle.std.specs.Prelude.{Bool, true, false, ◌==◌, ◌||◌, Option, Some, is_none, is_some, unwrap_or, IsSome}
use Rattle.std.specs.Option.{option_map, option_and_then}
use Rattle.std.specs.List.{list_any}
use Rattle.std.specs.Str.{bytes_eq}
use Rattle.rh_model.specs.declared.node.Node.{Node}
use Rattle.rh_model.specs.declared.node.App.{App}
use Rattle.rh_model.specs.declared.settings.Dep.{Dep}
use Rattle.rh_model.specs.declared.settings.Dep.TheVariants.{Listed, Platform}
use Rattle.rh_model.specs.declared.settings.Restart.{Restart}
use Rattle.rh_model.specs.declared.settings.SyncWait.{SyncWait}
use Rattle.rh_model.specs.declared.settings.SyncWait.TheVariants.{Unset}
use Rattle.rh_model.specs.declared.settings.Spread.{Spread}
use Rattle.rh_model.specs.TermSymbols.{TermSymbol}
use Rattle.rh_model.specs.declared.limits.TheConstants.{MAX_PLATFORMS}
use Rattle.rh_model.specs.Limits.{is_profile, node_limit, app_limit, timeout_limit, IsWithinLimit}

-- what a cluster file says of one node; permissions by application, platforms by platform name
pub record NodeView : Type 0 where
  pub mandatory : List Node
  pub optional : List Node
  pub sync_wait : SyncWait
  pub boot : List (App × Restart)
  pub permissions : List Bool
  pub platforms : List Bool

-- what it says of one application; the start argument beside its module, in prefix notation
pub record AppView : Type 0 where
  pub deps : List Dep
  pub start_arg : Option (List ℕ × List TermSymbol)
  pub phases : Bool
  pub spread : Option Spread

-- the parts of a cluster, nodes and applications in the order of their terms; its profile says by which rules it is
-- simulated, and how much it may hold
pub record ClusterView : Type 0 where
  pub profile : ℕ
  pub node_names : List (List ℕ)
  pub app_names : List (List ℕ)
  pub platform_names : List (List ℕ)
  pub nodes : List NodeView
  pub apps : List AppView

abbrev pub node_count : ClusterView → ℕ
node_count c = length c.node_names

abbrev pub app_count : ClusterView → ℕ
app_count c = length c.app_names

abbrev pub numbered : ℕ → Node
numbered n = record { 0 = n }

abbrev pub app_numbered : ℕ → App
app_numbered a = record { 0 = a }

-- the name of a node, or nothing for a number that no node has
abbrev pub name_of : ClusterView → Node → List ℕ
name_of c n = unwrap_or (slice_get c.node_names n.0) []

-- the node of this name
abbrev pub node_of : ClusterView → List ℕ → Option Node
node_of c name = option_map numbered (position (bytes_eq name) c.node_names)

-- the application of this name
abbrev pub app_of : ClusterView → List ℕ → Option App
app_of c name = option_map app_numbered (position (bytes_eq name) c.app_names)

-- the name of what an application depends on
abbrev pub dep_name : ClusterView → Dep → Option (List ℕ)
dep_name c (Listed a) = slice_get c.app_names a.0
dep_name c (Platform p) = slice_get c.platform_names p

-- the nodes that this one waits for at its start, and without which it ends
abbrev pub mandatory_of : ClusterView → Node → List Node
mandatory_of c n = unwrap_or (option_map (λ (v : NodeView). v.mandatory) (slice_get c.nodes n.0)) []

-- the nodes that this one waits for at its start
abbrev pub optional_of : ClusterView → Node → List Node
optional_of c n = unwrap_or (option_map (λ (v : NodeView). v.optional) (slice_get c.nodes n.0)) []

-- how long it waits
abbrev pub sync_wait_of : ClusterView → Node → SyncWait
sync_wait_of c n = unwrap_or (option_map (λ (v : NodeView). v.sync_wait) (slice_get c.nodes n.0)) Unset

-- what it starts, in order
abbrev pub boot_of : ClusterView → Node → List (App × Restart)
boot_of c n = unwrap_or (option_map (λ (v : NodeView). v.boot) (slice_get c.nodes n.0)) []

-- may the application run there, as configured?
abbrev pub is_permitted : ClusterView → Node → App → Bool
is_permitted c n a =
    unwrap_or (option_and_then (λ (v : NodeView). slice_get v.permissions a.0) (slice_get c.nodes n.0)) false

-- does the node have this platform name?
abbrev pub is_platform : ClusterView → Node → ℕ → Bool
is_platform c n p =
    unwrap_or (option_and_then (λ (v : NodeView). slice_get v.platforms p) (slice_get c.nodes n.0)) false

-- what the application must find started, in order
abbrev pub deps_of : ClusterView → App → List Dep
deps_of c a = unwrap_or (option_map (λ (v : AppView). v.deps) (slice_get c.apps a.0)) []

-- the module of its `mod` key, and the argument in prefix notation
abbrev pub start_arg_of : ClusterView → App → Option (List ℕ × List TermSymbol)
start_arg_of c a = option_and_then (λ (v : AppView). v.start_arg) (slice_get c.apps a.0)

-- are its start phases defined?
abbrev pub has_phases : ClusterView → App → Bool
has_phases c a = unwrap_or (option_map (λ (v : AppView). v.phases) (slice_get c.apps a.0)) false

-- where it may run, if it is distributed
abbrev pub spread_of : ClusterView → App → Option Spread
spread_of c a = option_and_then (λ (v : AppView). v.spread) (slice_get c.apps a.0)

-- is the node in the group?
abbrev pub is_in : Node → List Node → Bool
is_in n group = list_any (λ (m : Node). n.0 == m.0) group

-- the place, from 0, of the first group of the application's list that has the node
abbrev pub group_of : ClusterView → App → Node → Option ℕ
group_of c a n = option_and_then (λ (s : Spread). position (is_in n) s.groups) (spread_of c a)

-- may the application be started at the node? One that is distributed only where its list has the node.
abbrev pub is_listed_at : ClusterView → App → Node → Bool
is_listed_at c a n = is_none (spread_of c a) || is_some (group_of c a n)

-- The profile of a cluster is 1 or 2. Its lists fit together: there are parts for each name, as many tests as what they
-- are of, and each number is that of a node, of an application or of a platform name of the cluster. There is a node,
-- there are at most as many nodes and applications as the profile allows, and at most 256 platform names, and no two of
-- a kind have one name. What a node boots, it boots once, and may start; and each wait and each timeout of `distributed`
-- is within the limit.
pub record IsWithin (c : ClusterView) : Type 0 where
  pub profile : is_profile c.profile ≡ true
  pub some_node : 1 ≤ node_count c
  pub few_nodes : node_count c ≤ node_limit c.profile
  pub few_apps : app_count c ≤ app_limit c.profile
  pub few_platforms : length c.platform_names ≤ MAX_PLATFORMS
  pub node_names : AllPairs (λ (name later : List ℕ). name ≢ later) c.node_names
  pub app_names : AllPairs (λ (name later : List ℕ). name ≢ later) c.app_names
  pub platform_names : AllPairs (λ (name later : List ℕ). name ≢ later) c.platform_names
  pub nodes : length c.nodes ≡ node_count c
  pub apps : length c.apps ≡ app_count c
  pub mandatory : (n : Node) → All (λ (m : Node). m.0 < node_count c) (mandatory_of c n)
  pub optional : (n : Node) → All (λ (m : Node). m.0 < node_count c) (optional_of c n)
  pub sync_wait : (n : Node) → IsWithinLimit (sync_wait_of c n)
  pub boot : (n : Node) → All (λ (e : App × Restart). e.0.0 < app_count c) (boot_of c n)
  pub boot_once : (n : Node) → AllPairs (λ (e later : App × Restart). e.0.0 ≢ later.0.0) (boot_of c n)
  pub boot_listed : (n : Node) → All (λ (e : App × Restart). is_listed_at c e.0 n ≡ true) (boot_of c n)
  pub permissions : (n : ℕ) (v : NodeView) → slice_get c.nodes n ≡ Some v → length v.permissions ≡ app_count c
  pub platforms :
      (n : ℕ) (v : NodeView) → slice_get c.nodes n ≡ Some v → length v.platforms ≡ length c.platform_names
  pub deps : (a : App) → All (λ (d : Dep). IsSome (dep_name c d)) (deps_of c a)
  pub groups :
      (a : App) (s : Spread) → spread_of c a ≡ Some s
      → All (λ (g : List Node). All (λ (m : Node). m.0 < node_count c) g) s.groups
  pub timeouts : (a : App) (s : Spread) → spread_of c a ≡ Some s → s.timeout ≤ timeout_limit
