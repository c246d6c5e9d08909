-- What an application needs, sorted by kind (app(4), applications; ours for the order).
use Rattle.std.specs.Prelude.{List, slice_get, filter_map, map, Bool, true, false, Option, Some, None, unwrap_or}
use Rattle.std.specs.List.{list_all}
use Rattle.std.specs.Option.{option_map}
use Rattle.rh_model.specs.declared.node.Node.{Node}
use Rattle.rh_model.specs.declared.node.App.{App}
use Rattle.rh_model.specs.declared.settings.Dep.{Dep}
use Rattle.rh_model.specs.declared.settings.Dep.TheVariants.{Listed, Platform}
use Rattle.rh_model.specs.ClusterView.{ClusterView, NodeView, AppView, deps_of}

-- a platform name is at hand at a node that has it; what else is needed is looked for elsewhere
abbrev pub is_at_hand : List Bool → Dep → Bool
is_at_hand platforms (Listed a) = true
is_at_hand platforms (Platform p) = unwrap_or (slice_get platforms p) false

-- a node has all platform names among these
abbrev pub has_platforms : List Dep → NodeView → Bool
has_platforms deps v = list_all (is_at_hand v.platforms) deps

-- the application that is needed, if it is one
abbrev pub listed : Dep → Option App
listed (Listed a) = Some a
listed (Platform p) = None

-- the node has all platform names that the application needs
unfoldable pub is_home : ClusterView → App → Node → Bool
is_home c a n = unwrap_or (option_map (has_platforms (deps_of c a)) (slice_get c.nodes n.0)) false

-- the applications that it needs, in written order
unfoldable pub needed_apps : ClusterView → App → List App
needed_apps c a = filter_map listed (deps_of c a)

-- what a cluster keeps of that for an application
pub record NeedsView : Type 0 where
  pub homes : List Bool
  pub apps : List App

abbrev pub needs_of : List NodeView → AppView → NeedsView
needs_of nodes v = record { homes = map (has_platforms v.deps) nodes; apps = filter_map listed v.deps }

-- and for all of them, in order
abbrev pub needs_in : List NodeView → List AppView → List NeedsView
needs_in nodes apps = map (needs_of nodes) apps
