-- Applications that depend on themselves (app(4), applications).
use Rattle.std.specs.Prelude.{ℕ, zero, suc, Bool, false, ◌||◌, List, slice_get, unwrap_or}
use Rattle.std.specs.List.{list_any}
use Rattle.rh_model.specs.ClusterView.{ClusterView, app_count}
use Rattle.rh_model.specs.Needs.{needed_apps}
use Rattle.rh_model.specs.declared.node.App.{App}
use Rattle.rh_state.specs.Numbers.{same_app}

-- an application depends on another one: it needs it, or it needs one that depends on it, in so many steps at most
unfoldable pub depends_within : ℕ → ClusterView → App → App → Bool
depends_within zero c a b = false
depends_within (suc steps) c a b = list_any (λ (d : App). same_app d b || depends_within steps c d b) (needed_apps c a)

-- an application depends on itself. The shortest way back passes each application once at most, so it has no more steps than there
-- are applications.
unfoldable pub is_in_circle : ClusterView → App → Bool
is_in_circle c a = depends_within (app_count c) c a a

-- ---- how it is looked for: marks, one for each application, are on those that depend on one in so many steps
abbrev pub is_marked : List Bool → App → Bool
is_marked marks a = unwrap_or (slice_get marks a.0) false

-- an application needs another one, or one that is marked
unfoldable pub needs_marked : ClusterView → List Bool → App → App → Bool
needs_marked c marks b a = list_any (λ (d : App). same_app d b || is_marked marks d) (needed_apps c a)
