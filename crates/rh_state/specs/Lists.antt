-- Lists of applications, as a node has one of those that run and one of those that wait (ours).
use Rattle.std.specs.Prelude.{List, [], ◌∷◌, Bool, not, Option, None, if◌then◌else◌, slice_get}
use Rattle.std.specs.List.{filter, list_any}
use Rattle.rh_model.specs.declared.node.App.{App}
use Rattle.rh_state.specs.Numbers.{same_app}

abbrev pub has_app : List App → App → Bool
has_app apps a = list_any (same_app a) apps

-- the list with the application taken out; the others keep their order
abbrev pub without_app : List App → App → List App
without_app apps a = filter (λ b. not (same_app a b)) apps

-- the application that stands behind this one
abbrev pub next_app : List App → App → Option App
next_app [] a = None
next_app (b ∷ apps) a = if same_app a b then slice_get apps 0 else next_app apps a
