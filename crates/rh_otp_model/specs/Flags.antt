-- Which applications, of all (ours).
use Rattle.std.specs.Prelude.{List, Bool, false, unwrap_or, slice_get}
use Rattle.std.specs.List.{list_any}
use Rattle.rh_model.specs.declared.node.App.{App}

-- is the application's set?
abbrev pub flag : List Bool → App → Bool
flag flags a = unwrap_or (slice_get flags a.0) false

-- is any set?
abbrev pub has_any : List Bool → Bool
has_any flags = list_any (λ set. set) flags
