-- The profile of a file: what its first term may say (ours).
use Rattle.std.specs.Prelude.{ℕ, List, [], ◌∷◌, Option, None, unwrap_or, is_some, drop, if◌then◌else◌}
use Rattle.rh_base.specs.Tree.{Tree}
use Rattle.rh_cluster.specs.Shapes.{as_profile}

-- the profile that the first term names
abbrev pub profile_named : List Tree → Option ℕ
profile_named [] = None
profile_named (t ∷ ts) = as_profile t

-- the profile of the terms of a file: the first one, unless they name another
unfoldable pub profile_of : List Tree → ℕ
profile_of ts = unwrap_or (profile_named ts) 1

-- the terms that say what the cluster is: all but the one that names the profile
unfoldable pub behind_profile : List Tree → List Tree
behind_profile ts = if is_some (profile_named ts) then drop 1 ts else ts
