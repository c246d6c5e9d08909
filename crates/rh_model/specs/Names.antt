-- The names of a file (ours).
use Rattle.std.specs.Prelude.{ℕ, List, Bool}
use Rattle.std.specs.List.{list_any}
use Rattle.std.specs.Str.{bytes_eq}

-- is the name one of these?
abbrev pub is_among : List (List ℕ) → List ℕ → Bool
is_among names name = list_any (bytes_eq name) names

-- the names of a file: of its nodes, of its applications, and the first `MAX_PLATFORMS` different ones of its platforms
pub record NamesView : Type 0 where
  pub nodes : List (List ℕ)
  pub apps : List (List ℕ)
  pub platforms : List (List ℕ)
