-- The way to a part (ours).
use Rattle.std.specs.Prelude.{ℕ, List, [], ◌∷◌, ◌++◌, codes, length, nat_lt, Bool, not, ◌&&◌, ◌==◌, flat_map, if◌then◌else◌}
use Rattle.std.specs.Fmt.{decimal}
use Rattle.rh_cluster_lint.specs.declared.blame.Step.{Step}
use Rattle.rh_cluster_lint.specs.Spans.{span}
use Rattle.rh_cluster_lint.specs.Words.{first_word, second_word, is_tuple}

-- the term's kind and name, as `node a@x`; one that is no tuple by its number
unfoldable pub term_way : List ℕ → Step → List ℕ
term_way text s =
    if is_tuple (span text s.part) then first_word (span text s.part) ++ (codes " " ++ second_word (span text s.part))
    else codes "term " ++ decimal s.number

-- a section, a key or a parameter has a name
abbrev pub is_named : List ℕ → Step → Bool
is_named text s = nat_lt s.part.depth 6 && is_tuple (span text s.part) && not (length (first_word (span text s.part)) == 0)

-- it by its name, another element by its number
unfoldable pub step_way : List ℕ → Step → List ℕ
step_way text s = if is_named text s then codes ", " ++ first_word (span text s.part) else codes ", element " ++ decimal s.number

-- from the term on
unfoldable pub way : List ℕ → List Step → List ℕ
way text [] = []
way text (s ∷ ss) = term_way text s ++ flat_map (step_way text) ss
