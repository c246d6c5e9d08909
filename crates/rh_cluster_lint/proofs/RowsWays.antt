-- Worked rows: the way to a part, how it is shown, and what it takes.
use Rattle.std.proofs.Common.{◌≡◌, ◌++◌, ◌∷◌, [], ℕ, codes, refl}
use Rattle.std.specs.Fmt.{digits}
use Rattle.std.specs.Str.{chars, is_utf8, trim_start, trim_end}
use lib.Utf8.{encode}
use Rattle.rh_cluster_lint.specs.declared.blame.Step.{Step}
use Rattle.rh_cluster_lint.specs.Expected.{expected}
use Rattle.rh_cluster_lint.specs.Telling.{front, dots}
use Rattle.rh_cluster_lint.specs.Ways.{term_way, step_way, way}
use Rattle.rh_cluster_lint.specs.Words.{first_word, second_word}

-- 40 bytes of the first line
shown_row : (front (codes "{a, b}") ≡ codes "{a, b}") × (dots (codes "{a, b}") ≡ [])
    × (front (codes "{a," ++ 10 ∷ codes "b}") ≡ codes "{a,") × (dots (codes "{a," ++ 10 ∷ codes "b}") ≡ codes "..")
    × (front (codes "{sync_nodes_optional, [node1@host, node2@host]}") ≡ codes "{sync_nodes_optional, [node1@host, node2")
shown_row = (refl, refl, refl, refl, refl)

expected_row : (expected (codes "mod") ≡ codes "; it takes {Module, StartArg} or []") × (expected (codes "module") ≡ [])
expected_row = (refl, refl)

words_row : (first_word (codes "{ profile , 3 }") ≡ codes "profile") × (second_word (codes "{ profile , 3 }") ≡ codes "3") × (first_word (codes "{}") ≡ [])
unfolding chars is_utf8 trim_start trim_end encode
words_row = (refl, refl, refl)

abbrev step : ℕ → ℕ → ℕ → ℕ → Step
step from to depth number = record { part = record { line = 1; from = from; to = to; depth = depth }; number = number }

-- {node, a, [{k, [x, y]}, z]}: the term, its section, an element of that, and its second element
way_row : (way (codes "{node, a, [{k, [x, y]}, z]}.") (step 0 27 0 1 ∷ step 11 22 2 1 ∷ step 19 20 4 2 ∷ []) ≡ codes "node a, k, element 2")
    × (way (codes "{node, a, [{k, [x, y]}, z]}.") (step 0 27 0 1 ∷ step 24 25 2 2 ∷ []) ≡ codes "node a, element 2")
    × (way (codes "b.") (step 0 1 0 1 ∷ []) ≡ codes "term 1")
unfolding digits chars is_utf8 trim_start trim_end encode term_way step_way way
way_row = (refl, refl, refl)
