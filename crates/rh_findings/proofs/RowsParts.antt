-- Worked rows: where the parts of a depth stand.
use Rattle.std.proofs.Common.{◌≡◌, [], ◌∷◌, ◌++◌, codes, refl}
use Rattle.rh_findings.specs.Parts.{open_behind, ended_here, parts_at}

-- a parameter of a section of a node: it begins behind 21 bytes
parameter_row : parts_at 4 (codes "{node, a, [{kernel, [{sync_nodes_timeout, x}]}]}.") ≡ record { line = 1; from = 21; to = 44; depth = 4 } ∷ []
unfolding open_behind ended_here
parameter_row = refl

-- the section that has it
section_row : parts_at 2 (codes "{node, a, [{kernel, [{sync_nodes_timeout, x}]}]}.") ≡ record { line = 1; from = 11; to = 46; depth = 2 } ∷ []
unfolding open_behind ended_here
section_row = refl

-- the term, without its dot
term_row : parts_at 0 (codes " {a}  . b.") ≡ record { line = 1; from = 1; to = 4; depth = 0 } ∷ record { line = 1; from = 8; to = 9; depth = 0 } ∷ []
unfolding open_behind ended_here
term_row = refl

-- brackets between quotes and in comments count nothing, and a comment is no part
quoted_row : parts_at 1 (codes "{'}', % }" ++ (10 ∷ codes " b % c" ++ (10 ∷ codes "}.")))
    ≡ record { line = 1; from = 1; to = 4; depth = 1 } ∷ record { line = 2; from = 11; to = 12; depth = 1 } ∷ []
unfolding open_behind ended_here
quoted_row = refl

-- on the next line, and of a list beside it
lines_row : parts_at 2 (10 ∷ codes "[{a}, [b], c].")
    ≡ record { line = 2; from = 3; to = 4; depth = 2 } ∷ record { line = 2; from = 8; to = 9; depth = 2 } ∷ []
unfolding open_behind ended_here
lines_row = refl

-- one that never ends
endless_row : parts_at 0 (codes "{a") ≡ []
unfolding open_behind ended_here
endless_row = refl
