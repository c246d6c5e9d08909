-- Where terms begin that stand inside no other (ours).
use Rattle.std.specs.Prelude.{ℕ, ◌+◌, List, [], ◌∷◌, ◌++◌, if◌then◌else◌}
use Rattle.rh_findings.specs.declared.scan.Standing.{Standing}
use Rattle.rh_findings.specs.declared.scan.Standing.TheVariants.{Between}
use Rattle.rh_findings.specs.declared.starts.Start.{Start}
use Rattle.rh_findings.specs.Scan.{behind, begins_term, line_behind}

-- a start on this line, behind so many bytes, if a term begins with this byte
abbrev pub start_here : Standing → ℕ → ℕ → ℕ → List Start
start_here standing line at b = if begins_term standing b then record { line = line; at = at } ∷ [] else []

-- those of a text that is left
abbrev pub starts_from : Standing → ℕ → ℕ → List ℕ → List Start
starts_from standing line at [] = []
starts_from standing line at (b ∷ bytes) =
    start_here standing line at b ++ starts_from (behind standing b) (line_behind line b) (at + 1) bytes

-- all of them
abbrev pub term_starts : List ℕ → List Start
term_starts bytes = starts_from Between 1 0 bytes
