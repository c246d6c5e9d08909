-- What doesn't hold of a command, and the block that tells it (ours).
use Rattle.std.specs.Prelude.{ℕ, List, [], ◌∷◌, ◌++◌, Bool, true, not, ◌&&◌, ◌==◌, length, codes, if◌then◌else◌}
use Rattle.std.specs.List.{filter, flat_map, list_any}
use Rattle.std.specs.Fmt.{decimal}
use Rattle.std.specs.Str.{bytes_eq}
use Rattle.rh_verify.specs.Spaces.{lines_of, without_front, without_spaces, below}
use Rattle.rh_verify.specs.Expected.{Check, answers_in, wanted_among}

-- ---- what doesn't hold

-- the text is these lines and no other; where there are none, it may be any
abbrev pub is_answered : List (List ℕ) → List ℕ → Bool
is_answered [] text = true
is_answered (line ∷ lines) text = bytes_eq (flat_map (λ l. l ++ codes "\n") (line ∷ lines)) text

-- one of these lines is this one, spaces at the front aside
abbrev pub has_line : List (List ℕ) → List ℕ → Bool
has_line lines line = list_any (λ l. bytes_eq (without_front l) (without_front line)) lines

abbrev pub lacks : List (List ℕ) → List ℕ → Bool
lacks lines line = not (has_line lines line)

-- those of the wanted lines that a report lacks
abbrev pub missing : List ℕ → List (List ℕ) → List (List ℕ)
missing report wanted = filter (lacks (lines_of report)) wanted

-- all that is expected holds: of an answer, and of a report that lacks these lines
abbrev pub all_holds : List (List ℕ) → List ℕ → List (List ℕ) → Bool
all_holds wanted came lacking = is_answered wanted came && (length lacking == 0)

-- all that is expected of a command holds
abbrev pub holds : Check → Bool
holds x = all_holds (answers_in x.behind) x.came (missing x.report (wanted_among x.behind))

-- ---- how it is told

-- the first line of a block: the number of a line, and what stands there
abbrev pub head_line : ℕ → List ℕ → List ℕ
head_line k line = codes "line " ++ decimal k ++ codes ": " ++ line ++ codes "\n"

-- an answer that isn't what was wanted: all that was, and all that came
abbrev pub answer_part : List (List ℕ) → List ℕ → List ℕ
answer_part wanted came =
    if is_answered wanted came then []
    else flat_map (below (codes "wanted ")) wanted ++ flat_map (below (codes "came ")) (lines_of came)

-- what is told of a command of which something doesn't hold, by its line, the answer that was wanted and that came, and the wanted
-- lines that the report lacks
abbrev pub block_of : ℕ → List ℕ → List (List ℕ) → List ℕ → List (List ℕ) → List ℕ
block_of k line wanted came lacking =
    if all_holds wanted came lacking then []
    else head_line k (without_spaces line) ++ answer_part wanted came ++ flat_map (below (codes "wanted in the report ")) lacking

-- the block of a command
unfoldable pub block_text : Check → List ℕ
block_text x = block_of x.number x.line (answers_in x.behind) x.came (missing x.report (wanted_among x.behind))

-- what is told of an expectation to which there is no command
unfoldable pub stray_text : ℕ × List ℕ → List ℕ
stray_text at = head_line at.0 at.1 ++ codes "  no command stands before it\n"
