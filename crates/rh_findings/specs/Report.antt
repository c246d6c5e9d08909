-- The text that lists findings (ours).
use Rattle.std.specs.Prelude.{ℕ, List, [], ◌++◌, codes, length, Bool, true, false, not, ◌&&◌, ◌||◌, ◌==◌, Option, Some, None, filter}
use Rattle.std.specs.List.{flat_map}
use Rattle.std.specs.Fmt.{decimal}
use Rattle.rh_findings.specs.declared.finding.Kind.{Kind}
use Rattle.rh_findings.specs.declared.finding.Kind.TheVariants.{Error, Warning, Hint}
use Rattle.rh_findings.specs.declared.finding.Finding.{Finding}

abbrev pub kind_word : Kind → List ℕ
kind_word Error = codes "error"
kind_word Warning = codes "warning"
kind_word Hint = codes "hint"

-- the number of a line, where it is known
abbrev pub line_words : Option ℕ → List ℕ
line_words None = []
line_words (Some k) = decimal k ++ codes ": "

-- the way to a finding, where it is known
abbrev pub path_words : Option (List ℕ) → List ℕ
path_words None = []
path_words (Some path) = codes " (" ++ path ++ codes ")"

-- the line of a finding
unfoldable pub finding_line : Finding → List ℕ
finding_line f = line_words f.line ++ (kind_word f.kind ++ (codes " " ++ (f.text ++ (path_words f.path ++ codes "\n"))))

abbrev pub is_of : Kind → Kind → Bool
is_of Error Error = true
is_of Warning Warning = true
is_of Hint Hint = true
is_of _ _ = false

-- how many are of this kind
abbrev pub count : Kind → List Finding → ℕ
count kind found = length (filter (λ (f : Finding). is_of kind f.kind) found)

-- the last line
unfoldable pub last_line : List Finding → List ℕ
last_line found =
    decimal (count Error found)
    ++ (codes " errors, " ++ (decimal (count Warning found) ++ (codes " warnings, " ++ (decimal (count Hint found) ++ codes " hints\n"))))

-- the whole list
unfoldable pub report_text : List Finding → List ℕ
report_text found = flat_map finding_line found ++ last_line found

-- nothing was found that counts: no error and no warning, and no hint where hints count
abbrev pub is_clean : Bool → List Finding → Bool
is_clean strict found = (count Error found == 0) && (count Warning found == 0) && (not strict || (count Hint found == 0))
