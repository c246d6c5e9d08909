-- The lines of JSON that list findings (ours; RFC 8259). 58 is a colon.
use Rattle.std.specs.Prelude.{ℕ, List, [], ◌++◌, ◌==◌, codes, drop, Option, Some, None}
use Rattle.std.specs.List.{flat_map, before_first, after_first}
use Rattle.std.specs.Fmt.{decimal}
use Rattle.rh_json_text.specs.Json.{json_string}
use Rattle.rh_findings.specs.declared.finding.Kind.{Kind}
use Rattle.rh_findings.specs.declared.finding.Kind.TheVariants.{Error, Warning, Hint}
use Rattle.rh_findings.specs.declared.finding.Finding.{Finding}
use Rattle.rh_findings.specs.Report.{kind_word, count}

-- the text of a finding is its code, a colon, a blank and its words
abbrev pub code_of : List ℕ → List ℕ
code_of text = before_first (λ b. b == 58) text

abbrev pub words_of : List ℕ → List ℕ
words_of text = drop 1 (after_first (λ b. b == 58) text)

-- the number of its line, where it is known
abbrev pub line_json : Option ℕ → List ℕ
line_json None = []
line_json (Some k) = codes "\"line\":" ++ decimal k ++ codes ","

-- the way to it, where it is known
abbrev pub path_json : Option (List ℕ) → List ℕ
path_json None = []
path_json (Some path) = codes ",\"path\":" ++ json_string path

-- its kind, and its code and its words
unfoldable pub kind_json : Kind → List ℕ
kind_json kind = codes "\"kind\":" ++ json_string (kind_word kind)

unfoldable pub text_json : List ℕ → List ℕ
text_json text = codes ",\"code\":" ++ json_string (code_of text) ++ codes ",\"words\":" ++ json_string (words_of text)

-- the line of a finding
unfoldable pub finding_json : Finding → List ℕ
finding_json f = codes "{" ++ line_json f.line ++ kind_json f.kind ++ text_json f.text ++ path_json f.path ++ codes "}\n"

-- the last line: how many there are of each kind
unfoldable pub last_json : List Finding → List ℕ
last_json found =
    codes "{\"errors\":" ++ decimal (count Error found) ++ codes ",\"warnings\":" ++ decimal (count Warning found) ++ codes ",\"hints\":"
    ++ decimal (count Hint found) ++ codes "}\n"

-- the whole list
unfoldable pub lint_json : List Finding → List ℕ
lint_json found = flat_map finding_json found ++ last_json found
