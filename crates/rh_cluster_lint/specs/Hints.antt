-- What may have been meant where a text can't be read (ours).
-- Bytes are written as numbers: 10 is LF, 13 CR, 32 a blank, 35 `#`, 45 `-`, 61 `=`, 123 `{`; 239 187 191 is a byte order mark in UTF-8,
-- 255 254 and 254 255 one in UTF-16 (RFC 3629, 6; RFC 2781, 3.2).
use Rattle.std.specs.Prelude.{ℕ, ◌-◌, List, [], ◌∷◌, codes, nat_eq, Bool, true, false, not, ◌&&◌, ◌||◌, ◌==◌, Option, Some, None, length, if◌then◌else◌}
use Rattle.std.specs.List.{before_first, list_all, list_any, starts_with}
use Rattle.rh_terms.specs.declared.fault.TermFault.TheVariants as terms
use Rattle.rh_cluster.specs.declared.fault.ClusterFault.{ClusterFault}
use Rattle.rh_cluster.specs.declared.fault.ClusterFault.TheVariants as fault
use Rattle.rh_cluster_lint.specs.Constructs.{byte_at, construct_in}

-- the text behind so many lines
abbrev pub skip_lines : ℕ → List ℕ → List ℕ
skip_lines k [] = []
skip_lines k (b ∷ bs) = if k == 0 then b ∷ bs else skip_lines (if b == 10 then k - 1 else k) bs

-- the line of this number, counted from 1
abbrev pub line_at : List ℕ → ℕ → List ℕ
line_at text k = before_first (λ b. b == 10) (skip_lines (k - 1) text)

-- it was meant as the line `===`: it has nothing but `=` and `-`, and blanks
abbrev pub is_mark_byte : ℕ → Bool
is_mark_byte b = (b == 61) || (b == 45) || (b == 32) || (b == 13)

abbrev pub is_mark : List ℕ → Bool
is_mark line = list_all is_mark_byte line && (list_any (λ b. b == 61) line || list_any (λ b. b == 45) line)

-- what is told of a line that can't be read
abbrev pub line_words : List ℕ → List ℕ
line_words line =
    if is_mark line then codes "; a line === with nothing else on it ends the cluster file"
    else if (byte_at line 0 == 35) && not (byte_at line 1 == 123) then codes "; a comment in the cluster file begins with %"
    else construct_in line

abbrev pub line_hint : List ℕ → Option ℕ → List ℕ
line_hint text None = []
line_hint text (Some k) = line_words (line_at text k)

abbrev pub is_not_utf8 : ClusterFault → Bool
is_not_utf8 (fault.Term terms.NotUtf8) = true
is_not_utf8 _ = false

-- what is told of a text by its first bytes
abbrev pub start_hint : List ℕ → List ℕ
start_hint text =
    if length text == 0 then codes "; the file is empty"
    else if starts_with nat_eq text (239 ∷ 187 ∷ 191 ∷ []) then codes "; the file begins with a byte order mark, which has to go"
    else if starts_with nat_eq text (255 ∷ 254 ∷ []) || starts_with nat_eq text (254 ∷ 255 ∷ []) then
    codes "; the file is in UTF-16: iconv -f UTF-16 -t UTF-8 makes it UTF-8"
    else []

-- what a person needs to know of a text that is refused with this fault on this line: what it begins with, else that it may be in
-- Latin-1, else what stands on the line
abbrev pub hint_words : List ℕ → ClusterFault → Option ℕ → List ℕ
hint_words text f line =
    if not (length (start_hint text) == 0) then start_hint text
    else if is_not_utf8 f then codes "; it may be in Latin-1: iconv -f LATIN1 -t UTF-8 makes it UTF-8"
    else line_hint text line
