-- Terms, and whole texts (Erlang Reference Manual, Data Types; file(3), consult/1; ours for what isn't read).
-- Bytes are written as numbers: 10 is LF, 34 `"`, 37 `%`, 39 `'`, 44 `,`, 45 `-`, 46 `.`, 91 `[`, 92 `\`, 93 `]`,
-- 123 `{`, 124 `|`, 125 `}`.
use Rattle.std.specs.Prelude.{◌≡◌, ℕ, zero, suc, ◌+◌, ◌-◌, List, [], ◌∷◌, length, take, drop, count_by}
use Rattle.std.specs.Prelude.{Bool, true, false, ◌&&◌, ◌||◌, ◌==◌, Result, Ok, Err, if◌then◌else◌}
use Rattle.std.specs.Str.{is_utf8}
use Rattle.rh_terms.specs.declared.fault.Fault.{Fault}
use Rattle.rh_terms.specs.declared.fault.Fault.TheVariants.{Syntax, Unsupported, TooDeep, IntRange}
use Rattle.rh_terms.specs.declared.fault.ReadError.{ReadError}
use Rattle.rh_terms.specs.declared.fault.ReadError.TheVariants as errors
use Rattle.rh_terms.specs.declared.fault.TermFault.{TermFault}
use Rattle.rh_terms.specs.declared.fault.TermFault.TheVariants as faults
use Rattle.rh_terms.specs.declared.nest.TheConstants.{MAX_DEPTH}
use Rattle.rh_terms.specs.Bytes.{is_lower, is_digit, is_end, begins, past_blank}
use Rattle.rh_terms.specs.Faults.{◌>>=◌, Read, under, stuck}
use Rattle.rh_terms.specs.Tokens.{name_at, quoted_atom_at, text_at, integer_at}
use Rattle.rh_base.specs.Tree.{Tree, Trees, list, tuple, none, more, trees_of, items_of}
use Rattle.rh_base.specs.declared.term.Terms.{Terms}

-- A term that is no list and no tuple, as its first byte tells (Reference Manual, Data Types).
unfoldable pub word_at : List ℕ → Read Tree
word_at [] = Err (Syntax 0)
word_at (b ∷ bs) =
    if is_lower b then name_at (b ∷ bs)
    else if b == 39 then quoted_atom_at bs
    else if b == 34 then text_at bs
    else if (b == 45) || is_digit b then integer_at (b ∷ bs)
    else Err (stuck (b ∷ bs))

-- A term, where `inside` reads what stands in a list or a tuple, up to its closing byte (Data Types, List and
-- Tuple).
unfoldable pub term_by : (ℕ → List ℕ → Read Trees) → List ℕ → Read Tree
term_by inside bs =
    if begins (λ b. b == 91) bs then under list (inside 93 (drop 1 bs))
    else if begins (λ b. b == 123) bs then under tuple (inside 125 (drop 1 bs))
    else word_at bs

-- Behind an element: a comma, and then another one comes, or the closing byte. The `|` of an improper list is left out
-- (ours).
unfoldable pub next_at : ℕ → List ℕ → Read Bool
next_at close bs =
    if begins (λ b. b == 44) bs then Ok (true, past_blank (drop 1 bs))
    else if begins (λ b. b == close) bs then Ok (false, drop 1 bs)
    else if (close == 93) && begins (λ b. b == 124) bs then Err (Unsupported (length bs))
    else Err (stuck bs)

-- One element or more, separated by commas, and the closing byte; at most n elements.
unfoldable pub some_terms : (List ℕ → Read Tree) → ℕ → ℕ → List ℕ → Read Trees
some_terms term close zero bs = Err (stuck bs)
some_terms term close (suc n) bs = do
  x ← term bs
  next ← next_at close (past_blank x.1)
  if next.0 then under (more x.0) (some_terms term close n next.1) else Ok (more x.0 none, next.1)

-- What stands in a list or a tuple: no element, or some; not more than there are bytes.
unfoldable pub terms_up_to : (List ℕ → Read Tree) → ℕ → List ℕ → Read Trees
terms_up_to term close bs =
    let rest = past_blank bs in
    if begins (λ b. b == close) rest then Ok (none, drop 1 rest) else some_terms term close (length rest) rest

-- The same, with room for so many lists and tuples inside each other (ours).
unfoldable pub inside : ℕ → ℕ → List ℕ → Read Trees
inside zero close bs = Err TooDeep
inside (suc room) close bs = terms_up_to (term_by (inside room)) close bs

-- a term, with such room
abbrev pub term_at : ℕ → List ℕ → Read Tree
term_at room bs = term_by (inside room) bs

-- What stands behind a dot, which white space, a comment or the end of the text must follow (kernel, file, consult/1).
unfoldable pub dot_at : List ℕ → Result (List ℕ) Fault
dot_at bs =
    if begins (λ b. b == 46) bs then
    (if (length bs == 1) || begins is_end (drop 1 bs) then Ok (drop 1 bs) else Err (stuck (drop 1 bs)))
    else Err (stuck bs)

-- Terms, each followed by a dot, up to the end of the text; at most n terms.
unfoldable pub dotted : ℕ → List ℕ → Result Trees Fault
dotted n [] = Ok none
dotted zero (b ∷ bs) = Err (stuck (b ∷ bs))
dotted (suc n) (b ∷ bs) = do
  x ← term_at MAX_DEPTH (b ∷ bs)
  rest ← dot_at (past_blank x.1)
  ts ← dotted n (past_blank rest)
  Ok (more x.0 ts)

-- The same, not more terms than there are bytes.
abbrev pub terms_from : List ℕ → Result Trees Fault
terms_from bs = dotted (length bs) bs

-- The line of the place from which on so many bytes are left: one more than the LF bytes before it (ours).
abbrev pub line_at : List ℕ → ℕ → ℕ
line_at bytes left = count_by (λ b. b == 10) (take (length bytes - left) bytes) + 1

-- a fault with its line
abbrev pub fault_in : List ℕ → Fault → TermFault
fault_in bytes (Syntax left) = faults.Syntax (line_at bytes left)
fault_in bytes (Unsupported left) = faults.Unsupported (line_at bytes left)
fault_in bytes TooDeep = faults.TooDeep
fault_in bytes IntRange = faults.IntRange

-- what was read of a text, its fault with the line
abbrev pub told : List ℕ → Result Trees Fault → Result Trees TermFault
told bytes (Ok ts) = Ok ts
told bytes (Err f) = Err (fault_in bytes f)

-- The terms of a text, or its first fault from left to right; a text that isn't UTF-8 has no other fault (kernel, file,
-- consult/1; the faults are ours).
unfoldable pub terms_of : List ℕ → Result Trees TermFault
terms_of bytes = if is_utf8 bytes then told bytes (terms_from (past_blank bytes)) else Err faults.NotUtf8

-- the fault that is answered for an error of the reader
abbrev pub fault_told : List ℕ → ReadError → TermFault
fault_told bytes errors.Memory = faults.OutOfMemory
fault_told bytes (errors.Fault f) = fault_in bytes f

-- a fault that was answered is the text's, unless memory ran out
abbrev pub FaultIs : TermFault → Result Trees TermFault → Type 0
FaultIs faults.OutOfMemory read = Unit {0}
FaultIs (faults.Syntax line) read = read ≡ Err (faults.Syntax line)
FaultIs (faults.Unsupported line) read = read ≡ Err (faults.Unsupported line)
FaultIs faults.NotUtf8 read = read ≡ Err faults.NotUtf8
FaultIs faults.TooDeep read = read ≡ Err faults.TooDeep
FaultIs faults.IntRange read = read ≡ Err faults.IntRange

-- what was answered is what the text holds, unless memory ran out
abbrev pub Tells : Result Terms TermFault → Result Trees TermFault → Type 0
Tells (Ok ts) read = read ≡ Ok (trees_of (items_of ts))
Tells (Err e) read = FaultIs e read
