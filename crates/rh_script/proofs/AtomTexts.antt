-- The atoms that a text in UTF-8 spells are in UTF-8.
use Rattle.std.proofs.Common.{◌≡◌, ◌<◌, ℕ, List, [], ◌∷◌, ◌++◌, Bool, true, false, cond, Result, Ok, Err, refl, subst, append_assoc, append-nil, arith}
use Rattle.std.specs.Str.{IsUtf8, is_utf8}
use Rattle.std.proofs.lemmas.Str.{IsUtf8-from_is_utf8}
use Rattle.rh_base.specs.Tree.{Tree, Trees, atom, int, text, list, tuple, none, more}
use Rattle.rh_terms.specs.declared.nest.TheConstants.{MAX_DEPTH}
use Rattle.rh_terms.specs.declared.fault.TermFault.{TermFault}
use Rattle.rh_terms.specs.declared.fault.TermFault.TheVariants as faults
use Rattle.rh_terms.specs.declared.fault.Fault.{Fault}
use Rattle.rh_terms.specs.Bytes.{past_blank}
use Rattle.rh_terms.specs.Grammar.{terms_of, terms_from, told}
use Rattle.rh_terms.specs.Spelling.{IsBlank, Spells, IsInside, AreSeparated, AreDotted}
use Rattle.rh_terms.proofs.Cut.{cut_at, behind_ascii, quoted_text, white_ascii}
use Rattle.rh_terms.proofs.Whole.{text_spelled}

-- ---- round blanks

-- what stands before blanks and an ASCII byte, and what stands behind it
round_blank : (s a rest : List ℕ) (c : ℕ) → c < 128 → IsBlank a → IsUtf8 (s ++ (a ++ c ∷ rest)) → IsUtf8 s × IsUtf8 rest
round_blank s a rest c small IsBlank.nothing utf8 = cut_at s rest c small utf8
round_blank s a rest c small (IsBlank.white b bs white blank) utf8 =
    let parts = cut_at s (bs ++ c ∷ rest) b (white_ascii b white) utf8 in
    (parts.0, (round_blank [] bs rest c small blank parts.1).1)
round_blank s a rest c small (IsBlank.comment line bs in_line blank) utf8 =
    let parts = cut_at s ((line ++ 10 ∷ bs) ++ c ∷ rest) 37 (omega arith) utf8 in
    let behind : IsUtf8 (line ++ 10 ∷ (bs ++ c ∷ rest)) = rw append_assoc at parts.1 in
    (parts.0, (round_blank [] bs rest c small blank (cut_at line (bs ++ c ∷ rest) 10 (omega arith) behind).1).1)

-- what stands before blanks
before_blank : (s a : List ℕ) → IsBlank a → IsUtf8 (s ++ a) → IsUtf8 s
before_blank s a IsBlank.nothing utf8 = rw append-nil at utf8
before_blank s a (IsBlank.white b bs white blank) utf8 = (cut_at s bs b (white_ascii b white) utf8).0
before_blank s a (IsBlank.comment line bs in_line blank) utf8 = (cut_at s (line ++ 10 ∷ bs) 37 (omega arith) utf8).0

-- what stands behind blanks
behind_blank : (a s : List ℕ) → IsBlank a → IsUtf8 (a ++ s) → IsUtf8 s
behind_blank a s IsBlank.nothing utf8 = utf8
behind_blank a s (IsBlank.white b bs white blank) utf8 = behind_blank bs s blank (behind_ascii b (bs ++ s) (white_ascii b white) utf8)
behind_blank a s (IsBlank.comment line bs in_line blank) utf8 =
    let inside = behind_ascii 37 ((line ++ 10 ∷ bs) ++ s) (omega arith) utf8 in
    let whole : IsUtf8 (line ++ 10 ∷ (bs ++ s)) = rw append_assoc at inside in
    behind_blank bs s blank (cut_at line (bs ++ s) 10 (omega arith) whole).1

-- ---- terms

-- each atom of a term is in UTF-8
abbrev mutual
  pub HasTexts : Tree → Type 0
  HasTexts (atom s) = IsUtf8 s
  HasTexts (int n) = Unit {0}
  HasTexts (text s) = Unit {0}
  HasTexts (list ts) = HaveTexts ts
  HasTexts (tuple ts) = HaveTexts ts

  pub HaveTexts : Trees → Type 0
  HaveTexts none = Unit {0}
  HaveTexts (more t ts) = HasTexts t × HaveTexts ts

mutual
  term_texts : (room : ℕ) (t : Tree) (s : List ℕ) → Spells room t s → IsUtf8 s → HasTexts t
  term_texts room t s (Spells.name r name first all) utf8 = utf8
  term_texts room t s (Spells.quoted_atom r q content h) utf8 =
      quoted_text 39 [] q content h (cut_at q [] 39 (omega arith) (behind_ascii 39 (q ++ 39 ∷ []) (omega arith) utf8)).0
  term_texts room t s (Spells.text_of r q content h) utf8 = tt
  term_texts room t s (Spells.integer r d some all fit) utf8 = tt
  term_texts room t s (Spells.minus r d some all fit) utf8 = tt
  term_texts room t s (Spells.list_of inner ts q h) utf8 =
      inside_texts inner ts q h (cut_at q [] 93 (omega arith) (behind_ascii 91 (q ++ 93 ∷ []) (omega arith) utf8)).0
  term_texts room t s (Spells.tuple_of inner ts q h) utf8 =
      inside_texts inner ts q h (cut_at q [] 125 (omega arith) (behind_ascii 123 (q ++ 125 ∷ []) (omega arith) utf8)).0

  inside_texts : (room : ℕ) (ts : Trees) (s : List ℕ) → IsInside room ts s → IsUtf8 s → HaveTexts ts
  inside_texts room ts s (IsInside.nothing r a blank) utf8 = tt
  inside_texts room ts s (IsInside.some r us a q blank h) utf8 = separated_texts r us q h (behind_blank a q blank utf8)

  separated_texts : (room : ℕ) (ts : Trees) (s : List ℕ) → AreSeparated room ts s → IsUtf8 s → HaveTexts ts
  separated_texts room ts s (AreSeparated.last r t q b h blank) utf8 = (term_texts r t q h (before_blank q b blank utf8), tt)
  separated_texts room ts s (AreSeparated.comma r t us q b a rest h before behind others) utf8 =
      let parts = round_blank q b (a ++ rest) 44 (omega arith) before utf8 in
      (term_texts r t q h parts.0, separated_texts r us rest others (behind_blank a rest behind parts.1))

dotted_texts : (ts : Trees) (s : List ℕ) → AreDotted ts s → IsUtf8 s → HaveTexts ts
dotted_texts ts s (AreDotted.nothing a blank) utf8 = tt
dotted_texts ts s (AreDotted.last_comment a line blank in_line) utf8 = tt
dotted_texts ts s (AreDotted.term t us a q b r before h behind ends others) utf8 =
    let parts = round_blank q b r 46 (omega arith) behind (behind_blank a (q ++ (b ++ 46 ∷ r)) before utf8) in
    (term_texts MAX_DEPTH t q h parts.0, dotted_texts us r others parts.1)

-- ---- what is read

-- of what was read, the terms
abbrev ReadTexts : Result Trees TermFault → Type 0
ReadTexts (Ok ts) = HaveTexts ts
ReadTexts (Err f) = Unit {0}

told_texts : (bytes : List ℕ) (r : Result Trees Fault) → is_utf8 bytes ≡ true → terms_from (past_blank bytes) ≡ r → ReadTexts (told bytes r)
told_texts bytes (Ok ts) utf8 read = dotted_texts ts bytes (text_spelled bytes _ ts read) (IsUtf8-from_is_utf8 bytes utf8)
told_texts bytes (Err f) utf8 read = tt

pub texts_read : (bytes : List ℕ) (ts : Trees) → terms_of bytes ≡ Ok ts → HaveTexts ts
unfolding terms_of
texts_read bytes ts read = subst ReadTexts read (by (is_utf8 bytes) refl)
  where
    by : (b : Bool) → is_utf8 bytes ≡ b → ReadTexts (cond b (told bytes (terms_from (past_blank bytes))) (Err faults.NotUtf8))
    by true utf8 = told_texts bytes (terms_from (past_blank bytes)) utf8 refl
    by false utf8 = tt
