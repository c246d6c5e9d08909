-- From what was read to what is answered.
use Rattle.std.proofs.Common.{◌≡◌, ℕ, List, length, true, false, Result, Ok, Err, refl, sym, ap, subst, arith, inl, inr, ◌∙◌}
use Rattle.std.specs.Prelude.{IsTrue, IfOk}
use Rattle.std.specs.Str.{is_utf8}
use Rattle.rh_terms.specs.declared.fault.Fault.{Fault}
use Rattle.rh_terms.specs.declared.fault.Fault.TheVariants.{Syntax, Unsupported, TooDeep, IntRange}
use Rattle.rh_terms.specs.declared.fault.ReadError.{ReadError}
use Rattle.rh_terms.specs.declared.fault.ReadError.TheVariants as errors
use Rattle.rh_terms.specs.declared.fault.TermFault.{TermFault}
use Rattle.rh_terms.specs.declared.fault.TermFault.TheVariants as faults
use Rattle.rh_base.specs.declared.term.Terms.{Terms}
use Rattle.rh_terms.specs.Constructs.{HasConstruct}
use Rattle.rh_terms.specs.Spelling.{AreDotted}
use Rattle.rh_terms.proofs.Read.{dotted_read}
use Rattle.rh_terms.proofs.Enough.{dotted_enough, blank_length}
use Rattle.rh_terms.proofs.FoundText.{unsupported_is_there}
use Rattle.rh_terms.specs.Bytes.{past_blank}
use Rattle.rh_terms.specs.Faults.{◌>>=◌, Fails}
use Rattle.rh_base.specs.Tree.{Trees, trees_of, items_of}
use Rattle.rh_terms.specs.Grammar.{dotted, terms_from, terms_of, told, fault_told, FaultIs, Tells}
use Rattle.rh_terms.specs.declared.keep.Next.TheVariants.{Each}
use Rattle.rh_terms.specs.Kept.{kept_trees, kept_from, kept_of}
use Rattle.rh_terms.proofs.Kept.{Rule}
use Rattle.rh_terms.proofs.Spelled.{chosen}
use Rattle.rh_terms.proofs.Whole.{text_spelled}

pub told_terms : (bytes : List ℕ) (ts : Trees) → is_utf8 bytes ≡ true → terms_from (past_blank bytes) ≡ Ok ts → terms_of bytes ≡ Ok ts
unfolding terms_of
told_terms bytes ts text read = rw (text, read) refl

pub told_no_text : (bytes : List ℕ) → is_utf8 bytes ≡ false → terms_of bytes ≡ Err faults.NotUtf8
unfolding terms_of
told_no_text bytes text = rw text refl

-- what was read of a text is what is kept of its terms
kept_is : {K : Type 0} (rule : Rule K) (k : K) (bytes : List ℕ) → is_utf8 bytes ≡ true
    → kept_of rule k (terms_of bytes) ≡ told bytes (kept_from rule k (past_blank bytes))
unfolding terms_of
kept_is {K} rule k bytes text = rw text (by_read (terms_from (past_blank bytes)))
  where
    by_read : (read : Result Trees Fault) → kept_of rule k (told bytes read) ≡ told bytes (read >>= λ ts. Ok (kept_trees rule (Each k) ts))
    by_read (Ok ts) = refl
    by_read (Err f) = refl

pub kept_told : {K : Type 0} (rule : Rule K) (k : K) (bytes : List ℕ) (ts : Trees) → is_utf8 bytes ≡ true
    → kept_from rule k (past_blank bytes) ≡ Ok ts → kept_of rule k (terms_of bytes) ≡ Ok ts
kept_told rule k bytes ts text read = kept_is rule k bytes text ∙ ap (told bytes) read

pub kept_no_text : {K : Type 0} (rule : Rule K) (k : K) (bytes : List ℕ) → is_utf8 bytes ≡ false → kept_of rule k (terms_of bytes) ≡ Err faults.NotUtf8
kept_no_text rule k bytes text = ap (kept_of rule k) (told_no_text bytes text)

fault_of : (bytes : List ℕ) (e : ReadError) (read : Result Trees Fault) → Fails e read → FaultIs (fault_told bytes e) (told bytes read)
fault_of bytes errors.Memory read h = tt
fault_of bytes (errors.Fault (Syntax left)) read h = ap (told bytes) h
fault_of bytes (errors.Fault (Unsupported left)) read h = ap (told bytes) h
fault_of bytes (errors.Fault TooDeep) read h = ap (told bytes) h
fault_of bytes (errors.Fault IntRange) read h = ap (told bytes) h

pub kept_fault : {K : Type 0} (rule : Rule K) (k : K) (bytes : List ℕ) (e : ReadError) → is_utf8 bytes ≡ true
    → Fails e (kept_from rule k (past_blank bytes)) → FaultIs (fault_told bytes e) (kept_of rule k (terms_of bytes))
kept_fault rule k bytes e text h =
    let P : Result Trees TermFault → Type 0 = λ r. FaultIs (fault_told bytes e) r in
    subst P (sym (kept_is rule k bytes text)) (fault_of bytes e (kept_from rule k (past_blank bytes)) h)

-- What a text in UTF-8 spells is what is told of it.
pub told_read : (bytes : List ℕ) (ts : Trees) → AreDotted ts bytes → IsTrue (is_utf8 bytes) → terms_of bytes ≡ Ok ts
told_read bytes ts h text =
    let front = past_blank bytes in
    let same : terms_from front ≡ dotted (length bytes) front = dotted_enough (length front) (length bytes) front (omega arith) (blank_length bytes) in
    told_terms bytes ts text (same ∙ dotted_read ts bytes h (length bytes) (omega arith))

-- ---- what is told, whichever it is

told_spelled : (bytes : List ℕ) (ts : Trees) → terms_of bytes ≡ Ok ts → AreDotted ts bytes
unfolding terms_of
told_spelled bytes ts e =
    elim (chosen (is_utf8 bytes) (told bytes (terms_from (past_blank bytes))) (Err faults.NotUtf8) (Ok ts) e) [
      | inl p ↦ text_spelled bytes (length (past_blank bytes)) ts (is_read (terms_from (past_blank bytes)) p.1)
      | inr p ↦ absurd (cc (p.1))
    ]
  where
    is_read : (read : Result Trees Fault) → told bytes read ≡ Ok ts → read ≡ Ok ts
    is_read (Ok us) h = cc h
    is_read (Err f) h = absurd (cc h)

pub tells_spelled : (bytes : List ℕ) (r : Result Terms TermFault) → Tells r (terms_of bytes) → IfOk r (λ ts. AreDotted (trees_of (items_of ts)) bytes)
tells_spelled bytes (Ok ts) h = told_spelled bytes (trees_of (items_of ts)) h
tells_spelled bytes (Err e) h = tt

pub tells_read : (bytes : List ℕ) (r : Result Terms TermFault) → Tells r (terms_of bytes) → (ts : Trees) → AreDotted ts bytes
    → IsTrue (is_utf8 bytes) → Tells r (Ok ts)
tells_read bytes r h ts spelled text =
    let P : Result Trees TermFault → Type 0 = λ read. Tells r read in
    subst P (told_read bytes ts spelled text) h

pub tells_unsupported : (bytes : List ℕ) (r : Result Terms TermFault) → Tells r (terms_of bytes) → (line : ℕ)
    → r ≡ Err (faults.Unsupported line) → HasConstruct line bytes
tells_unsupported bytes r h line e =
    let P : Result Terms TermFault → Type 0 = λ x. Tells x (terms_of bytes) in
    unsupported_is_there bytes line (subst P e h)
