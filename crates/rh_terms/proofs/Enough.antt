-- As many turns as bytes are enough: more of them change nothing.
use Rattle.std.proofs.Common.{◌≡◌, ◌<◌, ◌≤◌, ℕ, zero, suc, List, [], ◌∷◌, Bool, false, cond, Result, Ok, Err, length, refl, ap, arith, length-append}
use Rattle.rh_terms.specs.declared.nest.TheConstants.{MAX_DEPTH}
use Rattle.rh_terms.specs.declared.fault.Fault.{Fault}
use Rattle.rh_terms.specs.Bytes.{past_blank}
use Rattle.rh_terms.specs.Faults.{◌>>=◌, Read, under, stuck}
use Rattle.rh_base.specs.Tree.{Tree, Trees, none, more}
use Rattle.rh_terms.specs.Grammar.{word_at, term_by, next_at, some_terms, term_at, dot_at, dotted}
use Rattle.rh_terms.proofs.Spelled.{term_spelled}
use Rattle.rh_terms.proofs.Whole.{dot_is}
use Rattle.rh_terms.proofs.Read.{spelling_begins, some_byte}
use Rattle.rh_terms.proofs.Found.{Back, past_back, next_back}

pub back_length : (bs rest : List ℕ) → Back bs rest → length rest ≤ length bs
back_length bs rest h = rw h.1 (omega (arith, length-append h.0 rest))

pub blank_length : (bs : List ℕ) → length (past_blank bs) ≤ length bs
blank_length bs = back_length bs (past_blank bs) (past_back false bs)

-- a term has a byte at least
pub term_length : (room : ℕ) (bs : List ℕ) (t : Tree) (rest : List ℕ) → term_at room bs ≡ Ok (t, rest) → length rest < length bs
term_length room bs t rest e =
    let s = term_spelled room bs t rest e in
    let some = some_byte s.text (spelling_begins room t s.text s.is) in
    rw s.parts (omega (arith, length-append s.text rest))

pub next_length : (close : ℕ) (bs : List ℕ) (goes_on : Bool) (rest : List ℕ) → next_at close bs ≡ Ok (goes_on, rest) → length rest ≤ length bs
next_length close bs goes_on rest e = back_length bs rest (next_back close bs goes_on rest e)

pub dot_length : (bs rest : List ℕ) → dot_at bs ≡ Ok rest → length rest < length bs
dot_length bs rest e = rw (dot_is bs rest e).0 (omega arith)

pub no_term : (room : ℕ) → term_at room [] ≡ Err (stuck [])
unfolding term_by word_at
no_term room = refl

-- what stands behind a term of a list or a tuple, where so many turns are left
abbrev pub behind_term : ℕ → ℕ → ℕ → Tree × List ℕ → Read Trees
behind_term room close n x =
    next_at close (past_blank x.1) >>= λ next. cond next.0 (under (more x.0) (some_terms (term_at room) close n next.1)) (Ok (more x.0 none, next.1))

abbrev Same : ℕ → ℕ → ℕ → ℕ → List ℕ → Type 0
Same room close n m bs = some_terms (term_at room) close n bs ≡ some_terms (term_at room) close m bs

behind_enough : (room close n m : ℕ) (bs : List ℕ) → ((l : List ℕ) → length l < length bs → Same room close n m l) → (read : Read Tree)
    → term_at room bs ≡ read → (read >>= behind_term room close n) ≡ (read >>= behind_term room close m)
behind_enough room close n m bs same (Err f) e = refl
behind_enough room close n m bs same (Ok x) e = by_next (next_at close (past_blank x.1)) refl
  where
    by_next : (next : Read Bool) → next_at close (past_blank x.1) ≡ next
        → (next >>= λ y. cond y.0 (under (more x.0) (some_terms (term_at room) close n y.1)) (Ok (more x.0 none, y.1)))
        ≡ (next >>= λ y. cond y.0 (under (more x.0) (some_terms (term_at room) close m y.1)) (Ok (more x.0 none, y.1)))
    by_next (Err f) h = refl
    by_next (Ok y) h =
        let left : length y.1 < length bs = omega (arith, term_length room bs x.0 x.1 e, next_length close (past_blank x.1) y.0 y.1 h, blank_length x.1) in
        ap (λ (r : Read Trees). cond y.0 (under (more x.0) r) (Ok (more x.0 none, y.1))) (same y.1 left)

pub some_enough : (room close n m : ℕ) (bs : List ℕ) → length bs ≤ n → length bs ≤ m → Same room close n m bs
unfolding some_terms
some_enough room close zero zero bs h k = refl
some_enough room close zero (suc m) [] h k = rw (no_term room) refl
some_enough room close zero (suc m) (b ∷ bs) h k = absurd (omega arith)
some_enough room close (suc n) zero [] h k = rw (no_term room) refl
some_enough room close (suc n) zero (b ∷ bs) h k = absurd (omega arith)
some_enough room close (suc n) (suc m) bs h k =
    behind_enough room close n m bs (λ l less. some_enough room close n m l (omega (arith, less, h)) (omega (arith, less, k))) (term_at room bs) refl

-- the same for whole texts
abbrev pub behind_whole : ℕ → Tree × List ℕ → Result Trees Fault
behind_whole n x = dot_at (past_blank x.1) >>= λ rest. dotted n (past_blank rest) >>= λ ts. Ok (more x.0 ts)

whole_enough : (n m : ℕ) (bs : List ℕ) → ((l : List ℕ) → length l < length bs → dotted n l ≡ dotted m l) → (read : Read Tree)
    → term_at MAX_DEPTH bs ≡ read → (read >>= behind_whole n) ≡ (read >>= behind_whole m)
whole_enough n m bs same (Err f) e = refl
whole_enough n m bs same (Ok x) e = by_dot (dot_at (past_blank x.1)) refl
  where
    by_dot : (dot : Result (List ℕ) Fault) → dot_at (past_blank x.1) ≡ dot
        → (dot >>= λ rest. dotted n (past_blank rest) >>= λ ts. Ok (more x.0 ts)) ≡ (dot >>= λ rest. dotted m (past_blank rest) >>= λ ts. Ok (more x.0 ts))
    by_dot (Err f) h = refl
    by_dot (Ok rest) h =
        let left : length (past_blank rest) < length bs =
        omega (arith, term_length MAX_DEPTH bs x.0 x.1 e, dot_length (past_blank x.1) rest h, blank_length x.1, blank_length rest) in
        ap (λ (r : Result Trees Fault). r >>= λ ts. Ok (more x.0 ts)) (same (past_blank rest) left)

pub dotted_enough : (n m : ℕ) (bs : List ℕ) → length bs ≤ n → length bs ≤ m → dotted n bs ≡ dotted m bs
unfolding dotted
dotted_enough n m [] h k = refl
dotted_enough zero m (b ∷ bs) h k = absurd (omega arith)
dotted_enough (suc n) zero (b ∷ bs) h k = absurd (omega arith)
dotted_enough (suc n) (suc m) (b ∷ bs) h k =
    whole_enough n m (b ∷ bs) (λ l less. dotted_enough n m l (omega (arith, less, h)) (omega (arith, less, k))) (term_at MAX_DEPTH (b ∷ bs)) refl
