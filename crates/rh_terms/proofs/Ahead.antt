-- What is ahead in a list, a tuple or a text: the next term, and what comes behind it.
use Rattle.std.proofs.Common.{◌≡◌, ◌<◌, ◌≤◌, ◌-◌, ℕ, zero, suc, List, [], ◌∷◌, Bool, true, false, cond, Result}
use Rattle.std.proofs.Common.{Ok, Err, length, drop, refl, sym, ap, ◌∙◌, arith}
use Rattle.std.specs.Prelude.{◌==◌}
use Rattle.rh_terms.specs.declared.nest.TheConstants.{MAX_DEPTH}
use Rattle.rh_terms.specs.declared.fault.Fault.{Fault}
use Rattle.rh_terms.specs.declared.fault.Fault.TheVariants.{TooDeep}
use Rattle.rh_terms.specs.declared.fault.ReadError.{ReadError}
use Rattle.rh_terms.specs.declared.fault.ReadError.TheVariants as errors
use Rattle.rh_terms.specs.Bytes.{past, past_blank, begins, is_white}
use Rattle.rh_terms.specs.Faults.{◌>>=◌, Read, under, Fails, stuck}
use Rattle.rh_base.specs.Tree.{Tree, Trees, list, tuple, none, more}
use Rattle.rh_terms.specs.Grammar.{word_at, term_by, next_at, some_terms, terms_up_to, inside, term_at, dot_at, dotted, terms_from}
use Rattle.rh_terms.specs.Kept.{behind, elements_at}
use Rattle.rh_terms.proofs.Spelled.{bind_ok, ok_is}
use Rattle.rh_terms.proofs.Enough.{behind_term, behind_whole, some_enough, dotted_enough, no_term, term_length, next_length, dot_length, blank_length}

-- ---- faults

-- what was read, changed by g, fails as it does
pub fails_with : {A B : Type 0} (e : ReadError) (read : Result A Fault) (g : A → B) → Fails e read → Fails e (read >>= λ x. Ok (g x))
fails_with errors.Memory read g h = tt
fails_with (errors.Fault f) read g h = rw h refl

pub fails_without : {A B : Type 0} (e : ReadError) (read : Result A Fault) (g : A → B) → Fails e (read >>= λ x. Ok (g x)) → Fails e read
fails_without errors.Memory read g h = tt
fails_without (errors.Fault f) (Ok x) g h = absurd (cc h)
fails_without (errors.Fault f) (Err d) g h = cc h

-- ---- where a term begins

pub list_at : (room : ℕ) (bs : List ℕ) → begins (λ b. b == 91) bs ≡ true → term_at room bs ≡ under list (inside room 93 (drop 1 bs))
unfolding term_by
list_at room bs h = rw h refl

pub tuple_at : (room : ℕ) (bs : List ℕ) → begins (λ b. b == 91) bs ≡ false → begins (λ b. b == 123) bs ≡ true
    → term_at room bs ≡ under tuple (inside room 125 (drop 1 bs))
unfolding term_by
tuple_at room bs h k = rw (h, k) refl

-- a term that is no list and no tuple
pub word_term : (room : ℕ) (bs : List ℕ) → begins (λ b. b == 91) bs ≡ false → begins (λ b. b == 123) bs ≡ false → term_at room bs ≡ word_at bs
unfolding term_by
word_term room bs h k = rw (h, k) refl

-- ---- where a list or a tuple begins

pub too_deep : (room close : ℕ) (bs : List ℕ) → room ≡ 0 → inside room close bs ≡ Err TooDeep
unfolding inside
too_deep zero close bs e = refl
too_deep (suc room) close bs e = absurd (omega arith)

pub inside_none : (room close : ℕ) (bs : List ℕ) → 0 < room → begins (λ b. b == close) (past_blank bs) ≡ true
    → inside room close bs ≡ Ok (none, drop 1 (past_blank bs))
unfolding inside terms_up_to
inside_none zero close bs some test = absurd (omega arith)
inside_none (suc room) close bs some test = rw test refl

pub inside_some : (room close : ℕ) (bs : List ℕ) → 0 < room → begins (λ b. b == close) (past_blank bs) ≡ false
    → inside room close bs ≡ elements_at (room - 1) close (past_blank bs)
unfolding inside terms_up_to
inside_some zero close bs some test = absurd (omega arith)
inside_some (suc room) close bs some test =
    let inner : suc room - 1 ≡ room = omega arith in
    rw (test, inner) refl

-- behind white space and comments stands neither
past_true : (v : Bool) (bs : List ℕ) → past_blank (past false bs) ≡ past false bs → past_blank (past true bs) ≡ past true bs
    → past_blank (cond v (past false bs) (past true bs)) ≡ cond v (past false bs) (past true bs)
past_true true bs here there = here
past_true false bs here there = there

past_false : (v w : Bool) (b : ℕ) (bs : List ℕ) → (b == 37) ≡ v → is_white b ≡ w
    → past_blank (past false bs) ≡ past false bs → past_blank (past true bs) ≡ past true bs
    → past_blank (cond v (past true bs) (cond w (past false bs) (b ∷ bs))) ≡ cond v (past true bs) (cond w (past false bs) (b ∷ bs))
unfolding past
past_false true w b bs e k here there = there
past_false false true b bs e k here there = here
past_false false false b bs e k here there = rw (e, k) refl

pub past_twice : (in_comment : Bool) (bs : List ℕ) → past_blank (past in_comment bs) ≡ past in_comment bs
unfolding past
past_twice true [] = refl
past_twice false [] = refl
past_twice true (b ∷ bs) = past_true (b == 10) bs (past_twice false bs) (past_twice true bs)
past_twice false (b ∷ bs) = past_false (b == 37) (is_white b) b bs refl refl (past_twice false bs) (past_twice true bs)

-- so a list or a tuple may be read from there on
pub inside_past : (room close : ℕ) (bs : List ℕ) → inside room close (past_blank bs) ≡ inside room close bs
unfolding inside terms_up_to
inside_past zero close bs = refl
inside_past (suc room) close bs = rw (past_twice false bs) refl

-- ---- the next element

no_read : {A : Type 0} (f : Fault) (x : A) → ◌≡◌ {A = Result A Fault} (Err f) (Ok x) → ⊥
no_read f x e = cc e

abbrev after_next : ℕ → ℕ → ℕ → Tree → Bool × List ℕ → Read Trees
after_next room close n t y = cond y.0 (under (more t) (some_terms (term_at room) close n y.1)) (Ok (more t none, y.1))

first_one : (room close b : ℕ) (bs rest : List ℕ) (t : Tree) (next : Read Bool) → term_at room (b ∷ bs) ≡ Ok (t, rest)
    → next_at close (past_blank rest) ≡ next → elements_at room close (b ∷ bs) ≡ (next >>= after_next room close (length bs) t)
unfolding some_terms
first_one room close b bs rest t next e h =
    ap (λ (r : Read Tree). r >>= behind_term room close (length bs)) e ∙ ap (λ (r : Read Bool). r >>= after_next room close (length bs) t) h

-- behind it comes another one
pub goes_on : (room close : ℕ) (bs rest after : List ℕ) (t : Tree) → term_at room bs ≡ Ok (t, rest) → next_at close (past_blank rest) ≡ Ok (true, after)
    → elements_at room close bs ≡ under (more t) (elements_at room close after)
goes_on room close [] rest after t e next = absurd (no_read (stuck []) (t, rest) (sym (no_term room) ∙ e))
goes_on room close (b ∷ bs) rest after t e next =
    let left : length after ≤ length bs =
    omega (arith, term_length room (b ∷ bs) t rest e, next_length close (past_blank rest) true after next, blank_length rest) in
    first_one room close b bs rest t (Ok (true, after)) e next
    ∙ ap (λ (r : Read Trees). under (more t) r) (some_enough room close (length bs) (length after) after left (omega arith))

-- behind it comes the closing byte
pub closes : (room close : ℕ) (bs rest after : List ℕ) (t : Tree) → term_at room bs ≡ Ok (t, rest) → next_at close (past_blank rest) ≡ Ok (false, after)
    → elements_at room close bs ≡ Ok (more t none, after)
closes room close [] rest after t e next = absurd (no_read (stuck []) (t, rest) (sym (no_term room) ∙ e))
closes room close (b ∷ bs) rest after t e next = first_one room close b bs rest t (Ok (false, after)) e next

-- behind it comes something else
no_next : (room close : ℕ) (bs rest : List ℕ) (t : Tree) (f : Fault) → term_at room bs ≡ Ok (t, rest) → next_at close (past_blank rest) ≡ Err f
    → elements_at room close bs ≡ Err f
no_next room close [] rest t f e next = absurd (no_read (stuck []) (t, rest) (sym (no_term room) ∙ e))
no_next room close (b ∷ bs) rest t f e next = first_one room close b bs rest t (Err f) e next

same_fault : {A B : Type 0} (f g : Fault) → ◌≡◌ {A = Result A Fault} (Err f) (Err g) → ◌≡◌ {A = Result B Fault} (Err f) (Err g)
same_fault f g e = cc e

-- there is none
no_element : (room close : ℕ) (bs : List ℕ) (f : Fault) → term_at room bs ≡ Err f → elements_at room close bs ≡ Err f
unfolding some_terms
no_element room close [] f e = same_fault (stuck []) f (sym (no_term room) ∙ e)
no_element room close (b ∷ bs) f e = ap (λ (r : Read Tree). r >>= behind_term room close (length bs)) e

pub fails_next : (e : ReadError) (room close : ℕ) (bs rest : List ℕ) (t : Tree) → term_at room bs ≡ Ok (t, rest)
    → Fails e (next_at close (past_blank rest)) → Fails e (elements_at room close bs)
fails_next errors.Memory room close bs rest t read h = tt
fails_next (errors.Fault f) room close bs rest t read h = no_next room close bs rest t f read h

pub fails_term : (e : ReadError) (room close : ℕ) (bs : List ℕ) → Fails e (term_at room bs) → Fails e (elements_at room close bs)
fails_term errors.Memory room close bs h = tt
fails_term (errors.Fault f) room close bs h = no_element room close bs f h

pub next_shorter : (room close : ℕ) (bs rest after : List ℕ) (t : Tree) (more_come : Bool) → term_at room bs ≡ Ok (t, rest)
    → next_at close (past_blank rest) ≡ Ok (more_come, after) → length after < length bs
next_shorter room close bs rest after t more_come e next =
    omega (arith, term_length room bs t rest e, next_length close (past_blank rest) more_come after next, blank_length rest)

-- ---- the next term of a text

text_step : (b : ℕ) (bs rest after : List ℕ) (t : Tree) → term_at MAX_DEPTH (b ∷ bs) ≡ Ok (t, rest) → (dot : Result (List ℕ) Fault)
    → dot_at (past_blank rest) ≡ dot
    → terms_from (b ∷ bs) ≡ (dot >>= λ l. dotted (length bs) (past_blank l) >>= λ ts. Ok (more t ts))
unfolding dotted
text_step b bs rest after t e dot h =
    ap (λ (r : Read Tree). r >>= behind_whole (length bs)) e
    ∙ ap (λ (r : Result (List ℕ) Fault). r >>= λ l. dotted (length bs) (past_blank l) >>= λ ts. Ok (more t ts)) h

pub text_goes_on : (bs rest after : List ℕ) (t : Tree) → term_at MAX_DEPTH bs ≡ Ok (t, rest) → dot_at (past_blank rest) ≡ Ok after
    → terms_from bs ≡ (terms_from (past_blank after) >>= λ ts. Ok (more t ts))
text_goes_on [] rest after t e dot = absurd (no_read (stuck []) (t, rest) (sym (no_term MAX_DEPTH) ∙ e))
text_goes_on (b ∷ bs) rest after t e dot =
    let left : length (past_blank after) ≤ length bs =
    omega (arith, term_length MAX_DEPTH (b ∷ bs) t rest e, dot_length (past_blank rest) after dot, blank_length rest, blank_length after) in
    text_step b bs rest after t e (Ok after) dot
    ∙ ap (λ (r : Result Trees Fault). r >>= λ ts. Ok (more t ts))
    (dotted_enough (length bs) (length (past_blank after)) (past_blank after) left (omega arith))

no_text_term : (b : ℕ) (bs : List ℕ) (f : Fault) → term_at MAX_DEPTH (b ∷ bs) ≡ Err f → terms_from (b ∷ bs) ≡ Err f
unfolding dotted
no_text_term b bs f e = ap (λ (r : Read Tree). r >>= behind_whole (length bs)) e

pub text_fails_term : (e : ReadError) (bs : List ℕ) → 0 < length bs → Fails e (term_at MAX_DEPTH bs) → Fails e (terms_from bs)
text_fails_term errors.Memory bs some h = tt
text_fails_term (errors.Fault f) [] some h = absurd (omega arith)
text_fails_term (errors.Fault f) (b ∷ bs) some h = no_text_term b bs f h

pub text_fails_dot : (e : ReadError) (bs rest : List ℕ) (t : Tree) → term_at MAX_DEPTH bs ≡ Ok (t, rest) → Fails e (dot_at (past_blank rest))
    → Fails e (terms_from bs)
text_fails_dot errors.Memory bs rest t read h = tt
text_fails_dot (errors.Fault f) [] rest t read h = absurd (no_read (stuck []) (t, rest) (sym (no_term MAX_DEPTH) ∙ read))
text_fails_dot (errors.Fault f) (b ∷ bs) rest t read h = text_step b bs rest rest t read (Err f) h

-- ---- what stands behind

-- a term was read
pub behind_is : {A : Type 0} (read : Read A) (rest : List ℕ) → behind read ≡ Ok rest → (x : A) × (read ≡ Ok (x, rest))
behind_is {A} read rest e =
    let x = bind_ok read (λ (x : A × List ℕ). Ok (x.1)) rest e in
    (x.0.0, x.1 ∙ ap (λ (l : List ℕ). Ok (x.0.0, l)) (ok_is x.0.1 rest x.2))

pub behind_under : {A B : Type 0} (f : A → B) (read : Read A) → behind (under f read) ≡ behind read
behind_under f (Ok x) = refl
behind_under f (Err e) = refl

pub behind_goes_on : (room close : ℕ) (bs rest after : List ℕ) → behind (term_at room bs) ≡ Ok rest → next_at close (past_blank rest) ≡ Ok (true, after)
    → behind (elements_at room close after) ≡ behind (elements_at room close bs)
behind_goes_on room close bs rest after e next =
    let x = behind_is (term_at room bs) rest e in
    sym (ap (λ (r : Read Trees). behind r) (goes_on room close bs rest after x.0 x.1 next) ∙ behind_under (more x.0) (elements_at room close after))

pub behind_closes : (room close : ℕ) (bs rest after : List ℕ) → behind (term_at room bs) ≡ Ok rest → next_at close (past_blank rest) ≡ Ok (false, after)
    → behind (elements_at room close bs) ≡ Ok after
behind_closes room close bs rest after e next =
    let x = behind_is (term_at room bs) rest e in
    ap (λ (r : Read Trees). behind r) (closes room close bs rest after x.0 x.1 next)

pub behind_fails_term : (e : ReadError) (room close : ℕ) (bs : List ℕ) → Fails e (behind (term_at room bs)) → Fails e (behind (elements_at room close bs))
behind_fails_term e room close bs h =
    fails_with e (elements_at room close bs) (λ (x : Trees × List ℕ). x.1)
    (fails_term e room close bs (fails_without e (term_at room bs) (λ (x : Tree × List ℕ). x.1) h))

pub behind_fails_next : (e : ReadError) (room close : ℕ) (bs rest : List ℕ) → behind (term_at room bs) ≡ Ok rest
    → Fails e (next_at close (past_blank rest)) → Fails e (behind (elements_at room close bs))
behind_fails_next e room close bs rest read h =
    let x = behind_is (term_at room bs) rest read in
    fails_with e (elements_at room close bs) (λ (x : Trees × List ℕ). x.1) (fails_next e room close bs rest x.0 x.1 h)

pub behind_shorter : (room close : ℕ) (bs rest after : List ℕ) (more_come : Bool) → behind (term_at room bs) ≡ Ok rest
    → next_at close (past_blank rest) ≡ Ok (more_come, after) → length after < length bs
behind_shorter room close bs rest after more_come e next =
    let x = behind_is (term_at room bs) rest e in
    next_shorter room close bs rest after x.0 more_come x.1 next
