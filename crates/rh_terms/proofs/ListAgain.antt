-- A list's text is read the same whatever stands behind it.
use Rattle.std.proofs.Common.{◌≡◌, ◌<◌, ◌≤◌, ◌-◌, ℕ, List, [], ◌∷◌, ◌++◌, Bool, true, Ok, Err, length, take, refl, ap, subst, ◌∙◌, arith, inl, length-append}
use Rattle.std.specs.Prelude.{◌==◌}
use Rattle.std.specs.List.{list_all}
use Rattle.std.proofs.Math.Seq.{take-append_seam}
use Rattle.std.proofs.lemmas.Bool.{and_parts}
use Rattle.std.proofs.lemmas.Bool.Decides.{nat_tests}
use Rattle.rh_terms.specs.Bytes.{begins, is_digit, is_lower}
use Rattle.rh_terms.specs.Faults.{Read, under}
use Rattle.rh_base.specs.Tree.{Tree, Trees, list}
use Rattle.rh_terms.specs.Grammar.{term_at}
use Rattle.rh_terms.specs.Kept.{behind}
use Rattle.rh_terms.specs.Repeated.{Ends}
use Rattle.rh_terms.specs.Spelling.{Spells}
use Rattle.rh_terms.proofs.Enough.{term_length}
use Rattle.rh_terms.proofs.Spelled.{term_spelled}
use Rattle.rh_terms.proofs.Read.{list_term, inside_read}

-- bytes that begin with `[` begin with no byte of another kind
first_is : (p : ℕ → Bool) (s x : List ℕ) → begins p s ≡ true → begins (λ b. b == 91) (s ++ x) ≡ true → p 91 ≡ true
first_is p [] x h k = cc
first_is p (b ∷ s) x h k =
    let same : b ≡ 91 = grind (arith, nat_tests, k) in
    subst (λ (c : ℕ). p c ≡ true) same h

digits_first : (s : List ℕ) → 0 < length s → list_all is_digit s ≡ true → begins is_digit s ≡ true
digits_first [] some all = absurd (omega (arith, some))
digits_first (b ∷ s) some all = (and_parts (is_digit b) (list_all is_digit s) all).0

list_spelled : (room : ℕ) (t : Tree) (s : List ℕ) → Spells room t s → (x : List ℕ) → begins (λ b. b == 91) (s ++ x) ≡ true → (l : List ℕ)
    → term_at room (s ++ l) ≡ Ok (t, l)
list_spelled room t s (Spells.name r name first all) x k l = let no : is_lower 91 ≡ true = first_is is_lower name x first k in cc
list_spelled room t s (Spells.quoted_atom r q content h) x k l = cc
list_spelled room t s (Spells.text_of r q content h) x k l = cc
list_spelled room t s (Spells.integer r d some all fit) x k l =
    let no : is_digit 91 ≡ true = first_is is_digit d x (digits_first d some all) k in
    cc
list_spelled room t s (Spells.minus r d some all fit) x k l = cc
list_spelled room t s (Spells.list_of inner ts q h) x k l =
    list_term inner q l ∙ ap (λ (r : Read Trees). under list r) (inside_read inner ts q h 93 l (inl refl))
list_spelled room t s (Spells.tuple_of inner ts q h) x k l = cc

front_is : (bs text rest : List ℕ) → bs ≡ text ++ rest → take (length bs - length rest) bs ≡ text
front_is bs text rest e =
    let n : length (text ++ rest) - length rest ≡ length text = rw (length-append text rest) (omega arith) in
    ap (λ (l : List ℕ). take (length l - length rest) l) e ∙ ap (λ (k : ℕ). take k (text ++ rest)) n ∙ take-append_seam text rest

-- What was read as a list is read of its text, whatever stands behind it.
pub list_again : (room : ℕ) (bs : List ℕ) (t : Tree) (rest : List ℕ) → term_at room bs ≡ Ok (t, rest) → begins (λ b. b == 91) bs ≡ true
    → (l : List ℕ) → term_at room (take (length bs - length rest) bs ++ l) ≡ Ok (t, l)
list_again room bs t rest e first l =
    let s = term_spelled room bs t rest e in
    let k : begins (λ b. b == 91) (s.text ++ rest) ≡ true = subst (λ (x : List ℕ). begins (λ b. b == 91) x ≡ true) s.parts first in
    ap (λ (x : List ℕ). term_at room (x ++ l)) (front_is bs s.text rest s.parts) ∙ list_spelled room t s.text s.is rest k l

-- a term that is read to its end
ended : (r : Read Tree) (rest : List ℕ) → behind r ≡ Ok rest → (t : Tree) × (r ≡ Ok (t, rest))
ended (Ok x) rest e = let same : x.1 ≡ rest = cc in (x.0, ap (λ (l : List ℕ). Ok (x.0, l)) same)
ended (Err f) rest e = absurd cc

-- A list that was read to its end is read to the end of its text, whatever stands behind it.
pub ends_again : (room : ℕ) (bs rest : List ℕ) → behind (term_at room bs) ≡ Ok rest → begins (λ b. b == 91) bs ≡ true
    → Ends room (take (length bs - length rest) bs)
ends_again room bs rest e first l =
    let read = ended (term_at room bs) rest e in
    ap behind (list_again room bs read.0 rest read.1 first l)

-- and its text isn't longer than the bytes
pub end_within : (room : ℕ) (bs rest : List ℕ) → behind (term_at room bs) ≡ Ok rest → length rest ≤ length bs
end_within room bs rest e =
    let read = ended (term_at room bs) rest e in
    omega (arith, term_length room bs read.0 rest read.1)
