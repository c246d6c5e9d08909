-- Texts in lines and words: where they end, and which lines of a kind begin a text.
use Rattle.std.proofs.Common.{◌≡◌, ◌≢◌, ◌<◌, ◌==◌, ℕ, zero, suc, Bool, true, false, cond, not, nat_eq, List, [], ◌∷◌, ◌++◌, length, map, get_or, codes}
use Rattle.std.proofs.Common.{refl, sym, ap, ◌∙◌, subst, arith, append_assoc}
use Rattle.std.specs.Prelude.{All}
use Rattle.std.specs.List.{list_all, flat_map}
use Rattle.std.proofs.lemmas.Bool.{and_parts}
use Rattle.rh_base.proofs.Truths.{both, same_refl}
use Rattle.rh_trace.proofs.Entries.{not_same}
use Rattle.rh_trace.proofs.Every.{Every}
use Rattle.rh_laws.proofs.Apart.{Apart}
use Rattle.rh_laws.proofs.LessStarted.{all_hold}

-- ---- equal lists have equal parts
pub head_same : {A : Type 0} (x y : A) (xs ys : List A) → x ∷ xs ≡ y ∷ ys → x ≡ y
head_same x y xs ys e = cc e

pub tail_same : {A : Type 0} (x y : A) (xs ys : List A) → x ∷ xs ≡ y ∷ ys → xs ≡ ys
tail_same x y xs ys e = cc e

-- ---- a byte that stands in no word
abbrev pub free : ℕ → List ℕ → Bool
free c bytes = list_all (λ (b : ℕ). not (b == c)) bytes

pub free_append : (c : ℕ) (xs ys : List ℕ) → free c xs ≡ true → free c ys ≡ true → free c (xs ++ ys) ≡ true
free_append c [] ys h k = k
free_append c (x ∷ xs) ys h k =
    let parts = and_parts (not (x == c)) (free c xs) h in
    all_hold (not (x == c)) (free c (xs ++ ys)) parts.0 (free_append c xs ys parts.1 k)

pub free_of : (c : ℕ) (bytes : List ℕ) → All (λ (b : ℕ). b ≢ c) bytes → free c bytes ≡ true
free_of c [] h = refl
free_of c (b ∷ bytes) h = all_hold (not (b == c)) (free c bytes) (ap not (not_same b c (h 0 b (omega arith)))) (free_of c bytes (λ k d l. h (suc k) d (omega arith)))

pub other_byte : (c b : ℕ) → not (b == c) ≡ true → c ≡ b → ⊥
other_byte c b h e =
    let same : nat_eq b c ≡ true = ap (nat_eq b) e ∙ same_refl b in
    both true refl (sym h ∙ ap not same)

-- the word before such a byte, and what is behind it
pub cut : (c : ℕ) (x y r t : List ℕ) → free c x ≡ true → free c y ≡ true → x ++ c ∷ r ≡ y ++ c ∷ t → (x ≡ y) × (r ≡ t)
cut c [] [] r t h k e = (refl, tail_same c c r t e)
cut c [] (b ∷ y) r t h k e =
    absurd (other_byte c b (and_parts (not (b == c)) (free c y) k).0 (head_same c b r (y ++ c ∷ t) e))
cut c (a ∷ x) [] r t h k e =
    absurd (other_byte c a (and_parts (not (a == c)) (free c x) h).0 (sym (head_same a c (x ++ c ∷ r) t e)))
cut c (a ∷ x) (b ∷ y) r t h k e =
    let rest = cut c x y r t (and_parts (not (a == c)) (free c x) h).1 (and_parts (not (b == c)) (free c y) k).1
    (tail_same a b (x ++ c ∷ r) (y ++ c ∷ t) e) in
    let first = head_same a b (x ++ c ∷ r) (y ++ c ∷ t) e in
    (λ i. first i ∷ rest.0 i, rest.1)

-- ---- lines
abbrev pub ended : List ℕ → List ℕ
ended line = line ++ codes "\n"

nothing : {P : Type 0} (y r : List ℕ) → [] ≡ ended y ++ r → P
nothing [] r e = absurd (cc e)
nothing (b ∷ y) r e = absurd (cc e)

pub same_lines : (xs ys : List (List ℕ)) → Every (λ (l : List ℕ). free 10 l ≡ true) xs → Every (λ (l : List ℕ). free 10 l ≡ true) ys
    → flat_map ended xs ≡ flat_map ended ys → xs ≡ ys
same_lines [] [] h k e = refl
same_lines [] (y ∷ ys) h k e = nothing y (flat_map ended ys) e
same_lines (x ∷ xs) [] h k e = nothing x (flat_map ended xs) (sym e)
same_lines (x ∷ xs) (y ∷ ys) h k e =
    let parts = cut 10 x y (flat_map ended xs) (flat_map ended ys) h.0 k.0
    (sym (append_assoc x (codes "\n") (flat_map ended xs)) ∙ e ∙ append_assoc y (codes "\n") (flat_map ended ys)) in
    let rest = same_lines xs ys h.1 k.1 parts.1 in
    λ i. parts.0 i ∷ rest i

pub each_line : {A : Type 0} (f : A → List ℕ) (xs : List A) → flat_map (λ (x : A). ended (f x)) xs ≡ flat_map ended (map f xs)
each_line f [] = refl
each_line f (x ∷ xs) = ap (λ rest. ended (f x) ++ rest) (each_line f xs)

-- what f gives of those that don't pass a test
abbrev pub unless : {A B : Type 0} → (A → Bool) → (A → B) → List A → List B
unless {A} p f xs = flat_map (λ (x : A). cond (p x) [] (f x ∷ [])) xs

pub unless_line : {A : Type 0} (p : A → Bool) (f : A → List ℕ) (xs : List A)
    → flat_map (λ (x : A). cond (p x) [] (ended (f x))) xs ≡ flat_map ended (unless p f xs)
unless_line p f [] = refl
unless_line {A} p f (x ∷ xs) = by (p x) (unless_line p f xs)
  where
    by : (b : Bool) → flat_map (λ (x : A). cond (p x) [] (ended (f x))) xs ≡ flat_map ended (unless p f xs)
        → cond b [] (ended (f x)) ++ flat_map (λ (x : A). cond (p x) [] (ended (f x))) xs ≡ flat_map ended (cond b [] (f x ∷ []) ++ unless p f xs)
    by true h = h
    by false h = ap (λ rest. ended (f x) ++ rest) h

-- ---- what holds of each line
pub every_append : {A : Type 0} (P : A → Type 0) (xs ys : List A) → Every P xs → Every P ys → Every P (xs ++ ys)
every_append P [] ys h k = k
every_append P (x ∷ xs) ys h k = (h.0, every_append P xs ys h.1 k)

pub every_map : {A B : Type 0} (Q : A → Type 0) (P : B → Type 0) (f : A → B) (xs : List A) → ((x : A) → Q x → P (f x)) → Every Q xs → Every P (map f xs)
every_map Q P f [] each h = tt
every_map Q P f (x ∷ xs) each h = (each x h.0, every_map Q P f xs each h.1)

pub every_unless : {A B : Type 0} (P : B → Type 0) (p : A → Bool) (f : A → B) (xs : List A) → Every P (map f xs) → Every P (unless p f xs)
every_unless P p f [] h = tt
every_unless {A} {B} P p f (x ∷ xs) h = by (p x) (every_unless P p f xs h.1)
  where
    by : (b : Bool) → Every P (unless p f xs) → Every P (cond b [] (f x ∷ []) ++ unless p f xs)
    by true rest = rest
    by false rest = (h.0, rest)

pub every_all : {A : Type 0} (P : A → Type 0) (xs : List A) → All P xs → Every P xs
every_all P [] h = tt
every_all P (x ∷ xs) h = (h 0 x (omega arith), every_all P xs (λ k d l. h (suc k) d (omega arith)))

pub every_weaker : {A : Type 0} (P Q : A → Type 0) (xs : List A) → ((x : A) → P x → Q x) → Every P xs → Every Q xs
every_weaker P Q [] each h = tt
every_weaker P Q (x ∷ xs) each h = (each x h.0, every_weaker P Q xs each h.1)

pub every_at : {A : Type 0} (P : A → Type 0) (xs : List A) (i : ℕ) (d : A) → Every P xs → i < length xs → P (get_or xs i d)
every_at P [] i d h l = absurd (omega arith)
every_at P (x ∷ xs) zero d h l = h.0
every_at P (x ∷ xs) (suc i) d h l = every_at P xs i d h.1 (omega arith)

-- ---- the lines of a kind, and what is behind them
abbrev pub mark_of : List ℕ → ℕ
mark_of line = get_or line 3 0

-- no line of that kind stands first
abbrev pub Opens : ℕ → List (List ℕ) → Type 0
Opens k [] = Unit {0}
Opens k (line ∷ lines) = mark_of line ≢ k

opened : (k : ℕ) (y : List ℕ) (rest r : List (List ℕ)) → mark_of y ≡ k → Opens k r → r ≡ y ∷ rest → ⊥
opened k y rest [] is o e = cc e
opened k y rest (z ∷ zs) is o e = o (ap mark_of (head_same z y zs rest e) ∙ is)

pub opens_append : (k : ℕ) (xs ys : List (List ℕ)) → Every (λ (l : List ℕ). mark_of l ≢ k) xs → Opens k ys → Opens k (xs ++ ys)
opens_append k [] ys h o = o
opens_append k (x ∷ xs) ys h o = h.0

pub split : (k : ℕ) (xs ys r t : List (List ℕ)) → Every (λ (l : List ℕ). mark_of l ≡ k) xs → Every (λ (l : List ℕ). mark_of l ≡ k) ys
    → Opens k r → Opens k t → xs ++ r ≡ ys ++ t → (xs ≡ ys) × (r ≡ t)
split k [] [] r t h g o u e = (refl, e)
split k [] (y ∷ ys) r t h g o u e = absurd (opened k y (ys ++ t) r g.0 o e)
split k (x ∷ xs) [] r t h g o u e = absurd (opened k x (xs ++ r) t h.0 u (sym e))
split k (x ∷ xs) (y ∷ ys) r t h g o u e =
    let rest = split k xs ys r t h.1 g.1 o u (tail_same x y (xs ++ r) (ys ++ t) e) in
    let first = head_same x y (xs ++ r) (ys ++ t) e in
    (λ i. first i ∷ rest.0 i, rest.1)

-- ---- what equal lines are of
pub same_elements : {A B : Type 0} (P : A → Type 0) (f g : A → B) (xs ys : List A) → ((x y : A) → P x → P y → f x ≡ g y → x ≡ y)
    → Every P xs → Every P ys → map f xs ≡ map g ys → xs ≡ ys
same_elements P f g [] [] one h k e = refl
same_elements P f g [] (y ∷ ys) one h k e = absurd (cc e)
same_elements P f g (x ∷ xs) [] one h k e = absurd (cc e)
same_elements P f g (x ∷ xs) (y ∷ ys) one h k e =
    let first = one x y h.0 k.0 (head_same (f x) (g y) (map f xs) (map g ys) e) in
    let rest = same_elements P f g xs ys one h.1 k.1 (tail_same (f x) (g y) (map f xs) (map g ys) e) in
    λ i. first i ∷ rest i

pub same_each : {A B : Type 0} (f g : A → B) (xs : List A) → map f xs ≡ map g xs → Every (λ (x : A). f x ≡ g x) xs
same_each f g [] e = tt
same_each f g (x ∷ xs) e = (head_same (f x) (g x) (map f xs) (map g xs) e, same_each f g xs (tail_same (f x) (g x) (map f xs) (map g xs) e))

-- where each line is another one, the lines tell which elements pass
pub same_tests : {A B : Type 0} (f : A → B) (p q : A → Bool) (xs : List A) → Apart (map f xs) → unless p f xs ≡ unless q f xs
    → Every (λ (x : A). p x ≡ q x) xs
same_tests f p q [] apart e = tt
same_tests {A} {B} f p q (x ∷ xs) apart e = by (p x) (q x) refl refl e (same_tests f p q xs apart.1)
  where
    by : (b d : Bool) → p x ≡ b → q x ≡ d → cond b [] (f x ∷ []) ++ unless p f xs ≡ cond d [] (f x ∷ []) ++ unless q f xs
        → (unless p f xs ≡ unless q f xs → Every (λ (y : A). p y ≡ q y) xs) → Every (λ (y : A). p y ≡ q y) (x ∷ xs)
    by true true pb qd e rest = (pb ∙ sym qd, rest e)
    by false false pb qd e rest = (pb ∙ sym qd, rest (tail_same (f x) (f x) (unless p f xs) (unless q f xs) e))
    by true false pb qd e rest =
        absurd ((subst (Every (λ (z : B). f x ≢ z)) e (every_unless (λ (z : B). f x ≢ z) p f xs apart.0)).0 refl)
    by false true pb qd e rest =
        absurd ((subst (Every (λ (z : B). f x ≢ z)) (sym e) (every_unless (λ (z : B). f x ≢ z) q f xs apart.0)).0 refl)

-- where the same elements pass, the lines tell what is said of the others
pub same_where : {A B : Type 0} (p : A → Bool) (f g : A → B) (xs : List A) → unless p f xs ≡ unless p g xs
    → Every (λ (x : A). p x ≡ false → f x ≡ g x) xs
same_where p f g [] e = tt
same_where {A} {B} p f g (x ∷ xs) e = by (p x) refl e (same_where p f g xs)
  where
    by : (b : Bool) → p x ≡ b → cond b [] (f x ∷ []) ++ unless p f xs ≡ cond b [] (g x ∷ []) ++ unless p g xs
        → (unless p f xs ≡ unless p g xs → Every (λ (y : A). p y ≡ false → f y ≡ g y) xs) → Every (λ (y : A). p y ≡ false → f y ≡ g y) (x ∷ xs)
    by true pb e rest = (λ h. both (p x) pb h, rest e)
    by false pb e rest = (
      λ h. head_same (f x) (g x) (unless p f xs) (unless p g xs) e,
      rest (tail_same (f x) (g x) (unless p f xs) (unless p g xs) e),
    )
