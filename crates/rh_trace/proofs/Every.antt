-- What holds of each element of a list.
use Rattle.std.proofs.Common.{◌≡◌, Bool, true, false, cond, List, [], ◌∷◌, sym, ap, subst}
use Rattle.std.specs.List.{filter}
use Rattle.rh_base.proofs.Lists.{cases}

pub filter_no : {A : Type 0} (p : A → Bool) (x : A) (xs : List A) → p x ≡ false → filter p (x ∷ xs) ≡ filter p xs
filter_no p x xs h = ap (λ b. cond b (x ∷ filter p xs) (filter p xs)) h

pub filter_yes : {A : Type 0} (p : A → Bool) (x : A) (xs : List A) → p x ≡ true → filter p (x ∷ xs) ≡ x ∷ filter p xs
filter_yes p x xs h = ap (λ b. cond b (x ∷ filter p xs) (filter p xs)) h

abbrev pub Every : {A : Type 0} → (A → Type 0) → List A → Type 0
Every P [] = Unit {0}
Every P (x ∷ xs) = P x × Every P xs

pub every_filter : {A : Type 0} (P : A → Type 0) (q : A → Bool) (xs : List A) → Every P xs → Every P (filter q xs)
every_filter P q [] h = tt
every_filter P q (x ∷ xs) h =
    let rest = every_filter P q xs h.1 in
    elim (q x) as (λ b. Every P (cond b (x ∷ filter q xs) (filter q xs))) [ true ↦ (h.0, rest) | false ↦ rest ]

pub every_passes : {A : Type 0} (q : A → Bool) (xs : List A) → Every (λ x. q x ≡ true) (filter q xs)
every_passes q [] = tt
every_passes {A} q (x ∷ xs) =
    let rest = every_passes q xs in
    let P : List A → Type 0 = Every (λ y. q y ≡ true) in
    cases (q x)
    (λ t. along P (sym (filter_yes q x xs t)) (t, rest))
    (λ f. along P (sym (filter_no q x xs f)) rest)
  where
    along : {A : Type 0} (P : List A → Type 0) {xs ys : List A} → xs ≡ ys → P xs → P ys
    along P e h = subst P e h
