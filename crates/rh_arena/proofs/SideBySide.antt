-- Words that are kept side by side: what holds of each kind of them.
use Rattle.std.proofs.Common.{◌≡◌, ◌<◌, ◌≤◌, ◌∷◌, true, false, inl, inr, ℕ, zero, suc, List, [], length, get_or, set, map, replicate, refl, sym, ap, ◌∙◌, arith}
use Rattle.std.proofs.lemmas.Bool.{cases_lt}
use Rattle.std.proofs.lemmas.List.{map-set, length-map, set_past, set-get_or}
use Rattle.std.proofs.Math.ListN.{get_or-map}
use Rattle.rh_arena.specs.declared.words.EntryWords.{EntryWords}
use Rattle.rh_arena.specs.declared.words.ListWords.{ListWords}

pub map-replicate : {A B : Type 0} (f : A → B) (n : ℕ) (a : A) → map f (replicate n a) ≡ replicate n (f a)
map-replicate f zero a = refl
map-replicate f (suc n) a = ap (λ xs. f a ∷ xs) (map-replicate f n a)

-- a place at which nothing was found
pub past_end : (n i : ℕ) → (i < n → false ≡ true) → n ≤ i
past_end n i h = elim (cases_lt i n) [
  | inl l ↦ absurd (let no : false ≡ true = h l in cc)
  | inr m ↦ m
]

-- words that aren't there are not written
pub map-past : {A B : Type 0} (f : A → B) (xs : List A) (i : ℕ) (v : B) → length xs ≤ i → map f xs ≡ set (map f xs) i v
map-past f xs i v le = sym (set_past (map f xs) i v (let is = length-map xs f in omega (arith, is, le)))

-- a word that is written as it was is as it was
pub map-set_own : {A B : Type 0} (f : A → B) (xs : List A) (i : ℕ) (x d : A) → f x ≡ f (get_or xs i d) → map f (set xs i x) ≡ map f xs
map-set_own f xs i x d e =
    map-set f xs i x ∙ ap (set (map f xs) i) (e ∙ sym (get_or-map f xs i d)) ∙ set-get_or (map f xs) i (f d)

-- what all words of equal kinds are
pub entries_from_words : (xs ys : List EntryWords) → map (λ e. e.prev) xs ≡ map (λ e. e.prev) ys → map (λ e. e.next) xs ≡ map (λ e. e.next) ys
    → map (λ e. e.owner) xs ≡ map (λ e. e.owner) ys → xs ≡ ys
entries_from_words [] [] p n o = refl
entries_from_words [] (y ∷ ys) p n o = absurd (cc p)
entries_from_words (x ∷ xs) [] p n o = absurd (cc p)
entries_from_words (x ∷ xs) (y ∷ ys) p n o =
    let p0 : x.prev ≡ y.prev = cc p in
    let n0 : x.next ≡ y.next = cc n in
    let o0 : x.owner ≡ y.owner = cc o in
    let p1 : map (λ e. e.prev) xs ≡ map (λ e. e.prev) ys = cc p in
    let n1 : map (λ e. e.next) xs ≡ map (λ e. e.next) ys = cc n in
    let o1 : map (λ e. e.owner) xs ≡ map (λ e. e.owner) ys = cc o in
    (λ k. record { prev = p0 k; next = n0 k; owner = o0 k } ∷ entries_from_words xs ys p1 n1 o1 k)

pub lists_from_words : (xs ys : List ListWords) → map (λ l. l.head) xs ≡ map (λ l. l.head) ys → map (λ l. l.tail) xs ≡ map (λ l. l.tail) ys
    → map (λ l. l.count) xs ≡ map (λ l. l.count) ys → xs ≡ ys
lists_from_words [] [] h t c = refl
lists_from_words [] (y ∷ ys) h t c = absurd (cc h)
lists_from_words (x ∷ xs) [] h t c = absurd (cc h)
lists_from_words (x ∷ xs) (y ∷ ys) h t c =
    let h0 : x.head ≡ y.head = cc h in
    let t0 : x.tail ≡ y.tail = cc t in
    let c0 : x.count ≡ y.count = cc c in
    let h1 : map (λ l. l.head) xs ≡ map (λ l. l.head) ys = cc h in
    let t1 : map (λ l. l.tail) xs ≡ map (λ l. l.tail) ys = cc t in
    let c1 : map (λ l. l.count) xs ≡ map (λ l. l.count) ys = cc c in
    (λ k. record { head = h0 k; tail = t0 k; count = c0 k } ∷ lists_from_words xs ys h1 t1 c1 k)
