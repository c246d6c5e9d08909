-- Two lists, pair by pair.
use Rattle.std.proofs.Common.{◌≡◌, ◌+◌, ℕ, suc, List, [], ◌∷◌, ◌++◌, length, drop, slice_get, Some, refl, sym, subst, arith}
use Rattle.std.specs.List.{AllZip}
use Rattle.rh_explore.proofs.PathsTo.{drop_first}

-- what follows of each pair follows of all
pub zip_more : {A B : Type 0} (R Q : A → B → Type 0) → ((x : A) (y : B) → R x y → Q x y) → (xs : List A) (ys : List B) → AllZip R xs ys → AllZip Q xs ys
zip_more R Q so [] [] all = tt
zip_more R Q so [] (y ∷ ys) all = absurd all
zip_more R Q so (x ∷ xs) [] all = absurd all
zip_more R Q so (x ∷ xs) (y ∷ ys) all = (so x y all.0, zip_more R Q so xs ys all.1)

-- one pair more
pub zip_push : {A B : Type 0} (R : A → B → Type 0) (xs : List A) (ys : List B) (x : A) (y : B) → AllZip R xs ys → R x y → AllZip R (xs ++ x ∷ []) (ys ++ y ∷ [])
zip_push R [] [] x y all one = (one, tt)
zip_push R [] (b ∷ ys) x y all one = absurd all
zip_push R (a ∷ xs) [] x y all one = absurd all
zip_push R (a ∷ xs) (b ∷ ys) x y all one = (all.0, zip_push R xs ys x y all.1 one)

-- there are as many of the one as of the other
pub zip_long : {A B : Type 0} (R : A → B → Type 0) (xs : List A) (ys : List B) → AllZip R xs ys → length xs ≡ length ys
zip_long R [] [] all = refl
zip_long R [] (y ∷ ys) all = absurd all
zip_long R (x ∷ xs) [] all = absurd all
zip_long R (x ∷ xs) (y ∷ ys) all = omega (arith, zip_long R xs ys all.1)

-- two lists of pairs, one behind the other
pub zip_append : {A B : Type 0} (R : A → B → Type 0) (xs more : List A) (ys others : List B) → AllZip R xs ys → AllZip R more others
    → AllZip R (xs ++ more) (ys ++ others)
zip_append R [] more [] others all rest = rest
zip_append R [] more (y ∷ ys) others all rest = absurd all
zip_append R (x ∷ xs) more [] others all rest = absurd all
zip_append R (x ∷ xs) more (y ∷ ys) others all rest = (all.0, zip_append R xs more ys others all.1 rest)

-- the next pair, and those behind it
pub zip_first : {A B : Type 0} (R : A → B → Type 0) (xs : List A) (n : ℕ) (y : B) (ys : List B) → AllZip R (drop n xs) (y ∷ ys)
    → (x : A) × (slice_get xs n ≡ Some x) × R x y × AllZip R (drop (n + 1) xs) ys
zip_first {A} R xs n y ys all = by (drop n xs) refl all
  where
    by : (left : List A) → drop n xs ≡ left → AllZip R left (y ∷ ys) → (x : A) × (slice_get xs n ≡ Some x) × R x y × AllZip R (drop (n + 1) xs) ys
    by [] is all = absurd all
    by (x ∷ left) is all = let d = drop_first xs n x left (sym is) in (x, d.0, all.0, subst (λ (zs : List A). AllZip R zs ys) d.1 all.1)

-- what follows of each third of each pair, place by place
pub zip_through : {A B C : Type 0} (R : A → C → Type 0) (Q : B → C → Type 0) (xs : List A) (ys : List B) (zs : List C) → length xs ≡ length ys
    → ((j : ℕ) (x : A) (y : B) (z : C) → slice_get xs j ≡ Some x → slice_get ys j ≡ Some y → R x z → Q y z) → AllZip R xs zs → AllZip Q ys zs
zip_through R Q [] [] [] long so all = tt
zip_through R Q [] [] (z ∷ zs) long so all = absurd all
zip_through R Q [] (y ∷ ys) zs long so all = absurd (omega (arith, long))
zip_through R Q (x ∷ xs) [] zs long so all = absurd (omega (arith, long))
zip_through R Q (x ∷ xs) (y ∷ ys) [] long so all = absurd all
zip_through R Q (x ∷ xs) (y ∷ ys) (z ∷ zs) long so all =
    (so 0 x y z refl refl all.0, zip_through R Q xs ys zs (omega (arith, long)) (λ j a b d at there. so (suc j) a b d at there) all.1)
