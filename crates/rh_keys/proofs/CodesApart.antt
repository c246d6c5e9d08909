-- Lists of numbers with the same code are equal.
use Rattle.std.proofs.Common.{◌≡◌, ◌^◌, ◌++◌, ℕ, Bool, true, false, cond, nat_lt, List, [], ◌∷◌, length, refl, sym, ap, ◌∙◌, arith}
use Rattle.std.specs.Int.{w64, to_le_bytes, from_le_bytes}
use Rattle.std.proofs.lemmas.Bool.{ltb-true}
use Rattle.std.proofs.lemmas.Nat.{from_le_bytes-to_le_bytes_8}
use Rattle.rh_keys.proofs.KeyParts.{first_one, first_two}
use Rattle.rh_keys.specs.Codes.{number_code, code}

-- fronts that are as long are equal, and so is what stands behind them
front_same : (xs ys r t : List ℕ) → length xs ≡ length ys → xs ++ r ≡ ys ++ t → (xs ≡ ys) × (r ≡ t)
front_same [] [] r t l e = (refl, e)
front_same [] (y ∷ ys) r t l e = absurd (omega (arith, l))
front_same (x ∷ xs) [] r t l e = absurd (omega (arith, l))
front_same (x ∷ xs) (y ∷ ys) r t l e =
    let first = first_one x y (xs ++ r) (ys ++ t) e in
    let rest = front_same xs ys r t (omega (arith, l)) first.1 in
    ((λ i. first.0 i ∷ rest.0 i), rest.1)

-- ---- the three forms of a number
form : ℕ → Bool → Bool → List ℕ
form n small word = cond small (n ∷ []) (cond word (255 ∷ to_le_bytes w64 n) (256 ∷ n ∷ []))

is_small : (n m : ℕ) → nat_lt n 255 ≡ true → n ≡ m → nat_lt m 255 ≡ false → ⊥
is_small n m l e h = absurd (cc (l, h, ap (λ k. nat_lt k 255) e))

words_same : (x y : ℕ) → nat_lt x (2 ^ 64) ≡ true → nat_lt y (2 ^ 64) ≡ true → to_le_bytes w64 x ≡ to_le_bytes w64 y → x ≡ y
words_same x y fits_x fits_y e =
    sym (from_le_bytes-to_le_bytes_8 x (ltb-true x (2 ^ 64) fits_x)) ∙ ap (from_le_bytes w64) e ∙ from_le_bytes-to_le_bytes_8 y (ltb-true y (2 ^ 64) fits_y)

form_split : (x y : ℕ) (a b c d : Bool) → nat_lt x 255 ≡ a → nat_lt y 255 ≡ b → nat_lt x (2 ^ 64) ≡ c → nat_lt y (2 ^ 64) ≡ d
    → (r t : List ℕ) → form x a c ++ r ≡ form y b d ++ t → (x ≡ y) × (r ≡ t)
unfolding form
form_split x y true true c d l m p q r t e = first_one x y r t e
form_split x y true false c true l m p q r t e = absurd (is_small x 255 l (first_one x 255 r (to_le_bytes w64 y ++ t) e).0 refl)
form_split x y true false c false l m p q r t e = absurd (is_small x 256 l (first_one x 256 r (y ∷ t) e).0 refl)
form_split x y false true true d l m p q r t e = absurd (is_small y 255 m (sym (first_one 255 y (to_le_bytes w64 x ++ r) t e).0) refl)
form_split x y false true false d l m p q r t e = absurd (is_small y 256 m (sym (first_one 256 y (x ∷ r) t e).0) refl)
form_split x y false false true true l m p q r t e =
    let rest = (first_one 255 255 (to_le_bytes w64 x ++ r) (to_le_bytes w64 y ++ t) e).1 in
    let same = front_same (to_le_bytes w64 x) (to_le_bytes w64 y) r t refl rest in
    (words_same x y p q same.0, same.1)
form_split x y false false true false l m p q r t e = let h = (first_one 255 256 (to_le_bytes w64 x ++ r) (y ∷ t) e).0 in absurd (omega (arith, h))
form_split x y false false false true l m p q r t e = let h = (first_one 256 255 (x ∷ r) (to_le_bytes w64 y ++ t) e).0 in absurd (omega (arith, h))
form_split x y false false false false l m p q r t e = let parts = first_two 256 x 256 y r t e in (parts.1, parts.2)

number_split : (x y : ℕ) (r t : List ℕ) → number_code x ++ r ≡ number_code y ++ t → (x ≡ y) × (r ≡ t)
unfolding number_code form
number_split x y r t e = form_split x y (nat_lt x 255) (nat_lt y 255) (nat_lt x (2 ^ 64)) (nat_lt y (2 ^ 64)) refl refl refl refl r t e

something : (n : ℕ) (r : List ℕ) → [] ≡ number_code n ++ r → ⊥
unfolding number_code
something n r = by (nat_lt n 255) (nat_lt n (2 ^ 64))
  where
    by : (a b : Bool) → [] ≡ cond a (n ∷ []) (cond b (255 ∷ to_le_bytes w64 n) (256 ∷ n ∷ [])) ++ r → ⊥
    by true b e = cc
    by false true e = cc
    by false false e = cc

pub code_same : (xs ys : List ℕ) → code xs ≡ code ys → xs ≡ ys
code_same [] [] e = refl
code_same [] (y ∷ ys) e = absurd (something y (code ys) e)
code_same (x ∷ xs) [] e = absurd (something x (code xs) (sym e))
code_same (x ∷ xs) (y ∷ ys) e =
    let first = number_split x y (code xs) (code ys) e in
    let rest = code_same xs ys first.1 in
    λ i. first.0 i ∷ rest i
