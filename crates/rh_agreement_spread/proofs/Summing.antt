-- Sums over the messages that are on their way.
use Rattle.std.proofs.Common.{◌≡◌, ◌+◌, ◌++◌, ℕ, List, [], ◌∷◌, length, sym, ap, inl, inr, arith}
use Rattle.std.specs.Prelude.{All}
use Rattle.std.proofs.lemmas.List.Elements.{All-head, All-tail}
use Rattle.rh_otp_model.specs.declared.output.Envelope.{Envelope}
use Rattle.rh_otp_orders.proofs.Taking.{Taken}

abbrev pub sum_of : (Envelope → ℕ) → List Envelope → ℕ
sum_of f [] = 0
sum_of f (e ∷ es) = f e + sum_of f es

pub sum_behind : (f : Envelope → ℕ) (xs ys : List Envelope) → sum_of f (xs ++ ys) ≡ sum_of f xs + sum_of f ys
sum_behind f [] ys = omega arith
sum_behind f (e ∷ xs) ys =
    let more : sum_of f (xs ++ ys) ≡ sum_of f xs + sum_of f ys = sum_behind f xs ys in
    omega (arith, more)

-- what arrives is counted no more
pub sum_taken : (f : Envelope → ℕ) (e : Envelope) (messages left : List Envelope) → Taken e messages left
    → sum_of f messages ≡ f e + sum_of f left
sum_taken f e [] left taken = absurd taken
sum_taken f e (m ∷ messages) left (inl here) = λ i. f (here.0 i) + sum_of f (sym here.1 i)
sum_taken f e (m ∷ messages) left (inr later) =
    let more : sum_of f messages ≡ f e + sum_of f later.1 = sum_taken f e messages later.1 later.3 in
    let rest : sum_of f left ≡ f m + sum_of f later.1 = ap (sum_of f) later.2 in
    omega (arith, more, rest)

-- where each counts for one
pub sum_of_ones : (f : Envelope → ℕ) (es : List Envelope) → All (λ (e : Envelope). f e ≡ 1) es → sum_of f es ≡ length es
sum_of_ones f [] all = omega arith
sum_of_ones f (e ∷ es) all =
    let here : f e ≡ 1 = All-head (λ (x : Envelope). f x ≡ 1) e es all in
    let more : sum_of f es ≡ length es = sum_of_ones f es (All-tail (λ (x : Envelope). f x ≡ 1) e es all) in
    omega (arith, here, more)

-- where none counts
pub sum_of_none : (f : Envelope → ℕ) (es : List Envelope) → All (λ (e : Envelope). f e ≡ 0) es → sum_of f es ≡ 0
sum_of_none f [] all = omega arith
sum_of_none f (e ∷ es) all =
    let here : f e ≡ 0 = All-head (λ (x : Envelope). f x ≡ 0) e es all in
    let more : sum_of f es ≡ 0 = sum_of_none f es (All-tail (λ (x : Envelope). f x ≡ 0) e es all) in
    omega (arith, here, more)
