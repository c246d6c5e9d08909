-- Numbers without one of them.
use Rattle.std.proofs.Common.{◌≡◌, ◌≢◌, ◌⊎◌, ◌+◌, ◌↔◌, ℕ, suc, List, [], ◌∷◌, ◌++◌, length, refl, sym, ap, subst, ◌∙◌, inl, inr, cond, not, AllPairs, arith}
use Rattle.std.specs.List.{Contains}
use Rattle.std.proofs.lemmas.List.{length-append}
use Rattle.std.proofs.lemmas.Bool.Decides.{eqb_tells}
use Rattle.rh_arena.specs.Lists.{without}
use Rattle.rh_arena.proofs.Members.{IsIn, AreDifferent, cut_at, in_middle, in_from_contains, contains_from_in, different_from_pairs}

pub in_without : (i j : ℕ) (xs : List ℕ) → IsIn j xs → j ≢ i → IsIn j (without i xs)
in_without i j [] m other = absurd m
in_without i j (x ∷ xs) m other = elim (eqb_tells x i) [
  | inl a ↦ subst (λ b. IsIn j (cond (not b) (x ∷ without i xs) (without i xs))) (sym a.0) (elim m [
    | inl e ↦ absurd (other (e ∙ a.1))
    | inr n ↦ in_without i j xs n other
  ])
  | inr a ↦ subst (λ b. IsIn j (cond (not b) (x ∷ without i xs) (without i xs))) (sym a.0) (elim m [
    | inl e ↦ inl e
    | inr n ↦ inr (in_without i j xs n other)
  ])
]

pub without_in : (i j : ℕ) (xs : List ℕ) → IsIn j (without i xs) → IsIn j xs × (j ≢ i)
without_in i j [] m = absurd m
without_in i j (x ∷ xs) m = elim (eqb_tells x i) [
  | inl a ↦ (let k = without_in i j xs (subst (λ b. IsIn j (cond (not b) (x ∷ without i xs) (without i xs))) a.0 m) in (inr k.0, k.1))
  | inr a ↦ (let n : (j ≡ x) ⊎ IsIn j (without i xs) = subst (λ b. IsIn j (cond (not b) (x ∷ without i xs) (without i xs))) a.0 m in elim n [
    | inl e ↦ (inl e, λ q. a.1 (sym e ∙ q))
    | inr o ↦ (let k = without_in i j xs o in (inr k.0, k.1))
  ])
]

-- where it isn't there, nothing goes
pub without_absent : (i : ℕ) (xs : List ℕ) → ¬ (IsIn i xs) → without i xs ≡ xs
without_absent i [] n = refl
without_absent i (x ∷ xs) n = elim (eqb_tells x i) [
  | inl a ↦ absurd (n (inl (sym a.1)))
  | inr a ↦ ap (λ b. cond (not b) (x ∷ without i xs) (without i xs)) a.0 ∙ ap (λ ys. x ∷ ys) (without_absent i xs (λ m. n (inr m)))
]

pub without_cut : (i : ℕ) (ys zs : List ℕ) → AreDifferent (ys ++ i ∷ zs) → without i (ys ++ i ∷ zs) ≡ ys ++ zs
without_cut i [] zs d = elim (eqb_tells i i) [
  | inl a ↦ ap (λ b. cond (not b) (i ∷ without i zs) (without i zs)) a.0 ∙ without_absent i zs d.0
  | inr a ↦ absurd (a.1 refl)
]
without_cut i (y ∷ ys) zs d = elim (eqb_tells y i) [
  | inl a ↦ absurd (d.0 (subst (λ k. IsIn k (ys ++ i ∷ zs)) (sym a.1) (in_middle i ys zs)))
  | inr a ↦ ap (λ b. cond (not b) (y ∷ without i (ys ++ i ∷ zs)) (without i (ys ++ i ∷ zs))) a.0 ∙ ap (λ xs. y ∷ xs) (without_cut i ys zs d.1)
]

-- ---- the same over `Contains`
pub Contains-without : (i j : ℕ) (xs : List ℕ) → Contains (without i xs) j ↔ (Contains xs j × (j ≢ i))
Contains-without i j xs = (
  λ c. let k = without_in i j xs (in_from_contains j (without i xs) c) in (contains_from_in j xs k.0, k.1),
  λ k. contains_from_in j (without i xs) (in_without i j xs (in_from_contains j xs k.0) k.1),
)

-- one fewer
pub length-without : (i : ℕ) (xs : List ℕ) → AllPairs (λ a b. a ≢ b) xs → Contains xs i → length (without i xs) + 1 ≡ length xs
length-without i xs d c =
    let k = cut_at i xs (in_from_contains i xs c) in
    let is : without i xs ≡ k.front ++ k.back =
    ap (without i) k.is ∙ without_cut i k.front k.back (different_from_pairs (k.front ++ i ∷ k.back) (subst (λ ys. AllPairs (λ a b. a ≢ b) ys) k.is d)) in
    let old : length xs ≡ length k.front + suc (length k.back) = ap length k.is ∙ length-append k.front (i ∷ k.back) in
    let new : length (without i xs) ≡ length k.front + length k.back = ap length is ∙ length-append k.front k.back in
    omega (arith, old, new)
