-- Which commands have a block, and how many.
use Rattle.std.proofs.Common.{◌≡◌, ℕ, List, [], ◌∷◌, ◌++◌, length, filter, Bool, true, false, not, cond, refl, arith}
use Rattle.std.specs.List.{flat_map}
use Rattle.rh_verify.specs.Expected.{Check}
use Rattle.rh_verify.specs.Blocks.{holds, block_text, stray_text}

-- a text of two parts is empty exactly if both are
pub both_empty : (xs ys : List ℕ) → xs ++ ys ≡ [] → (xs ≡ []) × (ys ≡ [])
both_empty [] ys h = (refl, h)
both_empty (x ∷ xs) ys h = absurd (cc h)

-- a command has a block exactly if something doesn't hold of it
pub held : (x : Check) → holds x ≡ true → block_text x ≡ []
unfolding block_text
held x is = rw is refl

told : (x : Check) → holds x ≡ false → block_text x ≡ [] → ⊥
unfolding block_text
told x is none = let shown = rw is at none in cc shown

stray_told : (at : ℕ × List ℕ) → stray_text at ≡ [] → ⊥
unfolding stray_text
stray_told at none = cc none

-- no block is told exactly if none differs
pub none_differs : (xs : List Check) → flat_map block_text xs ≡ [] → length (filter (λ x. not (holds x)) xs) ≡ 0
none_differs [] h = refl
none_differs (x ∷ xs) h =
    let parts = both_empty (block_text x) (flat_map block_text xs) h in
    by (holds x) refl parts.0 (none_differs xs parts.1)
  where
    by : (b : Bool) → holds x ≡ b → block_text x ≡ [] → length (filter (λ y. not (holds y)) xs) ≡ 0
        → length (cond (not b) (x ∷ filter (λ y. not (holds y)) xs) (filter (λ y. not (holds y)) xs)) ≡ 0
    by true is none rest = rest
    by false is none rest = absurd (told x is none)

pub none_told : (xs : List Check) → length (filter (λ x. not (holds x)) xs) ≡ 0 → flat_map block_text xs ≡ []
none_told [] h = refl
none_told (x ∷ xs) h = by (holds x) refl (λ none. none_told xs none) h
  where
    by : (b : Bool) → holds x ≡ b → (length (filter (λ y. not (holds y)) xs) ≡ 0 → flat_map block_text xs ≡ [])
        → length (cond (not b) (x ∷ filter (λ y. not (holds y)) xs) (filter (λ y. not (holds y)) xs)) ≡ 0
        → block_text x ++ flat_map block_text xs ≡ []
    by true is rest none = rw (held x is) (rest none)
    by false is rest none = absurd (omega (arith, none))

-- and the same of expectations to which there is no command
pub no_stray : (xs : List (ℕ × List ℕ)) → flat_map stray_text xs ≡ [] → length xs ≡ 0
no_stray [] h = refl
no_stray (x ∷ xs) h = absurd (stray_told x (both_empty (stray_text x) (flat_map stray_text xs) h).0)

pub stray_none : (xs : List (ℕ × List ℕ)) → length xs ≡ 0 → flat_map stray_text xs ≡ []
stray_none [] h = refl
stray_none (x ∷ xs) h = absurd (omega (arith, h))
