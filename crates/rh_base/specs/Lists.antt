-- The first that there is, and those of least weight (ours).
use Rattle.std.specs.Prelude.{ℕ, List, [], ◌∷◌, map, min, Option, Some, None, fold, ◌==◌}
use Rattle.std.specs.List.{filter}

-- the first list, or the second where the first is empty
abbrev pub or_else : {A : Type 0} → List A → List A → List A
or_else [] ys = ys
or_else (x ∷ xs) ys = x ∷ xs

-- what f gives for the first of the elements for which it gives anything
abbrev pub first_given : {A B : Type 0} → (A → List B) → List A → List B
first_given f [] = []
first_given f (x ∷ xs) = or_else (f x) (first_given f xs)

-- the least of some numbers, 0 where there is none
abbrev pub least : List ℕ → ℕ
least [] = 0
least (n ∷ ns) = fold min n ns

-- the elements with the least weight, in their order
abbrev pub lightest : {A : Type 0} → (A → ℕ) → List A → List A
lightest weight xs = filter (λ x. weight x == least (map weight xs)) xs

-- the first element, if there is one
abbrev pub head : {A : Type 0} → List A → Option A
head [] = None
head (x ∷ xs) = Some x
