-- A list of changes, cut where the records of the steps end (ours).
use Rattle.std.specs.Prelude.{◌≡◌, ℕ, zero, suc, ◌≤◌, ◌-◌, List, [], ◌∷◌, length, take, drop}

-- the changes between two places
abbrev pub part : {C : Type 0} → ℕ → ℕ → List C → List C
part start end changes = take (end - start) (drop start changes)

-- the records that end at these places, the first of which begins at a place
abbrev pub cut_at : {C : Type 0} → ℕ → List ℕ → List C → List (List C)
cut_at start [] changes = []
cut_at start (end ∷ ends) changes = part start end changes ∷ cut_at end ends changes

-- the places don't fall, and the last is the end
abbrev pub AreEnds : {C : Type 0} → ℕ → List ℕ → List C → Type 0
AreEnds start [] changes = start ≡ length changes
AreEnds start (end ∷ ends) changes = (start ≤ end) × AreEnds end ends changes

-- where a record begins
abbrev pub begin_at : ℕ → List ℕ → ℕ → ℕ
begin_at start ends zero = start
begin_at start [] (suc k) = start
begin_at start (end ∷ ends) (suc k) = begin_at end ends k
