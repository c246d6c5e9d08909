-- A list of edits, cut where the records end (ours).
use Rattle.std.specs.Prelude.{◌≡◌, ℕ, zero, suc, ◌≤◌, ◌-◌, List, [], ◌∷◌, length, take, drop}
use Rattle.rh_state.specs.declared.edit.Edit.{Edit}

-- the edits between two places
abbrev pub part : ℕ → ℕ → List Edit → List Edit
part start end edits = take (end - start) (drop start edits)

-- the records that end at these places, the first of which begins at a place
abbrev pub cut_at : ℕ → List ℕ → List Edit → List (List Edit)
cut_at start [] edits = []
cut_at start (end ∷ ends) edits = part start end edits ∷ cut_at end ends edits

-- the places don't fall, and the last is the end
abbrev pub AreEnds : ℕ → List ℕ → List Edit → Type 0
AreEnds start [] edits = start ≡ length edits
AreEnds start (end ∷ ends) edits = (start ≤ end) × AreEnds end ends edits

-- where a record begins
abbrev pub begin_at : ℕ → List ℕ → ℕ → ℕ
begin_at start ends zero = start
begin_at start [] (suc k) = start
begin_at start (end ∷ ends) (suc k) = begin_at end ends k
