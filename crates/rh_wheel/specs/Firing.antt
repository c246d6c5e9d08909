-- Armed timers in the order in which they fire. An entry is a due time in milliseconds and a timer's number.
-- All of it is ours: the manual says when a timer is due, and nothing of the order of those that are due together.
use Rattle.std.specs.Prelude.{◌≢◌, ◌<◌, ◌==◌, ℕ, not, nat_le, if◌then◌else◌, Option, List, [], ◌∷◌, All, AllPairs, find, filter, fold, map}
use Rattle.std.specs.Option.{option_map}
use Rattle.std.specs.List.Sorted.{IsNonDecreasingBy}

-- the timers that are armed
abbrev pub timers_of : List (ℕ × ℕ) → List ℕ
timers_of entries = map (λ entry. entry.1) entries

-- the entries with one more, which stands behind the last one that isn't due later
abbrev pub behind : {A : Type 0} → ℕ × A → List (ℕ × A) → List (ℕ × A)
behind armed [] = armed ∷ []
behind armed (entry ∷ entries) =
    if nat_le entry.0 armed.0 then entry ∷ behind armed entries else armed ∷ (entry ∷ entries)

-- entries by due, where those that are due together keep their order
abbrev pub in_firing_order : List (ℕ × ℕ) → List (ℕ × ℕ)
in_firing_order entries = fold (λ order entry. behind entry order) [] entries

-- the entries without that of a timer
abbrev pub without : ℕ → List (ℕ × ℕ) → List (ℕ × ℕ)
without timer entries = filter (λ entry. not (entry.1 == timer)) entries

-- when a timer is due, if it is armed
abbrev pub due_in : ℕ → List (ℕ × ℕ) → Option ℕ
due_in timer entries = option_map (λ entry. entry.0) (find (λ entry. entry.1 == timer) entries)

-- the entries that are due at one time
abbrev pub due_at : ℕ → List (ℕ × ℕ) → List (ℕ × ℕ)
due_at due entries = filter (λ entry. entry.0 == due) entries

-- what holds at all times, of a number of timers and the entries of those that are armed
pub record IsFiringOrder (timers : ℕ) (entries : List (ℕ × ℕ)) : Type 0 where
  -- none is due later than one behind it
  pub by_due : IsNonDecreasingBy (λ entry. entry.0) entries
  -- no timer stands in two of them
  pub once : AllPairs (λ entry later. entry.1 ≢ later.1) entries
  -- each timer is one of those that there are
  pub numbered : All (λ entry. entry.1 < timers) entries
