-- What devices in memory give and take (ours).
use Rattle.std.specs.Prelude.{◌≡◌, ℕ, List, [], ◌++◌, Bool, false}

-- these bytes were the front of what was left; they are none only where none was left
abbrev pub GivesFront : List ℕ → List ℕ → List ℕ → Type 0
GivesFront before after bytes = (before ≡ bytes ++ after) × (bytes ≡ [] → after ≡ [])

-- a text that is whole was whole before, and grew by these bytes
abbrev pub Holds : Bool → Bool → List ℕ → List ℕ → List ℕ → Type 0
Holds lacked_before lacked_after before after bytes = lacked_after ≡ false → (lacked_before ≡ false) × (after ≡ before ++ bytes)
