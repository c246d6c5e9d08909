-- What the standard library says of a read (ours).
use Rattle.std.specs.Prelude.{◌≡◌, ℕ, List, [], Option}
use Rattle.std.specs.Io.KnownBytes.{Consumes, IsAtEnd}

-- these bytes were the front of what was left, where that is known; they are none only at the end
abbrev pub GivesKnown : Option (List ℕ) → Option (List ℕ) → List ℕ → Type 0
GivesKnown before after bytes = Consumes before after bytes × (bytes ≡ [] → IsAtEnd after)
