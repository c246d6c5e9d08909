-- Texts that can stand in a string as they are.
use Rattle.std.specs.Prelude.{◌≡◌, ℕ, ◌<◌, ◌≤◌, List, get_or, false}
use Rattle.rh_json_text.specs.Json.{is_escaped}

-- no byte from one place up to another is escaped
abbrev pub PlainBetween : List ℕ → ℕ → ℕ → Type 0
PlainBetween text from upto = (k : ℕ) → from ≤ k → k < upto → is_escaped (get_or text k 0) ≡ false
