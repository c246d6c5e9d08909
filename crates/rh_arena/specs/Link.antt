-- Links: numbers of 16 bits, of which the last one stands for none (ours).
use Rattle.std.specs.Prelude.{ℕ, ◌≡◌, ◌==◌, Option, Some, None, unwrap_or, if◌then◌else◌}
use Rattle.std.proofs.Common.{sym, ◌∙◌, inl, inr}
use Rattle.std.proofs.lemmas.Bool.{cond-true, cond-false}
use Rattle.std.proofs.lemmas.Bool.Decides.{eqb_tells}
use Rattle.std.proofs.Math.Path.{ap}

-- what a number is a link to
abbrev pub link : ℕ → Option ℕ
link n = if n == 65535 then None else Some n

-- the number of a link
abbrev pub raw_of : Option ℕ → ℕ
raw_of o = unwrap_or o 65535

pub raw_of-link : (n : ℕ) → raw_of (link n) ≡ n
raw_of-link n = elim (eqb_tells n 65535) [
  | inl a ↦ ap raw_of (cond-true _ _ _ a.0) ∙ sym a.1
  | inr a ↦ ap raw_of (cond-false _ _ _ a.0)
]
