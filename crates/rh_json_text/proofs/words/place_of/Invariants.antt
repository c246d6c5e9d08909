use Rattle.std.proofs.Common.{◌≡◌, ◌<◌, ◌≤◌, ◌==◌, ◌-◌, ℕ, length, get_or, false}
use Rattle.rh_json_text.proofs.words.place_of.Given as goal

abbrev pub invariant-bytes : goal.invariant-bytes
invariant-bytes l = record {
  within : l.place ≤ length l.text;
  before : (k : ℕ) → k < l.place → (get_or l.text k 0 == l.byte) ≡ false;
}

abbrev pub decreases-bytes : goal.decreases-bytes
decreases-bytes l = length l.text - l.place
