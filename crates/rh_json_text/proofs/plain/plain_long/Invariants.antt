use Rattle.std.proofs.Common.{◌-◌, ◌≤◌, length}
use Rattle.rh_json_text.specs.Plain.{PlainBetween}
use Rattle.rh_json_text.proofs.plain.plain_long.Given as goal

abbrev pub invariant-looks : goal.invariant-looks
invariant-looks l = (l.at ≤ length l.text) × PlainBetween l.text 0 l.at

abbrev pub decreases-looks : goal.decreases-looks
decreases-looks l = length l.text - l.at
