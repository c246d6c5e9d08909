use Rattle.std.proofs.Common.{◌≡◌, ◌≤◌, ◌-◌, ◌++◌, length, take, drop}
use Rattle.std.specs.List.{concat}
use Rattle.rh_script.specs.Lines.{raw_lines}
use Rattle.rh_json.specs.Base.{base_text, front_left}
use Rattle.rh_json.proofs.base.base_text.Given as goal

abbrev pub invariant-lines : goal.invariant-lines
invariant-lines l = record {
  within : length l.rest ≤ length l.input;
  place : l.rest ≡ drop (length l.input - length l.rest) l.input;
  text : base_text l.cluster l.input ≡ take (length l.input - length l.rest) l.input ++ concat (front_left l.cluster l.begun (raw_lines l.rest));
}

abbrev pub decreases-lines : goal.decreases-lines
decreases-lines l = length l.rest
