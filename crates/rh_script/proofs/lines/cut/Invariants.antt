use Rattle.std.proofs.Common.{◌≡◌, ◌≤◌, ◌-◌, ◌++◌, length, take, drop}
use Rattle.rh_script.specs.Lines.{cluster_text, script_lines}
use Rattle.rh_script.proofs.lines.cut.Given as goal

abbrev pub invariant-loop-line : goal.invariant-loop-line
invariant-loop-line l = record {
  within : length l.rest ≤ length l.bytes;
  place : l.rest ≡ drop (length l.bytes - length l.rest) l.bytes;
  cluster : cluster_text l.bytes ≡ take (length l.bytes - length l.rest) l.bytes ++ cluster_text l.rest;
  script : script_lines l.bytes ≡ script_lines l.rest;
}

abbrev pub decreases-loop-line : goal.decreases-loop-line
decreases-loop-line l = length l.rest
