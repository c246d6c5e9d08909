use Rattle.std.proofs.Common.{◌≡◌, ◌≤◌, ◌-◌, length, take, false}
use Rattle.std.specs.List.{list_any}
use Rattle.rh_findings.specs.Scan.{is_marked}
use Rattle.rh_findings.proofs.plain.plain_blocks.Given as goal

abbrev pub invariant-front : goal.invariant-front
invariant-front l = record {
  within : l.len ≤ length l.bytes;
  plain : list_any is_marked (take l.len l.bytes) ≡ false;
}

abbrev pub decreases-front : goal.decreases-front
decreases-front l = length l.bytes - l.len
