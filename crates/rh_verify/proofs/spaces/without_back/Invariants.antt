use Rattle.std.proofs.Common.{◌≡◌, ◌≤◌, length, take}
use Rattle.rh_verify.specs.Spaces.{without_back}
use Rattle.rh_verify.proofs.spaces.without_back.Given as goal

abbrev pub invariant-loop-end : goal.invariant-loop-end
invariant-loop-end l = record {
  within : l.end ≤ length l.line;
  same : without_back l.line ≡ without_back (take l.end l.line);
}

abbrev pub decreases-loop-end : goal.decreases-loop-end
decreases-loop-end l = l.end
