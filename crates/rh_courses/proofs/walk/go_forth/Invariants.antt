use Rattle.std.proofs.Common.{◌≡◌, ◌≤◌, ◌-◌, ℕ, length}
use Rattle.rh_trail.specs.Chain.{chain}
use Rattle.rh_courses.proofs.walk.go_forth.Given as goal

abbrev pub invariant-forth : goal.invariant-forth
invariant-forth l = record {
  within : l.sim.seen.cursor ≤ l.end;
  seen : l.sim.seen ≡ record l.fn.sim.seen { cursor = l.sim.seen.cursor };
  chain : (k : ℕ) → k ≤ length l.fn.sim.seen.trail → chain l.sim k ≡ chain l.fn.sim k;
}

abbrev pub decreases-forth : goal.decreases-forth
decreases-forth l = l.end - l.sim.seen.cursor
