use Rattle.std.proofs.Common.{◌≡◌, ◌≤◌, ℕ, length, take}
use Rattle.rh_trail.specs.Chain.{chain}
use Rattle.rh_sweep.proofs.trial.go_back.Given as goal

abbrev pub invariant-back : goal.invariant-back
invariant-back l = record {
  sim : l.sim.seen ≡ record l.fn.sim.seen { cursor = l.sim.seen.cursor };
  above : l.cursor ≤ l.sim.seen.cursor;
  chain : (k : ℕ) → k ≤ length l.fn.sim.seen.trail → chain l.sim k ≡ chain l.fn.sim k;
  records : take l.cursor l.sim.records ≡ take l.cursor l.fn.sim.records;
}

abbrev pub decreases-back : goal.decreases-back
decreases-back l = l.sim.seen.cursor
