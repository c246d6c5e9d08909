use Rattle.std.proofs.Common.{◌≡◌, ◌≤◌, ◌-◌, ℕ, length, map}
use Rattle.rh_trail.specs.Chain.{chain}
use Rattle.rh_courses.specs.Moments.{states_of}
use Rattle.rh_courses.specs.Courses.{distributed}
use Rattle.rh_courses.specs.Working.{not_run, noted_along, AreOf}
use Rattle.rh_courses.proofs.walk.courses_along.Given as goal

abbrev pub invariant-events : goal.invariant-events
invariant-events l = record {
  noted : l.courses.items ≡ noted_along (map not_run (distributed l.fn.sim.seen.cluster)) (states_of l.sim.seen);
  apps : AreOf l.fn.sim.seen.cluster l.courses.items;
  within : l.sim.seen.cursor ≤ l.end;
  seen : l.sim.seen ≡ record l.fn.sim.seen { cursor = l.sim.seen.cursor };
  chain : (k : ℕ) → k ≤ length l.fn.sim.seen.trail → chain l.sim k ≡ chain l.fn.sim k;
}

abbrev pub decreases-events : goal.decreases-events
decreases-events l = l.end - l.sim.seen.cursor
