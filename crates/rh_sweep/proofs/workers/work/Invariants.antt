use Rattle.std.proofs.Common.{◌≡◌, ◌+◌, ◌-◌, ◌*◌, length}
use Rattle.rh_sweep.specs.Working.{IsAtBase}
use Rattle.rh_sweep.proofs.Strides.{AreFirst, HoldsFirst}
use Rattle.rh_sweep.proofs.workers.work.Given as goal

abbrev pub invariant-plans : goal.invariant-plans
invariant-plans g l = record {
  at : IsAtBase l.branch l.base;
  number : l.number ≡ l.first + length l.outcomes.items * l.workers;
  outcomes : AreFirst l.base.seen l.plans l.workers l.first l.outcomes.items;
  left : HoldsFirst (g.G.Gate.left l.gate) l.workers l.first (length l.outcomes.items);
}

abbrev pub decreases-plans : goal.decreases-plans
decreases-plans g l = length l.plans - l.number
