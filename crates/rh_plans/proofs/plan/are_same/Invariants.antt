-- the items so far are equal
use Rattle.std.proofs.Common.{◌≡◌, take, length}
use Rattle.rh_plans.proofs.plan.are_same.Given as goal

abbrev pub invariant-items : goal.invariant-items
invariant-items l = (length l.these ≡ length l.those) × (take l.index l.these ≡ take l.index l.those)
