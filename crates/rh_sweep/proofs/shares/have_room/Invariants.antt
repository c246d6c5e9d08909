use Rattle.std.proofs.Common.{All, take}
use Rattle.rh_outcomes.specs.Sweeping.{HasRoom}
use Rattle.rh_sweep.proofs.shares.have_room.Given as goal

abbrev pub invariant-loop-plan : goal.invariant-loop-plan
invariant-loop-plan l = All (HasRoom l.base.seen) (take l.plan-index l.plans)
