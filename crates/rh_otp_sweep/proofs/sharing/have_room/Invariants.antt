use Rattle.std.proofs.Common.{All, take}
use Rattle.rh_otp_sweep.specs.Sweeping.{HasRoom}
use Rattle.rh_otp_sweep.proofs.sharing.have_room.Given as goal

abbrev pub invariant-loop-plan : goal.invariant-loop-plan
invariant-loop-plan l = All (HasRoom l.base) (take l.plan-index l.plans)
