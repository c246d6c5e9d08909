use Rattle.std.proofs.Common.{◌≡◌, take, false, map}
use Rattle.std.specs.List.{flat_map}
use Rattle.rh_devices.specs.Devices.{Passed}
use Rattle.rh_script.specs.SweepLines.{plan_text}
use Rattle.rh_otp_plans.specs.LiveSweep.{plan_outcome}
use Rattle.rh_otp_plans.proofs.sweeping.write_outcomes.Given as goal

abbrev pub invariant-loop-place : goal.invariant-loop-place
invariant-loop-place g l = record {
  written : Passed g.K.Sink.takes l.fn.writer.inner l.writer.inner (flat_map (plan_outcome l.base) (map plan_text (take l.place l.plans)));
  watch : l.writer.failed ≡ false;
}
