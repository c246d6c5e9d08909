use Rattle.std.proofs.Common.{◌≡◌, take, false, map}
use Rattle.rh_devices.specs.Devices.{Passed}
use Rattle.std.specs.List.{flat_map}
use Rattle.rh_script.specs.SweepLines.{plan_text}
use Rattle.rh_json.specs.SweepJson.{plan_line}
use Rattle.rh_json.proofs.sweeping.write_outcomes.Given as goal

abbrev pub invariant-loop-place : goal.invariant-loop-place
invariant-loop-place g l = record {
  written : Passed g.K.Sink.takes l.fn.writer.inner l.writer.inner
      (flat_map (plan_line l.base.seen.cluster l.base.seen) (map plan_text (take l.place l.plans)));
  watch : l.writer.failed ≡ false;
}
