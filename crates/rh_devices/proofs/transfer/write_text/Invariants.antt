use Rattle.std.proofs.Common.{◌≡◌, ◌≤◌, ◌-◌, length, take, false}
use Rattle.rh_devices.specs.Devices.{Passed}
use Rattle.rh_devices.proofs.transfer.write_text.Given as goal

abbrev pub invariant-loop-at : goal.invariant-loop-at
invariant-loop-at g l = record {
  taken : Passed g.K.Sink.takes l.fn.writer.inner l.writer.inner (take l.at l.text);
  within : l.at ≤ length l.text;
  watch : l.writer.failed ≡ false;
}

abbrev pub decreases-loop-at : goal.decreases-loop-at
decreases-loop-at g l = length l.text - l.at
