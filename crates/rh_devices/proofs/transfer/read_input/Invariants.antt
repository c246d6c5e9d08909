use Rattle.std.proofs.Common.{◌≡◌, ◌≤◌, length, false}
use Rattle.rh_devices.specs.Devices.{Passed}
use Rattle.rh_devices.proofs.transfer.read_input.Given as goal

abbrev pub invariant-loop : goal.invariant-loop
invariant-loop g l = record {
  bytes : Passed g.S.Source.gives l.fn.reader.inner l.reader.inner l.input.items;
  limit : length l.input.items ≤ 16777216;
  calls : l.counter ≤ length l.input.items;
  watch : l.reader.failed ≡ false;
  room : length l.buffer ≡ 4096;
}
