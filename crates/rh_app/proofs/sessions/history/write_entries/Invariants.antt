use Rattle.std.proofs.Common.{◌≡◌, false, take}
use Rattle.rh_devices.specs.Devices.{Passed}
use Rattle.std.specs.List.{flat_map}
use Rattle.rh_app.specs.Histories.{entry_text}
use Rattle.rh_app.proofs.sessions.history.write_entries.Given as goal

abbrev pub invariant-loop-entry : goal.invariant-loop-entry
invariant-loop-entry g l = record {
  written : Passed g.K.Sink.takes l.fn.writer.inner l.writer.inner (flat_map (entry_text l.cluster) (take l.entry-index l.log));
  watch : l.writer.failed ≡ false;
}
