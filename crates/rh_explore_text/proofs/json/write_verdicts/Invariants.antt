use Rattle.std.proofs.Common.{◌≡◌, false}
use Rattle.rh_state.specs.Stored.{read}
use Rattle.rh_explore_text.proofs.VerdictLines.{AreWritten}
use Rattle.rh_explore_text.proofs.json.write_verdicts.Given as goal

abbrev pub invariant-loop-place : goal.invariant-loop-place
invariant-loop-place g l = record {
  written : AreWritten g.K.Sink.takes l.cluster l.pick (read l.base) l.verdicts l.fn.writer l.writer l.place;
  watch : l.writer.failed ≡ false;
}
