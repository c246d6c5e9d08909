use Rattle.std.proofs.Common.{◌≡◌}
use Rattle.rh_state.specs.Stored.{read}
use Rattle.rh_settle.specs.Boards.{IsBoardOf}
use Rattle.rh_trace.specs.Counts.{FewEdits}
use Rattle.rh_trace.specs.Traces.{course}
use Rattle.rh_rules.specs.Course.{fresh_of}
use Rattle.rh_rules.specs.Settling.{all_moved}
use Rattle.rh_trace.specs.Validity.{RunsWhereItStands}
use Rattle.rh_trace.specs.Ways.{Goes}
use Rattle.rh_trace.proofs.Points.{points}
use Rattle.rh_settle.proofs.settling.make_ready_moves.Given as goal

abbrev pub invariant-moves : goal.invariant-moves
invariant-moves l = record {
  board : IsBoardOf (read l.state) (fresh_of (course (read l.state) l.trace)) l.board;
  same : all_moved l.pick (course (read l.state) l.trace) ≡ all_moved l.pick (course (read l.fn.state) l.fn.trace);
  runs : RunsWhereItStands (read l.state);
  way : Goes l.fn.state l.fn.trace l.state l.trace;
  few : FewEdits 0 l.fn.trace l.trace;
}

abbrev pub decreases-moves : goal.decreases-moves
decreases-moves l = points (read l.state)
