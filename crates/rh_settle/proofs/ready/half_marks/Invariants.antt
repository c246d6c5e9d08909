use Rattle.std.proofs.Common.{◌≡◌, ◌+◌, ◌<◌, ◌≤◌}
use Rattle.rh_model.specs.declared.node.App.{App}
use Rattle.rh_state.specs.StateView.{standing_of}
use Rattle.rh_state.specs.Stored.{read}
use Rattle.rh_model.specs.Marks.{is_marked, marks_of}
use Rattle.rh_settle.specs.Boards.{is_wanted}
use Rattle.rh_settle.proofs.ready.half_marks.Given as goal

-- the applications from this number on have their marks, which are still to move up by so many
abbrev pub invariant-apps : goal.invariant-apps
invariant-apps l = record {
  few : l.number ≤ l.end;
  above : l.from ≤ l.number;
  wanted : (a b : App) → a.0 < l.end → a.0 ≡ b.0 + l.number → is_marked (marks_of l.wanted) b ≡ is_wanted (standing_of (read l.state) a);
}

abbrev pub decreases-apps : goal.decreases-apps
decreases-apps l = l.number
