use Rattle.std.proofs.Common.{◌≡◌, ◌≤◌, ◌<◌, ◌*◌, ℕ, false, length, get_or, take, fold}
use Rattle.rh_model.specs.declared.node.App.{App}
use Rattle.rh_model.specs.declared.settings.Restart.{Restart}
use Rattle.rh_model.specs.ClusterView.{boot_of}
use Rattle.rh_state.specs.StateView.{is_started}
use Rattle.rh_state.specs.Stored.{read}
use Rattle.rh_trace.specs.Traces.{course}
use Rattle.rh_trace.specs.Counts.{FewEdits}
use Rattle.rh_trace.specs.Ways.{Goes}
use Rattle.rh_rules.specs.Marking.{mark_booted}
use Rattle.rh_events.proofs.marking.mark_booted.Given as goal

abbrev pub invariant-booted : goal.invariant-booted
invariant-booted l = record {
  same : course (read l.state) l.trace
      ≡ fold (mark_booted l.node) (course (read l.fn.state) l.fn.trace) (take l.place (boot_of (read l.fn.state).cluster l.node));
  cluster : (read l.state).cluster ≡ (read l.fn.state).cluster;
  rest : (k : ℕ) (d : App × Restart) → l.place ≤ k → k < length (boot_of (read l.fn.state).cluster l.node)
      → is_started (read l.state) l.node (get_or (boot_of (read l.fn.state).cluster l.node) k d).0 ≡ false;
  way : Goes l.fn.state l.fn.trace l.state l.trace;
  few : FewEdits (4 * l.place) l.fn.trace l.trace;
}
