use Rattle.std.proofs.Common.{◌≡◌, length}
use Rattle.rh_model.specs.ClusterView.{ClusterView}
use Rattle.rh_state.specs.Stored.{read}
use Rattle.rh_trace.specs.Validity.{IsSound}
use Rattle.rh_courses.specs.Moments.{behind_timers}
use Rattle.rh_courses.specs.Working.{noted_along, AreOf}
use Rattle.rh_courses.proofs.walk.note_each.Given as goal

abbrev pub invariant-timers : goal.invariant-timers
invariant-timers l = record {
  so_far : noted_along l.courses.items (behind_timers l.pick (length (read l.state).timers) l.limit (read l.state))
      ≡ noted_along l.fn.courses.items (behind_timers l.pick (length (read l.fn.state).timers) l.limit (read l.fn.state));
  sound : IsSound (read l.state);
  cluster : (read l.state).cluster ≡ (read l.fn.state).cluster;
  apps : (v : ClusterView) → AreOf v l.fn.courses.items → AreOf v l.courses.items;
}

abbrev pub decreases-timers : goal.decreases-timers
decreases-timers l = length (read l.state).timers
