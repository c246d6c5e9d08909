use Rattle.std.proofs.Common.{◌≡◌, ◌<◌}
use Rattle.rh_model.specs.declared.node.App.{App}
use Rattle.rh_model.specs.ClusterView.{app_count}
use Rattle.rh_file_lint.specs.Circles.{depends_within, is_marked}
use Rattle.rh_file_lint.proofs.circles.mark_dependents.Given as goal

abbrev pub invariant-steps : goal.invariant-steps
invariant-steps l = (a : App) → a.0 < app_count l.cluster → is_marked l.marks.items a ≡ depends_within l._step l.cluster a l.other
