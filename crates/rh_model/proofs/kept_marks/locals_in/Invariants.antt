-- the applications so far have their marks, and no other is marked
use Rattle.std.proofs.Common.{◌≡◌, ◌<◌, ◌≤◌, false, slice_get, is_none}
use Rattle.std.specs.Option.{option_and_then}
use Rattle.rh_model.specs.ClusterView.{AppView}
use Rattle.rh_model.specs.declared.node.App.{App}
use Rattle.rh_model.specs.Marks.{is_marked}
use Rattle.rh_model.proofs.kept_marks.locals_in.Given as goal

abbrev pub invariant-apps : goal.invariant-apps
invariant-apps l = record {
  done : (a : App) → a.0 < l.number → is_marked l.marks a ≡ is_none (option_and_then (λ (v : AppView). v.spread) (slice_get l.apps a.0));
  rest : (a : App) → l.number ≤ a.0 → is_marked l.marks a ≡ false;
}
