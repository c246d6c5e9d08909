-- the applications so far have their marks in each row, and no other is marked
use Rattle.std.proofs.Common.{◌≡◌, ◌<◌, ◌≤◌, [], false, slice_get, unwrap_or}
use Rattle.std.specs.Option.{option_map}
use Rattle.rh_model.specs.ClusterView.{AppView}
use Rattle.rh_model.specs.declared.node.App.{App}
use Rattle.rh_model.specs.declared.limits.TheConstants.{MAX_APPS}
use Rattle.rh_model.specs.Marks.{is_marked_in, is_touched_by}
use Rattle.rh_model.proofs.kept_marks.touched_in.Given as goal

abbrev pub invariant-apps : goal.invariant-apps
invariant-apps l = record {
  done : (b a : App) → b.0 < MAX_APPS → a.0 < l.number
      → is_marked_in l.rows b a ≡ is_touched_by b a (unwrap_or (option_map (λ (v : AppView). v.deps) (slice_get l.apps a.0)) []);
  rest : (b a : App) → b.0 < MAX_APPS → l.number ≤ a.0 → is_marked_in l.rows b a ≡ false;
}
