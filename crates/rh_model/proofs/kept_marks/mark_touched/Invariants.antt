-- what was looked at so far is marked
use Rattle.std.proofs.Common.{◌≡◌, ◌<◌, ◌==◌, ◌&&◌, ◌||◌, take}
use Rattle.rh_model.specs.declared.node.App.{App}
use Rattle.rh_model.specs.declared.limits.TheConstants.{MAX_APPS}
use Rattle.rh_model.specs.Marks.{is_marked_in, is_touched_by}
use Rattle.rh_model.proofs.kept_marks.mark_touched.Given as goal

abbrev pub invariant-deps : goal.invariant-deps
invariant-deps l = (b a : App) → b.0 < MAX_APPS
    → is_marked_in l.rows b a ≡ (is_marked_in l.fn.rows b a || (a.0 == l.fn.app.0 && is_touched_by b a (take l.dep-index l.fn.deps)))
