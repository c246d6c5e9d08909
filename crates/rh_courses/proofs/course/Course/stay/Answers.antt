use Rattle.std.proofs.Common.{◌≡◌, ◌+◌, List, Some, slice_get, ap, subst, ◌∙◌}
use Rattle.std.specs.Option.{option_map}
use Rattle.rh_courses.specs.declared.course.Change.{Change}
use Rattle.rh_courses.proofs.Staying.{stay_told}
use Rattle.rh_courses.proofs.course.Course.stay.Goals as goal

pub returns : goal.returns
returns c =
    stay_told c.args.self.now.changes c.args.index c.change_at-change.result c.time_at-end.result
    (subst (λ (cs : List Change). slice_get cs c.args.index ≡ Some c.change_at-change.result) c.changes.ensures c.change_at-change.ensures)
    (c.time_at-end.ensures
    ∙ ap (λ (cs : List Change). option_map (λ (d : Change). d.time) (slice_get cs (c.args.index + 1))) c.changes-2.ensures)
