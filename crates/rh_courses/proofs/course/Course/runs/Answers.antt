use Rattle.std.proofs.Common.{◌<◌, ◌≤◌, length, ◌++◌, ◌∷◌, [], List, filter, ap, sym, ◌∙◌, arith}
use Rattle.rh_courses.specs.declared.course.Stay.{Stay}
use Rattle.rh_courses.specs.Courses.{CourseView, is_run}
use Rattle.rh_courses.proofs.Staying.{runs_next, all_stays}
use Rattle.rh_courses.proofs.course.Course.runs.Goals as goal

pub loop-index-preserved : goal.loop-index-preserved
loop-index-preserved c =
    let many = ap (λ (v : CourseView). length v.changes) c.self.view_is in
    let inside : c.loop-index.index < length c.args.self.now.changes = omega (arith, c.loop-index-test.true, c.len-index-end.ensures, many) in
    c.in_ok-push_if_run.ensures
    ∙ ap (λ (found : List Stay). found ++ filter is_run (c.stay-stay.result ∷ [])) c.loop-index.invariant
    ∙ sym (runs_next c.args.self.now.changes c.loop-index.index is_run c.stay-stay.result c.stay-stay.ensures inside)

pub returns : goal.returns
returns c =
    let many = ap (λ (v : CourseView). length v.changes) c.self.view_is in
    let all : length c.args.self.now.changes ≤ c.loop-index.index = omega (arith, c.loop-index-test.false, c.len-index-end.ensures, many) in
    c.loop-index.invariant
    ∙ ap (filter is_run) (all_stays c.args.self.now.changes c.loop-index.index all)
