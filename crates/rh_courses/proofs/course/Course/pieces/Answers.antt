use Rattle.std.proofs.Common.{◌<◌, length, ◌≤◌, count_by, ap, ◌∙◌, cond, arith}
use Rattle.rh_courses.specs.declared.course.Stay.{Stay}
use Rattle.rh_courses.specs.Courses.{CourseView, is_gap}
use Rattle.rh_courses.proofs.Staying.{sum_next, all_stays}
use Rattle.rh_courses.proofs.course.Course.pieces.Goals as goal

pub loop-index-preserved : goal.loop-index-preserved
loop-index-preserved c =
    let cs = c.args.self.now.changes in
    let many = ap (λ (v : CourseView). length v.changes) c.self.view_is in
    let inside : c.loop-index.index < length cs = omega (arith, c.loop-index-test.true, c.len-index-end.ensures, many) in
    let next = sum_next cs c.loop-index.index (λ (st : Stay). cond (is_gap st) 1 0) c.stay-stay.result c.stay-stay.ensures inside in
    record {
      count = omega (arith, next, c.loop-index.invariant.count, c.gap_count-more.ensures.gap);
      few = omega (arith, c.loop-index.invariant.few, c.gap_count-more.ensures.one);
    }

pub returns : goal.returns
returns c =
    let many = ap (λ (v : CourseView). length v.changes) c.self.view_is in
    let all : length c.args.self.now.changes ≤ c.loop-index.index = omega (arith, c.loop-index-test.false, c.len-index-end.ensures, many) in
    c.loop-index.invariant.count
    ∙ ap (count_by is_gap) (all_stays c.args.self.now.changes c.loop-index.index all)
