use Rattle.std.proofs.Common.{◌<◌, length, ◌≡◌, ◌≤◌, ap, ◌∙◌, cond, arith}
use Rattle.std.specs.List.{sum_by}
use Rattle.rh_courses.specs.declared.course.Stay.{Stay}
use Rattle.rh_courses.specs.Courses.{CourseView, is_run, length_by, ran}
use Rattle.rh_courses.proofs.Staying.{sum_next, all_stays}
use Rattle.rh_courses.proofs.course.Course.ran.Goals as goal

pub loop-index-preserved : goal.loop-index-preserved
loop-index-preserved c =
    let cs = c.args.self.now.changes in
    let f = λ (st : Stay). cond (is_run st) (length_by c.args.self.now.time st) 0 in
    let many = ap (λ (v : CourseView). length v.changes) c.self.view_is in
    let inside : c.loop-index.index < length cs = omega (arith, c.loop-index-test.true, c.len-index-end.ensures, many) in
    let next = sum_next cs c.loop-index.index f c.stay-stay.result c.stay-stay.ensures inside in
    let long : c.run_length-length.result ≡ f c.stay-stay.result =
    c.run_length-length.ensures ∙ ap (λ now. cond (is_run c.stay-stay.result) (length_by now c.stay-stay.result) 0) c.time.ensures in
    record {
      total = omega (arith, next, c.loop-index.invariant.total, long);
      few = omega (arith, c.loop-index.invariant.few, c.run_length-length.type_inv);
    }

pub returns : goal.returns
unfolding ran
returns c =
    let many = ap (λ (v : CourseView). length v.changes) c.self.view_is in
    let all : length c.args.self.now.changes ≤ c.loop-index.index = omega (arith, c.loop-index-test.false, c.len-index-end.ensures, many) in
    c.loop-index.invariant.total
    ∙ ap (sum_by (λ (st : Stay). cond (is_run st) (length_by c.args.self.now.time st) 0))
    (all_stays c.args.self.now.changes c.loop-index.index all)
