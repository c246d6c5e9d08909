use Rattle.std.proofs.Common.{◌+◌, ◌*◌, ◌%◌, ◌^◌, ap, ◌∙◌, arith}
use Rattle.rh_model.specs.Marks.{is_marked, marks_of}
use Rattle.rh_model.proofs.Marks.{low_half, high_half}
use Rattle.rh_model.proofs.app_marks.AppMarks.of_halves.Goals as goal

pub returns-clause-low : goal.returns-clause-low
returns-clause-low c = λ a lt. ap (λ m. is_marked (marks_of (m * 2 ^ 64 % 2 ^ 128 + c.from-2.result)) a) c.from.ensures
    ∙ ap (λ m. is_marked (marks_of (c.args.high * 2 ^ 64 % 2 ^ 128 + m)) a) c.from-2.ensures
    ∙ low_half c.args.high c.args.low a (let r = c.ranges.high.fits in omega (arith, r)) lt

pub returns-clause-high : goal.returns-clause-high
returns-clause-high c = λ a b at. ap (λ m. is_marked (marks_of (m * 2 ^ 64 % 2 ^ 128 + c.from-2.result)) a) c.from.ensures
    ∙ ap (λ m. is_marked (marks_of (c.args.high * 2 ^ 64 % 2 ^ 128 + m)) a) c.from-2.ensures
    ∙ high_half c.args.high c.args.low a b (let r = c.ranges.high.fits in omega (arith, r)) (let r = c.ranges.low.fits in omega (arith, r)) at
