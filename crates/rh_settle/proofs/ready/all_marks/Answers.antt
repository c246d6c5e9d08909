use Rattle.std.proofs.Common.{◌≡◌, ◌<◌, ◌≤◌, ◌+◌, ◌-◌, nat_lt, ap, ◌∙◌, arith}
use Rattle.rh_base.proofs.Lists.{cases}
use Rattle.rh_model.specs.ClusterView.{ClusterView, app_count, app_numbered}
use Rattle.rh_trace.proofs.Entries.{is_below, is_above}
use Rattle.rh_settle.proofs.ready.all_marks.Goals.{then-count-lt64, else-count-lt64}
use Rattle.rh_settle.proofs.ready.all_marks.Goals as goal

pub returns : goal.returns
returns c = λ a of.
    let e = c.app_count-count.ensures.count ∙ ap (λ (v : ClusterView). app_count v) c.cluster.ensures in
    let low : a.0 < 64 → a.0 < c.if-count-lt64.half = (λ lt. elim c.if-count-lt64.branch [
      | then-count-lt64 w ↦ (let h = w.half-is in omega (arith, h, e, of))
      | else-count-lt64 w ↦ (let h = w.half-is in omega (arith, h, lt))
    ]) in
    let high : 64 ≤ a.0 → a.0 ≡ (a.0 - 64) + c.if-count-lt64.half = (λ ge. elim c.if-count-lt64.branch [
      | then-count-lt64 w ↦ (let t = w.if-count-lt64.true in omega (arith, t, e, of, ge))
      | else-count-lt64 w ↦ (let h = w.half-is in omega (arith, h, ge))
    ]) in
    cases (nat_lt a.0 64)
    (λ t. let lt = is_below a.0 64 t in c.of_halves.ensures.low a lt ∙ c.half_marks-low.ensures a a (low lt) (omega arith))
    (λ f. let ge = is_above a.0 64 f in c.of_halves.ensures.high a (app_numbered (a.0 - 64)) (omega (arith, ge))
    ∙ c.half_marks-high.ensures a (app_numbered (a.0 - 64)) (omega (arith, e, of)) (high ge))
