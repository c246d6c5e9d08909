use Rattle.std.proofs.Common.{◌≡◌, ◌+◌, ◌*◌, Some, arith, ap, sym, ◌∙◌, subst, length, List}
use Rattle.std.proofs.lemmas.List.{length_push}
use Rattle.rh_plans.specs.declared.plan.Outcome.{Outcome}
use Rattle.rh_sweep.proofs.Strides.{AreFirst, HoldsFirst, first-more, first-all, holds-more, holds-all, stride-more}
use Rattle.rh_sweep.proofs.workers.work.Goals as goal

pub plans-preserved : goal.plans-preserved
plans-preserved g c =
    let base = c.args.base.now.seen in
    let plans = c.args.plans.now in
    let k = c.args.workers in
    let first = c.args.first in
    let outcomes = c.plans.outcomes.items in
    let o = c.in_ok-outcome.outcome in
    let left = g.G.Gate.left c.args.gate.now in
    let inv = c.plans.invariant in
    let more : length outcomes + 1 ≡ length c.push.new.self.items =
    sym (length_push outcomes o) ∙ ap (λ (os : List Outcome). length os) (sym c.in_ok-push.ensures.items) in
    record {
      at = c.in_ok-tried.ensures.at;
      number = stride-more base plans k first (length outcomes) c.plans.number inv.number ∙ ap (λ n. first + n * k) more;
      outcomes = subst (AreFirst base plans k first) (sym c.in_ok-push.ensures.items)
          (first-more base plans k first outcomes o c.plans.number inv.number (ap Some c.in_ok-outcome.ensures ∙ c.in_ok-tried.ensures.outcome) inv.outcomes);
      left = subst (HoldsFirst left k first) more
          (holds-more left k first (length outcomes) c.plans.number inv.number c.try_inside-tried.ensures.left inv.left);
    }

pub returns-clause-outcomes : goal.returns-clause-outcomes
returns-clause-outcomes g c =
    first-all c.args.base.now.seen c.args.plans.now c.args.workers c.args.first c.plans.outcomes.items c.plans.number c.plans.invariant.number
    (omega (arith, c.plans-test.false)) c.plans.invariant.outcomes

pub returns-clause-left : goal.returns-clause-left
returns-clause-left g c =
    holds-all (g.G.Gate.left c.args.gate.now) c.args.workers c.args.first (length c.args.plans.now) (length c.plans.outcomes.items) c.plans.number
    c.plans.invariant.number (omega (arith, c.plans-test.false)) c.plans.invariant.left
