use Rattle.std.proofs.Common.{◌+◌, List, map, take, get_or, sym, subst, arith}
use Rattle.std.specs.List.{flat_map}
use Rattle.std.proofs.lemmas.List.{get_or-map, length-map, take-map}
use Rattle.std.proofs.lemmas.Result.{err_from_is_err_and}
use Rattle.rh_devices.specs.Devices.{Passed, WroteFront}
use Rattle.rh_otp_sweep.specs.Outcomes.{LiveOutcomeView}
use Rattle.rh_run.proofs.Pieces.{goes_on, fails_midway}
use Rattle.rh_script.specs.SweepLines.{PlanText, plan_text}
use Rattle.rh_otp_plans.specs.OutcomeJson.{outcome_line}
use Rattle.rh_otp_plans.specs.LiveSweepJson.{plan_line}
use Rattle.rh_otp_plans.proofs.Sweeps.{outcome_at}
use Rattle.rh_otp_plans.proofs.json.write_outcomes.Goals as goal

pub returns-in_err-write_outcome : goal.returns-in_err-write_outcome
returns-in_err-write_outcome g c =
    let takes = g.K.Sink.takes in
    let fails = g.K.Sink.fails in
    let text = plan_line c.args.base.now in
    let plans = c.args.plans.now in
    let i = c.loop-place.place in
    let at = c.loop-place-test.true in
    let plan = get_or plans i c.index-plans-place.result in
    let here = sym (get_or-map plan_text plans i c.index-plans-place.result (plan_text plan) at) in
    let is = outcome_at c.args.base.now plans c.args.outcomes.now i c.index-plans-place.result c.index-outcomes-place.result at c.requires.outcomes
    c.index-outcomes-place.is in
    let done = subst (λ (ps : List PlanText). Passed takes c.args.writer.now.inner c.loop-place.writer.inner (flat_map text ps))
    (sym (take-map plan_text i plans)) c.loop-place.invariant.written in
    let broke = subst (λ (o : LiveOutcomeView). WroteFront takes fails c.in_err-write_outcome.field-0.0 (outcome_line c.args.base.now.cluster plan.name o)
    c.loop-place.writer c.write_outcome.new.writer) is (rw c.cluster.ensures at c.in_err-write_outcome.ensures) in
    let p = err_from_is_err_and c.from_residual.result c.from_residual.ensures.1 in
    rw (p.1, p.2)
    (fails_midway text (map plan_text plans) i (plan_text plan) (omega (arith, at, length-map plans plan_text)) takes fails here c.in_err-write_outcome.field-0.0
    c.args.writer.now c.loop-place.writer c.write_outcome.new.writer done broke)

pub loop-place-preserved : goal.loop-place-preserved
loop-place-preserved g c =
    let takes = g.K.Sink.takes in
    let text = plan_line c.args.base.now in
    let plans = c.args.plans.now in
    let i = c.loop-place.place in
    let at = c.loop-place-test.true in
    let plan = get_or plans i c.index-plans-place.result in
    let here = sym (get_or-map plan_text plans i c.index-plans-place.result (plan_text plan) at) in
    let is = outcome_at c.args.base.now plans c.args.outcomes.now i c.index-plans-place.result c.index-outcomes-place.result at c.requires.outcomes
    c.index-outcomes-place.is in
    let done = subst (λ (ps : List PlanText). Passed takes c.args.writer.now.inner c.loop-place.writer.inner (flat_map text ps))
    (sym (take-map plan_text i plans)) c.loop-place.invariant.written in
    let piece = subst (λ (o : LiveOutcomeView). Passed takes c.loop-place.writer.inner c.write_outcome.new.writer.inner (outcome_line c.args.base.now.cluster plan.name o))
    is (rw c.cluster.ensures at c.in_ok-write_outcome.ensures.0) in
    record {
      written = subst (λ (ps : List PlanText). Passed takes c.args.writer.now.inner c.write_outcome.new.writer.inner (flat_map text ps))
          (take-map plan_text (i + 1) plans)
          (goes_on text (map plan_text plans) i (plan_text plan) (omega (arith, at, length-map plans plan_text)) takes here
          c.args.writer.now c.loop-place.writer c.write_outcome.new.writer done piece);
      watch = c.in_ok-write_outcome.ensures.1;
    }
