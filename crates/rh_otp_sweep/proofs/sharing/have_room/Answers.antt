use Rattle.std.proofs.Common.{subst, length, List, arith, refl, ℕ, ◌<◌, slice_index_or}
use Rattle.std.proofs.lemmas.List.{take_all}
use Rattle.std.proofs.lemmas.List.Elements.{All-more}
use Rattle.rh_plans.specs.declared.plan.Plan.{Plan}
use Rattle.rh_otp_sweep.specs.Sweeping.{HasRoom}
use Rattle.rh_otp_sweep.proofs.sharing.have_room.Goals as goal

pub loop-plan-preserved : goal.loop-plan-preserved
loop-plan-preserved c =
    All-more (HasRoom c.args.base.now) c.args.plans.now c.loop-plan.plan-index c.plan-item.result c.loop-plan-test.true c.loop-plan.invariant
    (subst (HasRoom c.args.base.now) c.plan-item.is (omega arith))

pub returns : goal.returns
returns c = (
  (λ _. subst (λ (ps : List Plan). (k : ℕ) (d : Plan) → k < length ps → HasRoom c.args.base.now (slice_index_or ps k d))
      (take_all c.loop-plan.plan-index c.args.plans.now (omega (arith, c.loop-plan-test.false))) c.loop-plan.invariant),
  (λ _. refl),
)
