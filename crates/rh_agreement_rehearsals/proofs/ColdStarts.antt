-- One after the other the calls of whole rehearsals, with cold starts among them, are answered alike, and so from where no node has begun.
use Rattle.std.proofs.Common.{◌⊎◌, [], ◌∷◌, inl, inr}
use Rattle.rh_rules.specs.declared.event.Event.TheVariants as event
use Rattle.rh_calls.specs.declared.call.Call.{Call}
use Rattle.rh_calls.specs.declared.call.Call.TheVariants as call
use Rattle.rh_trail.specs.Lone.{opened, served}
use Rattle.rh_trail.specs.SimView.{SimView}
use Rattle.rh_otp_sim.specs.Calls.{made_by}
use Rattle.rh_otp_sim.specs.Sim.{LiveSimView}
use Rattle.rh_otp_sim.specs.Sim.{opened as live_opened}
use Rattle.rh_agreement.specs.Telling.{GoTogether}
use Rattle.rh_agreement.specs.Laws.{IsAnsweredAlike}
use Rattle.rh_agreement.specs.Resting.{AreAlwaysAtRest}
use Rattle.rh_agreement.proofs.Always.{GoesOn}
use Rattle.rh_agreement.proofs.AtFirst.{begin_at_rest}
use Rattle.rh_agreement.proofs.Beginning.{begin_together}
use Rattle.rh_agreement_colds.proofs.Calls.{GoesOnInSomeOrder, cold_on}
use Rattle.rh_agreement_rehearsals.specs.Rehearsals.{IsAgreedCall}
use Rattle.rh_agreement_rehearsals.specs.ColdStarts.{IsColdBoot, IsAnsweredUpToOrder, ColdCallsAreAnsweredUpToOrder, ColdRehearsalsAreAnsweredUpToOrder}
use Rattle.rh_agreement_rehearsals.proofs.Calls.{call_on}

-- behind each both go together, and are at rest wherever undo and redo lead
record GoesOnUpToOrder (c : Call) (sim : SimView) (l : LiveSimView) : Type 0 where
  pub alike : IsAnsweredUpToOrder c sim l
  pub together : GoTogether (served sim c).sim (made_by c l)
  pub rest : AreAlwaysAtRest (served sim c).sim (made_by c l)

same_text : (c : Call) (sim : SimView) (l : LiveSimView) → IsAnsweredAlike c sim l → IsAnsweredUpToOrder c sim l
same_text (call.Step (event.Boot n)) sim l alike = inl alike
same_text c sim l alike = alike

by_order : (c : Call) (sim : SimView) (l : LiveSimView) → GoTogether sim l → AreAlwaysAtRest sim l → IsColdBoot c sim l
    → GoesOnUpToOrder c sim l
by_order (call.Step (event.Boot n)) sim l together rest is =
    let one : GoesOnInSomeOrder (call.Step (event.Boot n)) sim l = cold_on sim l n together is.0 rest is.1 in
    record { alike = inr one.alike; together = one.together; rest = one.rest }
by_order c sim l together rest is = absurd is

goes_on : (c : Call) (sim : SimView) (l : LiveSimView) → GoTogether sim l → AreAlwaysAtRest sim l
    → IsAgreedCall c sim l ⊎ IsColdBoot c sim l → GoesOnUpToOrder c sim l
goes_on c sim l together rest (inl is) =
    let one : GoesOn c sim l = call_on c sim l together rest is in
    record { alike = same_text c sim l one.alike; together = one.together; rest = one.rest }
goes_on c sim l together rest (inr cold) = by_order c sim l together rest cold

pub cold_calls_alike : ColdCallsAreAnsweredUpToOrder
cold_calls_alike sim l [] together rest all = tt
cold_calls_alike sim l (c ∷ calls) together rest all =
    let one : GoesOnUpToOrder c sim l = goes_on c sim l together rest all.0 in
    (one.alike, cold_calls_alike (served sim c).sim (made_by c l) calls one.together one.rest all.1)

pub cold_rehearsals_alike : ColdRehearsalsAreAnsweredUpToOrder
cold_rehearsals_alike c pick files order calls within later all =
    cold_calls_alike (opened c pick) (live_opened c files order) calls (begin_together c pick files order)
    (begin_at_rest c pick files order within later) all
