-- One after the other all these calls are answered alike, and so from where no node has begun.
use Rattle.std.proofs.Common.{[], ◌∷◌, inl, inr}
use Rattle.rh_rules.specs.declared.event.Event.{Event}
use Rattle.rh_rules.specs.declared.event.Event.TheVariants as event
use Rattle.rh_calls.specs.declared.call.Call.{Call}
use Rattle.rh_calls.specs.declared.call.Call.TheVariants as call
use Rattle.rh_trail.specs.Lone.{opened, served}
use Rattle.rh_trail.specs.SimView.{SimView}
use Rattle.rh_otp_sim.specs.Calls.{made_by}
use Rattle.rh_otp_sim.specs.Sim.{LiveSimView}
use Rattle.rh_otp_sim.specs.Sim.{opened as live_opened}
use Rattle.rh_agreement.specs.Telling.{GoTogether}
use Rattle.rh_agreement.specs.Laws.{HasRoom}
use Rattle.rh_agreement.specs.Resting.{AreAlwaysAtRest}
use Rattle.rh_agreement.proofs.Always.{GoesOn}
use Rattle.rh_agreement.proofs.AtFirst.{begin_at_rest}
use Rattle.rh_agreement.proofs.Beginning.{begin_together}
use Rattle.rh_agreement_boots.proofs.Calls.{boot_on}
use Rattle.rh_agreement_failovers.proofs.FailAlike.{fails_on}
use Rattle.rh_agreement_grants.proofs.Calls as grants
use Rattle.rh_agreement_permits.proofs.Calls as permits
use Rattle.rh_agreement_spread.proofs.Calls as spread
use Rattle.rh_agreement_takeovers.proofs.Calls as takeovers
use Rattle.rh_agreement_ticks.proofs.Ticking.{passes_on}
use Rattle.rh_agreement_rehearsals.specs.Rehearsals.{IsBoot, IsAgreed, IsAgreedCall, AgreedCallsAreAnsweredAlike, AgreedRehearsalsAreAnsweredAlike}

boots_on : (e : Event) (sim : SimView) (l : LiveSimView) → GoTogether sim l → HasRoom sim l → AreAlwaysAtRest sim l → IsBoot e sim l
    → GoesOn (call.Step e) sim l
boots_on (event.Boot n) sim l together room rest is = boot_on sim l n together room rest is
boots_on e sim l together room rest is = absurd is

step_on : (e : Event) (sim : SimView) (l : LiveSimView) → GoTogether sim l → HasRoom sim l → AreAlwaysAtRest sim l → IsAgreed e sim l
    → GoesOn (call.Step e) sim l
step_on e sim l together room rest (inl boots) = boots_on e sim l together room rest boots
step_on e sim l together room rest (inr (inl takes)) = takeovers.step_on e sim l together room rest takes
step_on e sim l together room rest (inr (inr (inl allows))) = permits.step_on e sim l together room rest allows
step_on e sim l together room rest (inr (inr (inr (inl granted)))) = grants.step_on e sim l together room rest granted
step_on e sim l together room rest (inr (inr (inr (inr (inl fails))))) = fails_on e sim l together room rest fails
step_on e sim l together room rest (inr (inr (inr (inr (inr passes))))) = passes_on e sim l together room rest passes

pub call_on : (c : Call) (sim : SimView) (l : LiveSimView) → GoTogether sim l → AreAlwaysAtRest sim l → IsAgreedCall c sim l → GoesOn c sim l
call_on (call.Step e) sim l together rest (inl is) = step_on e sim l together is.0 rest is.1
call_on (call.Step e) sim l together rest (inr is) = spread.call_on (call.Step e) sim l together rest is
call_on c sim l together rest is = spread.call_on c sim l together rest is

pub agreed_calls_alike : AgreedCallsAreAnsweredAlike
agreed_calls_alike sim l [] together rest all = tt
agreed_calls_alike sim l (c ∷ calls) together rest all =
    let one : GoesOn c sim l = call_on c sim l together rest all.0 in
    (one.alike, agreed_calls_alike (served sim c).sim (made_by c l) calls one.together one.rest all.1)

pub agreed_rehearsals_alike : AgreedRehearsalsAreAnsweredAlike
agreed_rehearsals_alike c pick files order calls within later all =
    agreed_calls_alike (opened c pick) (live_opened c files order) calls (begin_together c pick files order)
    (begin_at_rest c pick files order within later) all
