-- One after the other takeovers and the calls of `rh_agreement_spread` are answered alike.
use Rattle.std.proofs.Common.{List, [], ◌∷◌, inl, inr}
use Rattle.rh_rules.specs.declared.event.Event.{Event}
use Rattle.rh_rules.specs.declared.event.Event.TheVariants as event
use Rattle.rh_calls.specs.declared.call.Call.{Call}
use Rattle.rh_calls.specs.declared.call.Call.TheVariants as call
use Rattle.rh_trail.specs.Lone.{served}
use Rattle.rh_trail.specs.SimView.{SimView}
use Rattle.rh_otp_sim.specs.Calls.{made_by}
use Rattle.rh_otp_sim.specs.Sim.{LiveSimView}
use Rattle.rh_agreement.specs.Telling.{GoTogether}
use Rattle.rh_agreement.specs.Laws.{HasRoom}
use Rattle.rh_agreement.specs.Resting.{AreAlwaysAtRest, AreAnsweredAlike}
use Rattle.rh_agreement.proofs.Always.{GoesOn}
use Rattle.rh_agreement_spread.proofs.Calls as spread
use Rattle.rh_agreement_takeovers.specs.Calls.{IsTakeover, IsTakeoverOrOfAny, AreAllTakeoversOrOfAny, CallsAndTakeoversAreAnsweredAlike}
use Rattle.rh_agreement_takeovers.proofs.Alike.{takeover_on}

pub step_on : (e : Event) (sim : SimView) (l : LiveSimView) → GoTogether sim l → HasRoom sim l → AreAlwaysAtRest sim l → IsTakeover e sim l
    → GoesOn (call.Step e) sim l
step_on (event.Takeover n a restart) sim l together room rest is =
    takeover_on sim l n is.0 a restart together room rest.now is.1 is.2 rest
step_on e sim l together room rest is = absurd is

call_on : (c : Call) (sim : SimView) (l : LiveSimView) → GoTogether sim l → AreAlwaysAtRest sim l → IsTakeoverOrOfAny c sim l
    → GoesOn c sim l
call_on (call.Step e) sim l together rest (inl is) = step_on e sim l together is.0 rest is.1
call_on (call.Step e) sim l together rest (inr is) = spread.call_on (call.Step e) sim l together rest is
call_on c sim l together rest is = spread.call_on c sim l together rest is

calls_on : (calls : List Call) (sim : SimView) (l : LiveSimView) → GoTogether sim l → AreAlwaysAtRest sim l
    → AreAllTakeoversOrOfAny calls sim l → AreAnsweredAlike calls sim l
calls_on [] sim l together rest all = tt
calls_on (c ∷ calls) sim l together rest all =
    let one : GoesOn c sim l = call_on c sim l together rest all.0 in
    (one.alike, calls_on calls (served sim c).sim (made_by c l) one.together one.rest all.1)

pub calls_and_takeovers_alike : CallsAndTakeoversAreAnsweredAlike
calls_and_takeovers_alike sim l calls together rest all = calls_on calls sim l together rest all
