-- One after the other these calls and calm ones are answered alike.
use Rattle.std.proofs.Common.{List, [], ◌∷◌, inl, inr}
use Rattle.rh_rules.specs.declared.event.Event.{Event}
use Rattle.rh_rules.specs.declared.event.Event.TheVariants as event
use Rattle.rh_calls.specs.declared.call.Call.{Call}
use Rattle.rh_calls.specs.declared.call.Call.TheVariants as call
use Rattle.rh_trail.specs.Lone.{served}
use Rattle.rh_trail.specs.SimView.{SimView}
use Rattle.rh_otp_sim.specs.Calls.{made_by}
use Rattle.rh_otp_sim.specs.Sim.{LiveSimView}
use Rattle.rh_agreement.specs.Telling.{GoTogether}
use Rattle.rh_agreement.specs.Laws.{HasRoom}
use Rattle.rh_agreement.specs.Resting.{AreAlwaysAtRest, AreAnsweredAlike}
use Rattle.rh_agreement.proofs.Always.{GoesOn}
use Rattle.rh_agreement_calls.proofs.Calm as calm
use Rattle.rh_agreement_spread.specs.Calls.{IsOfAny, IsOfAnyOrCalm, AreAllOfAnyOrCalm, CallsOfAnyAreAnsweredAlike}
use Rattle.rh_agreement_spread.proofs.StartAlike.{start_on}
use Rattle.rh_agreement_spread.proofs.StopAlike.{stop_on, leave_on, exit_on}
use Rattle.rh_agreement_spread.proofs.WaitAlike.{wait_on}

step_on : (e : Event) (sim : SimView) (l : LiveSimView) → GoTogether sim l → HasRoom sim l → AreAlwaysAtRest sim l → IsOfAny e sim l
    → GoesOn (call.Step e) sim l
step_on (event.Stop n a) sim l together room rest (inl runs) = stop_on sim l n a together room rest.now runs rest
step_on (event.Stop n a) sim l together room rest (inr waits) = leave_on sim l n a together room rest.now waits rest
step_on (event.Exit n a normal) sim l together room rest is = exit_on sim l n a together room rest.now is.0 normal is.1 rest
step_on (event.Start n a restart) sim l together room rest (inl is) = start_on sim l n a restart together room rest.now is.0 is.1 rest
step_on (event.Start n a restart) sim l together room rest (inr is) = wait_on sim l n a restart together room rest.now is.0 is.1 rest
step_on e sim l together room rest is = absurd is

pub call_on : (c : Call) (sim : SimView) (l : LiveSimView) → GoTogether sim l → AreAlwaysAtRest sim l → IsOfAnyOrCalm c sim l
    → GoesOn c sim l
call_on (call.Step e) sim l together rest (inl is) = step_on e sim l together is.0 rest is.1
call_on (call.Step e) sim l together rest (inr is) = calm.call_on (call.Step e) sim l together rest is
call_on c sim l together rest is = calm.call_on c sim l together rest is

calls_on : (calls : List Call) (sim : SimView) (l : LiveSimView) → GoTogether sim l → AreAlwaysAtRest sim l → AreAllOfAnyOrCalm calls sim l
    → AreAnsweredAlike calls sim l
calls_on [] sim l together rest all = tt
calls_on (c ∷ calls) sim l together rest all =
    let one : GoesOn c sim l = call_on c sim l together rest all.0 in
    (one.alike, calls_on calls (served sim c).sim (made_by c l) one.together one.rest all.1)

pub calls_of_any_alike : CallsOfAnyAreAnsweredAlike
calls_of_any_alike sim l calls together rest all = calls_on calls sim l together rest all
