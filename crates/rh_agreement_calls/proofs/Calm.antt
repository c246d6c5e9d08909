-- One after the other these calls, crashes, ticks that reach no timer, and steps back and forth are answered alike.
use Rattle.std.proofs.Common.{false, List, [], ◌∷◌}
use Rattle.rh_rules.specs.declared.event.Event.{Event}
use Rattle.rh_rules.specs.declared.event.Event.TheVariants as event
use Rattle.rh_calls.specs.declared.call.Call.{Call}
use Rattle.rh_calls.specs.declared.call.Call.TheVariants as call
use Rattle.rh_trail.specs.Lone.{served}
use Rattle.rh_trail.specs.SimView.{SimView}
use Rattle.rh_otp_sim.specs.Calls.{made_by}
use Rattle.rh_otp_sim.specs.Sim.{LiveSimView}
use Rattle.rh_agreement.specs.Telling.{GoTogether}
use Rattle.rh_agreement.specs.Laws.{HasRoom}
use Rattle.rh_agreement.specs.Resting.{AreAlwaysAtRest, AreAnsweredAlike}
use Rattle.rh_agreement.proofs.Always.{GoesOn, steps_on, back_on}
use Rattle.rh_agreement_calls.specs.Calm.{IsCalm, IsCalmCall, AreAllCalm, CalmCallsAreAnsweredAlike}
use Rattle.rh_agreement_calls.proofs.StartAlike.{start_on}
use Rattle.rh_agreement_calls.proofs.StopAlike.{stop_on, forbid_on, exit_on}

step_on : (e : Event) (sim : SimView) (l : LiveSimView) → GoTogether sim l → HasRoom sim l → AreAlwaysAtRest sim l → IsCalm e sim l
    → GoesOn (call.Step e) sim l
step_on (event.Stop n a) sim l together room rest calm = stop_on sim l n a together room rest.now calm rest
step_on (event.Permit n a false) sim l together room rest calm = forbid_on sim l n a together room rest.now calm.0 calm.1 rest
step_on (event.Exit n a normal) sim l together room rest calm = exit_on sim l n a together room rest.now calm.0 normal calm.1 rest
step_on (event.Start n a restart) sim l together room rest calm = start_on sim l n a restart together room rest.now calm.0 calm.1 rest
step_on e sim l together room rest calm = steps_on e sim l together room rest calm

pub call_on : (c : Call) (sim : SimView) (l : LiveSimView) → GoTogether sim l → AreAlwaysAtRest sim l → IsCalmCall c sim l → GoesOn c sim l
call_on (call.Step e) sim l together rest calm = step_on e sim l together calm.0 rest calm.1
call_on c sim l together rest calm = back_on c sim l together rest calm

calls_on : (calls : List Call) (sim : SimView) (l : LiveSimView) → GoTogether sim l → AreAlwaysAtRest sim l → AreAllCalm calls sim l
    → AreAnsweredAlike calls sim l
calls_on [] sim l together rest calm = tt
calls_on (c ∷ calls) sim l together rest calm =
    let one : GoesOn c sim l = call_on c sim l together rest calm.0 in
    (one.alike, calls_on calls (served sim c).sim (made_by c l) one.together one.rest calm.1)

pub calm_calls_alike : CalmCallsAreAnsweredAlike
calm_calls_alike sim l calls together rest calm = calls_on calls sim l together rest calm
