-- One after the other such boots and peaceful calls are answered alike.
use Rattle.std.proofs.Common.{◌⊎◌, List, [], ◌∷◌, inl, inr}
use Rattle.rh_model.specs.declared.node.Node.{Node}
use Rattle.rh_rules.specs.declared.event.Event.TheVariants as event
use Rattle.rh_calls.specs.declared.call.Call.{Call}
use Rattle.rh_calls.specs.declared.call.Call.TheVariants as call
use Rattle.rh_trail.specs.Lone.{served}
use Rattle.rh_trail.specs.SimView.{SimView}
use Rattle.rh_otp_sim.specs.Calls.{made_by}
use Rattle.rh_otp_sim.specs.Sim.{LiveSimView}
use Rattle.rh_agreement.specs.Laws.{HasRoom}
use Rattle.rh_agreement.specs.Resting.{AreAlwaysAtRest, AreAnsweredAlike}
use Rattle.rh_agreement.specs.Telling.{GoTogether}
use Rattle.rh_agreement.proofs.Always.{GoesOn, steps_on, back_on}
use Rattle.rh_agreement_boots.specs.Boots.{BeginsToWait}
use Rattle.rh_agreement_boots.specs.Calls.{IsBootOrPeaceful, AreBootsOrPeaceful, BootsAndPeacefulCallsAreAnsweredAlike}
use Rattle.rh_agreement_boots.specs.Waiting.{BeginsAndWaitsOn}
use Rattle.rh_agreement_boots.proofs.Alone.{first_alike, waits_on}
use Rattle.rh_agreement_boots.proofs.BootAlike.{waiting_alike, goes_on_if}

-- such a boot goes on, whichever of the two it is
pub boot_on : (sim : SimView) (l : LiveSimView) (n : Node) → GoTogether sim l → HasRoom sim l → AreAlwaysAtRest sim l
    → BeginsToWait n sim l ⊎ BeginsAndWaitsOn n sim l → GoesOn (call.Step (event.Boot n)) sim l
boot_on sim l n together room rest (inl begins) =
    goes_on_if sim l n together room rest (first_alike sim l n together room rest.now begins) (waits_on sim l n together rest.now begins)
boot_on sim l n together room rest (inr begins) =
    goes_on_if sim l n together room rest (waiting_alike sim l n together room rest.now begins) (λ fine. begins)

call_on : (c : Call) (sim : SimView) (l : LiveSimView) → GoTogether sim l → AreAlwaysAtRest sim l → IsBootOrPeaceful c sim l
    → GoesOn c sim l
call_on (call.Step (event.Boot n)) sim l together rest is = boot_on sim l n together is.0 rest is.1
call_on (call.Step e) sim l together rest is = steps_on e sim l together is.0 rest is.1
call_on c sim l together rest is = back_on c sim l together rest is

calls_on : (calls : List Call) (sim : SimView) (l : LiveSimView) → GoTogether sim l → AreAlwaysAtRest sim l → AreBootsOrPeaceful calls sim l
    → AreAnsweredAlike calls sim l
calls_on [] sim l together rest all = tt
calls_on (c ∷ calls) sim l together rest all =
    let one : GoesOn c sim l = call_on c sim l together rest all.0 in
    (one.alike, calls_on calls (served sim c).sim (made_by c l) one.together one.rest all.1)

pub boots_and_peaceful_calls_alike : BootsAndPeacefulCallsAreAnsweredAlike
boots_and_peaceful_calls_alike sim l calls together rest all = calls_on calls sim l together rest all
