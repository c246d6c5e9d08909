-- One after the other these permits, and the calls of the lower laws, are answered alike.
use Rattle.std.proofs.Common.{Bool, List, [], ◌∷◌, sym, subst, inl, inr}
use Rattle.rh_rules.specs.declared.event.Event.{Event}
use Rattle.rh_rules.specs.declared.event.Event.TheVariants as event
use Rattle.rh_calls.specs.declared.call.Call.{Call}
use Rattle.rh_calls.specs.declared.call.Call.TheVariants as call
use Rattle.rh_trail.specs.Lone.{served}
use Rattle.rh_trail.specs.SimView.{SimView}
use Rattle.rh_otp_sim.specs.Calls.{made_by}
use Rattle.rh_otp_sim.specs.Sim.{LiveSimView}
use Rattle.rh_agreement.specs.Telling.{GoTogether}
use Rattle.rh_agreement.specs.Laws.{HasRoom}
use Rattle.rh_agreement.specs.Resting.{AreAlwaysAtRest, AreAnsweredAlike}
use Rattle.rh_agreement.proofs.Always.{GoesOn}
use Rattle.rh_agreement_permits.proofs.Calls as other
use Rattle.rh_agreement_grants.specs.Calls.{IsOfGrants, IsGrantOrOther, AreAllGrantOrOther, CallsAndGrantsAreAnsweredAlike}
use Rattle.rh_agreement_grants.proofs.Alike.{grant_on}
use Rattle.rh_agreement_grants.proofs.CallBackAlike.{call_back_on}

pub step_on : (e : Event) (sim : SimView) (l : LiveSimView) → GoTogether sim l → HasRoom sim l → AreAlwaysAtRest sim l → IsOfGrants e sim l
    → GoesOn (call.Step e) sim l
step_on (event.Permit n a allow) sim l together room rest is =
    subst (λ (b : Bool). GoesOn (call.Step (event.Permit n a b)) sim l) (sym is.0)
    (elim is.1 [
      | inl starts ↦ grant_on sim l n a starts.0.0 together room rest.now starts.0.1 starts.1 rest
      | inr back ↦ call_back_on sim l n back.0 a together room rest.now back.1 back.2 rest
    ])
step_on e sim l together room rest is = absurd is

call_on : (c : Call) (sim : SimView) (l : LiveSimView) → GoTogether sim l → AreAlwaysAtRest sim l → IsGrantOrOther c sim l
    → GoesOn c sim l
call_on (call.Step e) sim l together rest (inl is) = step_on e sim l together is.0 rest is.1
call_on (call.Step e) sim l together rest (inr is) = other.call_on (call.Step e) sim l together rest is
call_on c sim l together rest is = other.call_on c sim l together rest is

calls_on : (calls : List Call) (sim : SimView) (l : LiveSimView) → GoTogether sim l → AreAlwaysAtRest sim l
    → AreAllGrantOrOther calls sim l → AreAnsweredAlike calls sim l
calls_on [] sim l together rest all = tt
calls_on (c ∷ calls) sim l together rest all =
    let one : GoesOn c sim l = call_on c sim l together rest all.0 in
    (one.alike, calls_on calls (served sim c).sim (made_by c l) one.together one.rest all.1)

pub calls_and_grants_alike : CallsAndGrantsAreAnsweredAlike
calls_and_grants_alike sim l calls together rest all = calls_on calls sim l together rest all
