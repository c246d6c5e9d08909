-- One after the other these permissions, and the calls of the lower laws, are answered alike.
use Rattle.std.proofs.Common.{Bool, List, [], ◌∷◌, sym, subst, inl, inr}
use Rattle.rh_rules.specs.declared.event.Event.{Event}
use Rattle.rh_rules.specs.declared.event.Event.TheVariants as event
use Rattle.rh_calls.specs.declared.call.Call.{Call}
use Rattle.rh_calls.specs.declared.call.Call.TheVariants as call
use Rattle.rh_trail.specs.Lone.{served}
use Rattle.rh_trail.specs.SimView.{SimView}
use Rattle.rh_otp_sim.specs.Calls.{made_by}
use Rattle.rh_otp_sim.specs.Sim.{LiveSimView}
use Rattle.rh_agreement.specs.Telling.{GoTogether}
use Rattle.rh_agreement.specs.Laws.{HasRoom}
use Rattle.rh_agreement.specs.Resting.{AreAlwaysAtRest, AreAnsweredAlike}
use Rattle.rh_agreement.proofs.Always.{GoesOn}
use Rattle.rh_agreement_spread.proofs.Calls as other
use Rattle.rh_agreement_permits.specs.Calls.{IsOfPermits, IsPermitOrOther, AreAllPermitOrOther, CallsAndPermitsAreAnsweredAlike}
use Rattle.rh_agreement_permits.proofs.FindAlike.{find_on}
use Rattle.rh_agreement_permits.proofs.ForbidAlike.{forbid_on}
use Rattle.rh_agreement_permits.proofs.PermitAlike.{permit_on}

pub step_on : (e : Event) (sim : SimView) (l : LiveSimView) → GoTogether sim l → HasRoom sim l → AreAlwaysAtRest sim l → IsOfPermits e sim l
    → GoesOn (call.Step e) sim l
step_on (event.Permit n a allow) sim l together room rest (inl is) = permit_on sim l n a allow together room rest.now is.0 is.1 rest
step_on (event.Permit n a allow) sim l together room rest (inr (inl is)) =
    subst (λ (b : Bool). GoesOn (call.Step (event.Permit n a b)) sim l) (sym is.0)
    (find_on sim l n a together room rest.now is.1 is.2 rest)
step_on (event.Permit n a allow) sim l together room rest (inr (inr is)) =
    subst (λ (b : Bool). GoesOn (call.Step (event.Permit n a b)) sim l) (sym is.0)
    (forbid_on sim l n a together room rest.now is.1 is.2 rest)
step_on e sim l together room rest is = absurd is

pub call_on : (c : Call) (sim : SimView) (l : LiveSimView) → GoTogether sim l → AreAlwaysAtRest sim l → IsPermitOrOther c sim l
    → GoesOn c sim l
call_on (call.Step e) sim l together rest (inl is) = step_on e sim l together is.0 rest is.1
call_on (call.Step e) sim l together rest (inr is) = other.call_on (call.Step e) sim l together rest is
call_on c sim l together rest is = other.call_on c sim l together rest is

calls_on : (calls : List Call) (sim : SimView) (l : LiveSimView) → GoTogether sim l → AreAlwaysAtRest sim l
    → AreAllPermitOrOther calls sim l → AreAnsweredAlike calls sim l
calls_on [] sim l together rest all = tt
calls_on (c ∷ calls) sim l together rest all =
    let one : GoesOn c sim l = call_on c sim l together rest all.0 in
    (one.alike, calls_on calls (served sim c).sim (made_by c l) one.together one.rest all.1)

pub calls_and_permits_alike : CallsAndPermitsAreAnsweredAlike
calls_and_permits_alike sim l calls together rest all = calls_on calls sim l together rest all
