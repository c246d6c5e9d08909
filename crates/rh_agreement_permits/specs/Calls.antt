-- Lists of calls of any applications, permissions among them, that `run` and `run --rules otp25` answer alike where both are at rest
-- (ours).
use Rattle.std.specs.Prelude.{◌≡◌, ◌⊎◌, List, [], ◌∷◌, true, false}
use Rattle.rh_rules.specs.declared.event.Event.{Event}
use Rattle.rh_rules.specs.declared.event.Event.TheVariants as event
use Rattle.rh_calls.specs.declared.call.Call.{Call}
use Rattle.rh_calls.specs.declared.call.Call.TheVariants as call
use Rattle.rh_trail.specs.Lone.{served}
use Rattle.rh_trail.specs.SimView.{SimView, state_of}
use Rattle.rh_otp_sim.specs.Calls.{made_by}
use Rattle.rh_otp_sim.specs.Sim.{LiveSimView}
use Rattle.rh_agreement.specs.Telling.{GoTogether}
use Rattle.rh_agreement.specs.Laws.{HasRoom}
use Rattle.rh_agreement.specs.Resting.{AreAlwaysAtRest, AreAnsweredAlike}
use Rattle.rh_agreement_spread.specs.Calls.{IsOfAnyOrCalm}
use Rattle.rh_agreement_permits.specs.Elsewhere.{FindsElsewhereLive}
use Rattle.rh_agreement_permits.specs.Permits.{ChangesNoMore, NotesAloneLive}
use Rattle.rh_agreement_permits.specs.Stops.{CanRunThereAlone, StopsThereLive}

-- a permission as in these laws
abbrev pub IsOfPermits : Event → SimView → LiveSimView → Type 0
IsOfPermits (event.Permit n a allow) sim live =
    (ChangesNoMore (state_of sim) n a allow × NotesAloneLive live n a allow)
    ⊎ ((allow ≡ true) × ChangesNoMore (state_of sim) n a true × FindsElsewhereLive live n a)
    ⊎ ((allow ≡ false) × CanRunThereAlone (state_of sim) n a × StopsThereLive live n a)
IsOfPermits e sim live = ⊥

-- or another call of any application, or a calm one
abbrev pub IsPermitOrOther : Call → SimView → LiveSimView → Type 0
IsPermitOrOther (call.Step e) sim live = (HasRoom sim live × IsOfPermits e sim live) ⊎ IsOfAnyOrCalm (call.Step e) sim live
IsPermitOrOther c sim live = IsOfAnyOrCalm c sim live

-- each is, where it has its turn
abbrev pub AreAllPermitOrOther : List Call → SimView → LiveSimView → Type 0
AreAllPermitOrOther [] sim live = Unit {0}
AreAllPermitOrOther (c ∷ calls) sim live =
    IsPermitOrOther c sim live × AreAllPermitOrOther calls (served sim c).sim (made_by c live)

-- From where both are at rest, now and behind each number of steps, however many of them come one after the other are answered alike.
abbrev pub CallsAndPermitsAreAnsweredAlike : Type 0
CallsAndPermitsAreAnsweredAlike = (sim : SimView) (live : LiveSimView) (calls : List Call) → GoTogether sim live
    → AreAlwaysAtRest sim live → AreAllPermitOrOther calls sim live → AreAnsweredAlike calls sim live
