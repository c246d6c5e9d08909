-- Lists of calls of any applications that `run` and `run --rules otp25` answer alike where both are at rest (ours).
use Rattle.std.specs.Prelude.{◌⊎◌, List, [], ◌∷◌}
use Rattle.rh_rules.specs.declared.event.Event.{Event}
use Rattle.rh_rules.specs.declared.event.Event.TheVariants as event
use Rattle.rh_calls.specs.declared.call.Call.{Call}
use Rattle.rh_calls.specs.declared.call.Call.TheVariants as call
use Rattle.rh_trail.specs.Lone.{served}
use Rattle.rh_trail.specs.SimView.{SimView, state_of}
use Rattle.rh_otp_sim.specs.Calls.{made_by}
use Rattle.rh_otp_sim.specs.Sim.{LiveSimView}
use Rattle.rh_agreement.specs.Telling.{GoTogether}
use Rattle.rh_agreement.specs.Laws.{HasRoom}
use Rattle.rh_agreement.specs.Resting.{AreAlwaysAtRest, AreAnsweredAlike}
use Rattle.rh_agreement_calls.specs.Calm.{IsCalmCall}
use Rattle.rh_agreement_calls.specs.Stops.{KeepsNodes}
use Rattle.rh_agreement_spread.specs.Starts.{CanBePlaced, CanBePlacedLive}
use Rattle.rh_agreement_spread.specs.Stops.{RunsOnBoth, WaitsOnBoth}
use Rattle.rh_agreement_spread.specs.Waits.{CanWait, CanWaitLive}

-- a stop, an exit or a start as in these laws
abbrev pub IsOfAny : Event → SimView → LiveSimView → Type 0
IsOfAny (event.Stop n a) sim live = RunsOnBoth n a sim live ⊎ WaitsOnBoth n a sim live
IsOfAny (event.Exit n a normal) sim live = RunsOnBoth n a sim live × KeepsNodes n a normal sim live
IsOfAny (event.Start n a restart) sim live =
    (CanBePlaced (state_of sim) n a × CanBePlacedLive live n a) ⊎ (CanWait (state_of sim) n a × CanWaitLive live n a)
IsOfAny e sim live = ⊥

-- or a calm call: of an application that isn't distributed, a crash, a tick, or a step back or forth
abbrev pub IsOfAnyOrCalm : Call → SimView → LiveSimView → Type 0
IsOfAnyOrCalm (call.Step e) sim live = (HasRoom sim live × IsOfAny e sim live) ⊎ IsCalmCall (call.Step e) sim live
IsOfAnyOrCalm c sim live = IsCalmCall c sim live

-- each is, where it has its turn
abbrev pub AreAllOfAnyOrCalm : List Call → SimView → LiveSimView → Type 0
AreAllOfAnyOrCalm [] sim live = Unit {0}
AreAllOfAnyOrCalm (c ∷ calls) sim live = IsOfAnyOrCalm c sim live × AreAllOfAnyOrCalm calls (served sim c).sim (made_by c live)

-- From where both are at rest, now and behind each number of steps, however many of them come one after the other are answered alike.
abbrev pub CallsOfAnyAreAnsweredAlike : Type 0
CallsOfAnyAreAnsweredAlike = (sim : SimView) (live : LiveSimView) (calls : List Call) → GoTogether sim live → AreAlwaysAtRest sim live
    → AreAllOfAnyOrCalm calls sim live → AreAnsweredAlike calls sim live
