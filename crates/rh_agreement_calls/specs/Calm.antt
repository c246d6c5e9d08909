-- Lists of calls that `run` and `run --rules otp25` answer alike where both are at rest (ours).
use Rattle.std.specs.Prelude.{◌≡◌, List, [], ◌∷◌, true, false}
use Rattle.rh_rules.specs.declared.event.Event.{Event}
use Rattle.rh_rules.specs.declared.event.Event.TheVariants as event
use Rattle.rh_calls.specs.declared.call.Call.{Call}
use Rattle.rh_calls.specs.declared.call.Call.TheVariants as call
use Rattle.rh_state.specs.StateView.{is_allowed}
use Rattle.rh_trail.specs.Lone.{served}
use Rattle.rh_trail.specs.SimView.{SimView, state_of}
use Rattle.rh_otp_sim.specs.Calls.{made_by}
use Rattle.rh_otp_sim.specs.Sim.{LiveSimView}
use Rattle.rh_agreement.specs.Telling.{GoTogether}
use Rattle.rh_agreement.specs.Laws.{HasRoom, is_reversal}
use Rattle.rh_agreement.specs.Resting.{AreAlwaysAtRest, AreAnsweredAlike, IsPeaceful}
use Rattle.rh_agreement_calls.specs.Stops.{RunsAlone, KeepsNodes}
use Rattle.rh_agreement_calls.specs.Starts.{CanStart, CanStartLive}

-- one of the calls of these laws, or a crash or a tick of nodes at rest
abbrev pub IsCalm : Event → SimView → LiveSimView → Type 0
IsCalm (event.Stop n a) sim live = RunsAlone n a sim live
IsCalm (event.Permit n a false) sim live = RunsAlone n a sim live × (is_allowed (state_of sim) n a ≡ true)
IsCalm (event.Exit n a normal) sim live = RunsAlone n a sim live × KeepsNodes n a normal sim live
IsCalm (event.Start n a restart) sim live = CanStart (state_of sim) n a × CanStartLive live n a
IsCalm e sim live = IsPeaceful e sim live

-- or `undo`, `redo`, `undo_all`, `redo_all`
abbrev pub IsCalmCall : Call → SimView → LiveSimView → Type 0
IsCalmCall (call.Step e) sim live = HasRoom sim live × IsCalm e sim live
IsCalmCall c sim live = is_reversal c ≡ true

-- each is, where it has its turn
abbrev pub AreAllCalm : List Call → SimView → LiveSimView → Type 0
AreAllCalm [] sim live = Unit {0}
AreAllCalm (c ∷ calls) sim live = IsCalmCall c sim live × AreAllCalm calls (served sim c).sim (made_by c live)

-- From where both are at rest, now and behind each number of steps, however many of them come one after the other are answered alike.
abbrev pub CalmCallsAreAnsweredAlike : Type 0
CalmCallsAreAnsweredAlike = (sim : SimView) (live : LiveSimView) (calls : List Call) → GoTogether sim live → AreAlwaysAtRest sim live
    → AreAllCalm calls sim live → AreAnsweredAlike calls sim live
