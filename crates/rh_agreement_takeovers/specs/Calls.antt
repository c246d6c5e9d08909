-- Lists of calls, takeovers among them, that `run` and `run --rules otp25` answer alike where both are at rest (ours).
use Rattle.std.specs.Prelude.{◌⊎◌, List, [], ◌∷◌}
use Rattle.rh_model.specs.declared.node.Node.{Node}
use Rattle.rh_rules.specs.declared.event.Event.{Event}
use Rattle.rh_rules.specs.declared.event.Event.TheVariants as event
use Rattle.rh_calls.specs.declared.call.Call.{Call}
use Rattle.rh_calls.specs.declared.call.Call.TheVariants as call
use Rattle.rh_trail.specs.Lone.{served}
use Rattle.rh_trail.specs.SimView.{SimView, state_of}
use Rattle.rh_otp_sim.specs.Calls.{made_by}
use Rattle.rh_otp_sim.specs.Sim.{LiveSimView}
use Rattle.rh_agreement.specs.Telling.{GoTogether}
use Rattle.rh_agreement.specs.Laws.{HasRoom}
use Rattle.rh_agreement.specs.Resting.{AreAlwaysAtRest, AreAnsweredAlike}
use Rattle.rh_agreement_spread.specs.Calls.{IsOfAnyOrCalm}
use Rattle.rh_agreement_takeovers.specs.Takeovers.{CanBeTakenOver, CanBeTakenOverLive}

-- a takeover as in `TakeoversAreAnsweredAlike`, from some node
abbrev pub IsTakeover : Event → SimView → LiveSimView → Type 0
IsTakeover (event.Takeover n a restart) sim live = (at : Node) × CanBeTakenOver (state_of sim) n at a × CanBeTakenOverLive live n at a
IsTakeover e sim live = ⊥

-- or one of the calls of `rh_agreement_spread`: a stop, an exit or a start, a crash, a tick, or a step back or forth
abbrev pub IsTakeoverOrOfAny : Call → SimView → LiveSimView → Type 0
IsTakeoverOrOfAny (call.Step e) sim live = (HasRoom sim live × IsTakeover e sim live) ⊎ IsOfAnyOrCalm (call.Step e) sim live
IsTakeoverOrOfAny c sim live = IsOfAnyOrCalm c sim live

-- each is, where it has its turn
abbrev pub AreAllTakeoversOrOfAny : List Call → SimView → LiveSimView → Type 0
AreAllTakeoversOrOfAny [] sim live = Unit {0}
AreAllTakeoversOrOfAny (c ∷ calls) sim live =
    IsTakeoverOrOfAny c sim live × AreAllTakeoversOrOfAny calls (served sim c).sim (made_by c live)

-- From where both are at rest, now and behind each number of steps, however many of them come one after the other are answered alike.
abbrev pub CallsAndTakeoversAreAnsweredAlike : Type 0
CallsAndTakeoversAreAnsweredAlike = (sim : SimView) (live : LiveSimView) (calls : List Call) → GoTogether sim live
    → AreAlwaysAtRest sim live → AreAllTakeoversOrOfAny calls sim live → AreAnsweredAlike calls sim live
