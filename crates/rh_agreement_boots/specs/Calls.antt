-- Lists of boots, crashes, ticks, and steps back and forth that `run` and `run --rules otp25` answer alike where both are at rest (ours).
use Rattle.std.specs.Prelude.{◌⊎◌, List, [], ◌∷◌}
use Rattle.rh_rules.specs.declared.event.Event.TheVariants as event
use Rattle.rh_calls.specs.declared.call.Call.{Call}
use Rattle.rh_calls.specs.declared.call.Call.TheVariants as call
use Rattle.rh_trail.specs.Lone.{served}
use Rattle.rh_trail.specs.SimView.{SimView}
use Rattle.rh_otp_sim.specs.Calls.{made_by}
use Rattle.rh_otp_sim.specs.Sim.{LiveSimView}
use Rattle.rh_agreement.specs.Laws.{HasRoom}
use Rattle.rh_agreement.specs.Resting.{AreAlwaysAtRest, AreAnsweredAlike, IsPeacefulCall}
use Rattle.rh_agreement.specs.Telling.{GoTogether}
use Rattle.rh_agreement_boots.specs.Boots.{BeginsToWait}
use Rattle.rh_agreement_boots.specs.Waiting.{BeginsAndWaitsOn}

-- a boot of the first node, where it waits, or of a node that waits on; or a peaceful call
abbrev pub IsBootOrPeaceful : Call → SimView → LiveSimView → Type 0
IsBootOrPeaceful (call.Step (event.Boot n)) sim live = HasRoom sim live × (BeginsToWait n sim live ⊎ BeginsAndWaitsOn n sim live)
IsBootOrPeaceful c sim live = IsPeacefulCall c sim live

-- each is, where it has its turn
abbrev pub AreBootsOrPeaceful : List Call → SimView → LiveSimView → Type 0
AreBootsOrPeaceful [] sim live = Unit {0}
AreBootsOrPeaceful (c ∷ calls) sim live = IsBootOrPeaceful c sim live × AreBootsOrPeaceful calls (served sim c).sim (made_by c live)

-- From where both are at rest, now and behind each number of steps, as where no node has begun, however many of them come one after the
-- other are answered alike.
abbrev pub BootsAndPeacefulCallsAreAnsweredAlike : Type 0
BootsAndPeacefulCallsAreAnsweredAlike = (sim : SimView) (live : LiveSimView) (calls : List Call) → GoTogether sim live
    → AreAlwaysAtRest sim live → AreBootsOrPeaceful calls sim live → AreAnsweredAlike calls sim live
