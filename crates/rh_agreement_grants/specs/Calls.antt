-- Lists of calls of any applications, permits by which they start or are called back among them, that `run` and `run --rules otp25` answer
-- alike where both are at rest (ours).
use Rattle.std.specs.Prelude.{◌≡◌, ◌⊎◌, List, [], ◌∷◌, true, Option}
use Rattle.rh_model.specs.declared.node.Node.{Node}
use Rattle.rh_rules.specs.declared.event.Event.{Event}
use Rattle.rh_rules.specs.declared.event.Event.TheVariants as event
use Rattle.rh_calls.specs.declared.call.Call.{Call}
use Rattle.rh_calls.specs.declared.call.Call.TheVariants as call
use Rattle.rh_trail.specs.Lone.{served}
use Rattle.rh_trail.specs.SimView.{SimView, state_of}
use Rattle.rh_otp_sim.specs.Calls.{made_by}
use Rattle.rh_otp_sim.specs.Sim.{LiveSimView}
use Rattle.rh_agreement.specs.Telling.{GoTogether}
use Rattle.rh_agreement.specs.Laws.{HasRoom}
use Rattle.rh_agreement.specs.Resting.{AreAlwaysAtRest, AreAnsweredAlike}
use Rattle.rh_agreement_permits.specs.Calls.{IsPermitOrOther}
use Rattle.rh_agreement_grants.specs.CallBacks.{IsCalledBack, IsCalledBackLive}
use Rattle.rh_agreement_grants.specs.Grants.{StartsOncePermitted, StartsOncePermittedLive}

-- a permit as in these laws
abbrev pub IsOfGrants : Event → SimView → LiveSimView → Type 0
IsOfGrants (event.Permit n a allow) sim live = (allow ≡ true)
    × ((((from : Option Node) × StartsOncePermitted (state_of sim) n a from) × StartsOncePermittedLive live n a)
    ⊎ ((at : Node) × IsCalledBack (state_of sim) n at a × IsCalledBackLive live n at a))
IsOfGrants e sim live = ⊥

-- or one of the calls of `rh_agreement_permits`
abbrev pub IsGrantOrOther : Call → SimView → LiveSimView → Type 0
IsGrantOrOther (call.Step e) sim live = (HasRoom sim live × IsOfGrants e sim live) ⊎ IsPermitOrOther (call.Step e) sim live
IsGrantOrOther c sim live = IsPermitOrOther c sim live

-- each is, where it has its turn
abbrev pub AreAllGrantOrOther : List Call → SimView → LiveSimView → Type 0
AreAllGrantOrOther [] sim live = Unit {0}
AreAllGrantOrOther (c ∷ calls) sim live = IsGrantOrOther c sim live × AreAllGrantOrOther calls (served sim c).sim (made_by c live)

-- From where both are at rest, now and behind each number of steps, however many of them come one after the other are answered alike.
abbrev pub CallsAndGrantsAreAnsweredAlike : Type 0
CallsAndGrantsAreAnsweredAlike = (sim : SimView) (live : LiveSimView) (calls : List Call) → GoTogether sim live
    → AreAlwaysAtRest sim live → AreAllGrantOrOther calls sim live → AreAnsweredAlike calls sim live
