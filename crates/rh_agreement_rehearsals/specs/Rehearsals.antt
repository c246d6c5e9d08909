-- Whole rehearsals that `run` and `run --rules otp25` answer alike: of the calls of the laws of agreement at rest, but takeovers that both refuse
-- (ours).
use Rattle.std.specs.Prelude.{◌⊎◌, List, [], ◌∷◌}
use Rattle.rh_model.specs.ClusterView.{ClusterView, IsWithin}
use Rattle.rh_rules.specs.declared.event.Event.{Event}
use Rattle.rh_rules.specs.declared.event.Event.TheVariants as event
use Rattle.rh_rules.specs.declared.pick.Pick.{Pick}
use Rattle.rh_calls.specs.declared.call.Call.{Call}
use Rattle.rh_calls.specs.declared.call.Call.TheVariants as call
use Rattle.rh_trail.specs.Lone.{opened, served}
use Rattle.rh_trail.specs.SimView.{SimView}
use Rattle.rh_otp_model.specs.declared.wait.OwnFile.{OwnFile}
use Rattle.rh_otp_net.specs.declared.order.Order.{Order}
use Rattle.rh_otp_sim.specs.Calls.{made_by}
use Rattle.rh_otp_sim.specs.Sim.{LiveSimView}
use Rattle.rh_otp_sim.specs.Sim.{opened as live_opened}
use Rattle.rh_otp_crashes.specs.Crashes.{FailOverLater}
use Rattle.rh_agreement.specs.Telling.{GoTogether}
use Rattle.rh_agreement.specs.Laws.{HasRoom}
use Rattle.rh_agreement.specs.Resting.{AreAlwaysAtRest, AreAnsweredAlike, held}
use Rattle.rh_agreement_boots.specs.Boots.{BeginsToWait}
use Rattle.rh_agreement_boots.specs.Waiting.{BeginsAndWaitsOn}
use Rattle.rh_agreement_failovers.specs.Failovers.{IsAFailover}
use Rattle.rh_agreement_grants.specs.Calls.{IsOfGrants}
use Rattle.rh_agreement_permits.specs.Calls.{IsOfPermits}
use Rattle.rh_agreement_spread.specs.Calls.{IsOfAnyOrCalm}
use Rattle.rh_agreement_takeovers.specs.Calls.{IsTakeover}
use Rattle.rh_agreement_ticks.specs.Passing.{IsATickThroughMoments}

-- a boot of the first node, where it waits, or of a node that waits on
abbrev pub IsBoot : Event → SimView → LiveSimView → Type 0
IsBoot (event.Boot n) sim live = BeginsToWait n sim live ⊎ BeginsAndWaitsOn n sim live
IsBoot e sim live = ⊥

-- such a boot, a takeover, a permission, a failover, or a tick through several moments
abbrev pub IsAgreed : Event → SimView → LiveSimView → Type 0
IsAgreed e sim live = IsBoot e sim live ⊎ IsTakeover e sim live ⊎ IsOfPermits e sim live ⊎ IsOfGrants e sim live ⊎ IsAFailover e sim live
    ⊎ IsATickThroughMoments e sim live

-- or one of the calls of `rh_agreement_spread`: a stop, an exit or a start, a forbid of an application that isn't distributed, a crash, a
-- tick, or a step back or forth
abbrev pub IsAgreedCall : Call → SimView → LiveSimView → Type 0
IsAgreedCall (call.Step e) sim live = (HasRoom sim live × IsAgreed e sim live) ⊎ IsOfAnyOrCalm (call.Step e) sim live
IsAgreedCall c sim live = IsOfAnyOrCalm c sim live

-- each is, where it has its turn
abbrev pub AreAllAgreed : List Call → SimView → LiveSimView → Type 0
AreAllAgreed [] sim live = Unit {0}
AreAllAgreed (c ∷ calls) sim live = IsAgreedCall c sim live × AreAllAgreed calls (served sim c).sim (made_by c live)

-- From where both are at rest, now and behind each number of steps, however many of them come one after the other are answered alike.
abbrev pub AgreedCallsAreAnsweredAlike : Type 0
AgreedCallsAreAnsweredAlike = (sim : SimView) (live : LiveSimView) (calls : List Call) → GoTogether sim live → AreAlwaysAtRest sim live
    → AreAllAgreed calls sim live → AreAnsweredAlike calls sim live

-- So from where no node has begun: of a cluster that a file says, where no node's own `distributed` has a timeout of 0. No node comes up in
-- that.
abbrev pub AgreedRehearsalsAreAnsweredAlike : Type 0
AgreedRehearsalsAreAnsweredAlike = (c : ClusterView) (pick : Pick) (files : List OwnFile) (order : Order) (calls : List Call) → IsWithin c
    → FailOverLater (held (live_opened c files order)) → AreAllAgreed calls (opened c pick) (live_opened c files order)
    → AreAnsweredAlike calls (opened c pick) (live_opened c files order)
