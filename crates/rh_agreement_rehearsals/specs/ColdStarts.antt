-- Whole rehearsals with a cold start in them, which `run` and `run --rules otp25` answer alike: the boot by which all nodes come up is
-- answered by the same lines, in some order, and each other call by the same text (ours).
use Rattle.std.specs.Prelude.{◌⊎◌, List, [], ◌∷◌}
use Rattle.rh_model.specs.ClusterView.{ClusterView, IsWithin}
use Rattle.rh_rules.specs.declared.event.Event.TheVariants as event
use Rattle.rh_rules.specs.declared.pick.Pick.{Pick}
use Rattle.rh_calls.specs.declared.call.Call.{Call}
use Rattle.rh_calls.specs.declared.call.Call.TheVariants as call
use Rattle.rh_trail.specs.Lone.{opened, served}
use Rattle.rh_trail.specs.SimView.{SimView}
use Rattle.rh_otp_model.specs.declared.wait.OwnFile.{OwnFile}
use Rattle.rh_otp_net.specs.declared.order.Order.{Order}
use Rattle.rh_otp_sim.specs.Calls.{made_by}
use Rattle.rh_otp_sim.specs.Sim.{LiveSimView}
use Rattle.rh_otp_sim.specs.Sim.{opened as live_opened}
use Rattle.rh_otp_crashes.specs.Crashes.{FailOverLater}
use Rattle.rh_agreement.specs.Telling.{GoTogether}
use Rattle.rh_agreement.specs.Laws.{IsAnsweredAlike, HasRoom}
use Rattle.rh_agreement.specs.Resting.{AreAlwaysAtRest, held}
use Rattle.rh_agreement_colds.specs.Colds.{IsAnsweredInSomeOrder, StartsCold}
use Rattle.rh_agreement_rehearsals.specs.Rehearsals.{IsAgreedCall}

-- the last boot of a cold start
abbrev pub IsColdBoot : Call → SimView → LiveSimView → Type 0
IsColdBoot (call.Step (event.Boot n)) sim live = HasRoom sim live × StartsCold n sim live
IsColdBoot c sim live = ⊥

-- each is one of the calls that are answered by the same text, or such a boot, where it has its turn
abbrev pub AreAgreedOrCold : List Call → SimView → LiveSimView → Type 0
AreAgreedOrCold [] sim live = Unit {0}
AreAgreedOrCold (c ∷ calls) sim live = (IsAgreedCall c sim live ⊎ IsColdBoot c sim live)
    × AreAgreedOrCold calls (served sim c).sim (made_by c live)

-- by the same text; a boot may be answered by the same lines, in some order
abbrev pub IsAnsweredUpToOrder : Call → SimView → LiveSimView → Type 0
IsAnsweredUpToOrder (call.Step (event.Boot n)) sim live = IsAnsweredAlike (call.Step (event.Boot n)) sim live
    ⊎ IsAnsweredInSomeOrder (call.Step (event.Boot n)) sim live
IsAnsweredUpToOrder c sim live = IsAnsweredAlike c sim live

-- each is answered so
abbrev pub AreAnsweredUpToOrder : List Call → SimView → LiveSimView → Type 0
AreAnsweredUpToOrder [] sim live = Unit {0}
AreAnsweredUpToOrder (c ∷ calls) sim live = IsAnsweredUpToOrder c sim live × AreAnsweredUpToOrder calls (served sim c).sim (made_by c live)

-- From where both are at rest, now and behind each number of steps, however many of them come one after the other are answered so.
abbrev pub ColdCallsAreAnsweredUpToOrder : Type 0
ColdCallsAreAnsweredUpToOrder = (sim : SimView) (live : LiveSimView) (calls : List Call) → GoTogether sim live → AreAlwaysAtRest sim live
    → AreAgreedOrCold calls sim live → AreAnsweredUpToOrder calls sim live

-- So from where no node has begun: of a cluster that a file says, where no node's own `distributed` has a timeout of 0.
abbrev pub ColdRehearsalsAreAnsweredUpToOrder : Type 0
ColdRehearsalsAreAnsweredUpToOrder = (c : ClusterView) (pick : Pick) (files : List OwnFile) (order : Order) (calls : List Call) → IsWithin c
    → FailOverLater (held (live_opened c files order)) → AreAgreedOrCold calls (opened c pick) (live_opened c files order)
    → AreAnsweredUpToOrder calls (opened c pick) (live_opened c files order)
