-- What goes one way to where a boot script begins, and that every order of what comes of it ends alike.
use Rattle.std.specs.Prelude.{◌≡◌, [], true}
use Rattle.rh_model.specs.declared.node.Node.{Node}
use Rattle.rh_otp_system.specs.Moves.{Delivers}
use Rattle.rh_otp_system.specs.State.{SystemView}
use Rattle.rh_otp_laws.specs.Acting.{IsReached}
use Rattle.rh_otp_crashes.specs.Crashes.{FailOverLater}
use Rattle.rh_otp_stops.specs.Stops.{EndsAlike}
use Rattle.rh_otp_scripts.specs.Scripts.{BootsAlone, CanBoot}

-- Moves one after the other lead from the one to the other, and whichever of several comes first each time, it leads to the same.
pub data GoesOneWay : SystemView → SystemView → Type 0 where
  here : (s : SystemView) → GoesOneWay s s
  behind_one : (s t u : SystemView) → Delivers s t → ((x : SystemView) → Delivers s x → x ≡ t) → GoesOneWay t u → GoesOneWay s u

-- So a boot ends alike that goes one way to where its script begins, and all else is at rest there. No answers of nodes to one another are
-- counted before it, as where a command settles.
abbrev pub BootsEndAlike : Type 0
BootsEndAlike = (s t : SystemView) (n : Node) → IsReached s → s.answers ≡ [] → GoesOneWay s t → BootsAlone n t → CanBoot n t
    → (t.ends_soon ≡ true → FailOverLater t) → EndsAlike s
