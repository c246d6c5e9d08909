-- Calls of an operator that start an application, or end its node, where live nodes are at rest, and that every order of what comes of one
-- ends alike.
use Rattle.std.specs.Prelude.{◌≡◌, Bool, true, false}
use Rattle.rh_model.specs.declared.node.App.{App}
use Rattle.rh_model.specs.declared.node.Node.{Node}
use Rattle.rh_model.specs.declared.settings.Restart.{Restart}
use Rattle.rh_otp_model.specs.Own.{controls}
use Rattle.rh_otp_model.specs.Rows.{has_row}
use Rattle.rh_otp_system.specs.declared.calls.Ask.TheVariants as ask
use Rattle.rh_otp_system.specs.Doing.{called}
use Rattle.rh_otp_system.specs.State.{SystemView, node_at, own_at}
use Rattle.rh_otp_laws.specs.Acting.{IsReached}
use Rattle.rh_otp_crashes.specs.Crashes.{AreAtRest, FailOverLater}
use Rattle.rh_otp_stops.specs.Stops.{CanEnd, EndsAlike}

-- The command doesn't wait for nodes that end by themselves, some time later (ours; only boots and exits do).
abbrev pub IsOverBefore : SystemView → Type 0
IsOverBefore s = s.ends_soon ≡ false

-- A start of an application that the node's own `distributed` hasn't got ends alike: where it is started, where it is refused, where its
-- start fails, which may end the node, and where it waits since it is forbidden (application(3), start/2).
abbrev pub StartsEndAlike : Type 0
StartsEndAlike = (s : SystemView) (n : Node) (a : App) (restart : Restart) → IsReached s → AreAtRest s → IsOverBefore s
    → controls (own_at s n) a ≡ false → EndsAlike (called (ask.Start restart) n a s)

-- A call that permits such an application ends alike, whether it starts it or not (application(3), permit/2). Nobody waits there for its
-- start.
abbrev pub PermitsEndAlike : Type 0
PermitsEndAlike = (s : SystemView) (n : Node) (a : App) → IsReached s → AreAtRest s → IsOverBefore s
    → controls (own_at s n) a ≡ false → has_row a (node_at s n).controller.start_req ≡ false → EndsAlike (called (ask.Permit true) n a s)

-- The end of an application's top process ends alike, of any application, whether it ends its node or not, by the restart type
-- (application(3), application:start/2). An application that is lost with the node is started elsewhere after some time.
abbrev pub FatalExitsEndAlike : Type 0
FatalExitsEndAlike = (s : SystemView) (n : Node) (a : App) (is_normal : Bool) → IsReached s → AreAtRest s → CanEnd n a s
    → FailOverLater s → EndsAlike (called (ask.Exit is_normal) n a s)
