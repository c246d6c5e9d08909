-- Calls of an operator that end an application where live nodes are at rest, and that every order of what comes of one ends alike.
use Rattle.std.specs.Prelude.{◌≡◌, ◌&&◌, ℕ, [], Bool, true, false, Some}
use Rattle.rh_model.specs.declared.node.App.{App}
use Rattle.rh_model.specs.declared.node.Node.{Node}
use Rattle.rh_otp_model.specs.Own.{controls}
use Rattle.rh_otp_model.specs.Rows.{keyfind}
use Rattle.rh_otp_controller.specs.Calls.{is_here, ends_with}
use Rattle.rh_otp_controller.specs.State.{ControllerView}
use Rattle.rh_otp_dist.specs.State.{DistView}
use Rattle.rh_otp_net.specs.declared.order.Order.{Order}
use Rattle.rh_otp_system.specs.declared.calls.Ask.TheVariants as ask
use Rattle.rh_otp_system.specs.Doing.{called}
use Rattle.rh_otp_system.specs.Moves.{settled, is_settled_by}
use Rattle.rh_otp_system.specs.State.{SystemView, node_at, own_at}
use Rattle.rh_otp_laws.specs.Acting.{IsReached}
use Rattle.rh_otp_orders.specs.Confluence.{EveryOrderEndsAlike}
use Rattle.rh_otp_orders.specs.Orders.{AreAlike}
use Rattle.rh_otp_crashes.specs.Crashes.{AreAtRest}
use Rattle.rh_otp_crashes.specs.Failovers.{SeesAll}

-- Nobody waits at the node's dist_ac for a takeover, or for the end of an application, and the node sees all those that are alive and of
-- which its dist_ac knows.
pub record CanTell (n : Node) (s : SystemView) : Type 0 where
  pub sees_all : SeesAll n s
  pub ends : (d : DistView) → (node_at s n).dist ≡ Some d → d.s_reqs ≡ []

-- Where the application is one of the node's own `distributed`, its dist_ac can tell the others of its end.
pub record CanEnd (n : Node) (a : App) (s : SystemView) : Type 0 where
  pub tells : controls (own_at s n) a ≡ true → CanTell n s

-- The end of an application keeps the node, by its restart type and by how it ends (application(3)); or the application doesn't run there.
abbrev pub KeepsNode : App → Bool → ControllerView → Type 0
KeepsNode a is_normal c = (is_here (keyfind a c.running) && ends_with (keyfind a c.started) is_normal) ≡ false

-- What comes of it ends alike in every order, and so by every order that `settle` is told.
abbrev pub EndsAlike : SystemView → Type 0
EndsAlike s = EveryOrderEndsAlike s
    × ((most : ℕ) (one other : Order) → is_settled_by most one s ≡ true → is_settled_by most other s ≡ true
    → AreAlike (settled most one s) (settled most other s))

-- A stop ends alike, wherever the application runs, if it does, and whether it is distributed.
abbrev pub StopsEndAlike : Type 0
StopsEndAlike = (s : SystemView) (n : Node) (a : App) → IsReached s → AreAtRest s → CanEnd n a s → EndsAlike (called ask.Stop n a s)

-- The end of an application's top process ends alike, where that keeps the node.
abbrev pub ExitsEndAlike : Type 0
ExitsEndAlike = (s : SystemView) (n : Node) (a : App) (is_normal : Bool) → IsReached s → AreAtRest s → CanEnd n a s
    → KeepsNode a is_normal (node_at s n).controller → EndsAlike (called (ask.Exit is_normal) n a s)

-- A call that forbids an application, at a node whose own `distributed` hasn't got it, ends alike: there it stops, if it runs there.
abbrev pub ForbidsEndAlike : Type 0
ForbidsEndAlike = (s : SystemView) (n : Node) (a : App) → IsReached s → AreAtRest s → controls (own_at s n) a ≡ false
    → EndsAlike (called (ask.Permit false) n a s)
