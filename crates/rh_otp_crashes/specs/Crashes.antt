-- Crashes of nodes that are at rest, and that every order of what comes of one ends alike.
use Rattle.std.specs.Prelude.{◌≡◌, ◌⊎◌, ◌<◌, ℕ, [], true, false, All, Some}
use Rattle.rh_model.specs.declared.node.Node.{Node}
use Rattle.rh_otp_model.specs.declared.message.Message.{Message}
use Rattle.rh_otp_model.specs.Own.{EntryView}
use Rattle.rh_otp_dist.specs.declared.state.Stand.TheVariants as stand
use Rattle.rh_otp_dist.specs.State.{DistView}
use Rattle.rh_otp_dist.specs.Waiting.{takes}
use Rattle.rh_otp_net.specs.declared.order.Order.{Order}
use Rattle.rh_otp_system.specs.Moves.{IsSettled, settled, is_settled_by}
use Rattle.rh_otp_system.specs.Resting.{crashed}
use Rattle.rh_otp_system.specs.State.{SystemView, node_at, own_at, is_alive_at}
use Rattle.rh_otp_laws.specs.Acting.{IsReached}
use Rattle.rh_otp_orders.specs.Confluence.{EveryOrderEndsAlike}
use Rattle.rh_otp_orders.specs.Orders.{AreAlike}

-- A dist_ac does nothing: it takes whatever comes, or waits until its node's kernel has seen the others, and there is nothing in its
-- mailbox that it takes. Nobody waits at it for a permission, and no start request for a lock.
pub record IsUnoccupied (d : DistView) : Type 0 where
  pub stand : (d.stand ≡ stand.Idle) ⊎ (d.stand ≡ stand.ForGo)
  pub mail : All (λ (m : Message). takes d.stand m ≡ false) d.mail
  pub permits : d.p_reqs ≡ []
  pub parked : d.parked ≡ []

-- Nothing can move, no call is open, and no dist_ac of a node that is alive stands in the middle of something.
pub record AreAtRest (s : SystemView) : Type 0 where
  pub settled : IsSettled s
  pub calls : s.calls ≡ []
  pub dists : (n : Node) (d : DistView) → is_alive_at s n ≡ true → (node_at s n).dist ≡ Some d → IsUnoccupied d

-- an application that is lost is started elsewhere after some time, and not at once (kernel(6), `distributed`)
abbrev pub FailOverLater : SystemView → Type 0
FailOverLater s = (n : Node) → All (λ (e : EntryView). 0 < e.timeout) (own_at s n).entries

-- A crash of a node, whichever it is, comes to the same in every order, and so by every order that `settle` is told.
abbrev pub CrashesEndAlike : Type 0
CrashesEndAlike = (s : SystemView) (n : Node) → IsReached s → AreAtRest s → FailOverLater s
    → EveryOrderEndsAlike (crashed n s)
    × ((most : ℕ) (one other : Order) → is_settled_by most one (crashed n s) ≡ true → is_settled_by most other (crashed n s) ≡ true
    → AreAlike (settled most one (crashed n s)) (settled most other (crashed n s)))
