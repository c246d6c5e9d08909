-- A node's wait for others ends by its time before the node has seen one that it must have: the node ends, and every order of what comes of
-- that ends alike (kernel(6), `sync_nodes_timeout`, `sync_nodes_mandatory`).
use Rattle.std.specs.Prelude.{◌≡◌, ◌≢◌, ◌++◌, ℕ, [], ◌∷◌, true, false, Some}
use Rattle.rh_model.specs.declared.node.Node.{Node}
use Rattle.rh_otp_model.specs.declared.message.Message.TheVariants as message
use Rattle.rh_otp_model.specs.declared.output.Event.TheVariants as event
use Rattle.rh_otp_model.specs.declared.process.Role.TheVariants as role
use Rattle.rh_otp_net.specs.declared.order.Order.{Order}
use Rattle.rh_otp_net.specs.Timers.{next_due, fired}
use Rattle.rh_otp_system.specs.Doing.{fired_next}
use Rattle.rh_otp_system.specs.Joining.{lacks_mandatory}
use Rattle.rh_otp_system.specs.Moves.{Reaches, IsSettled, settled, is_settled_by}
use Rattle.rh_otp_system.specs.State.{SystemView, node_at, is_alive_at, is_up_at, process_in}
use Rattle.rh_otp_laws.specs.Acting.{IsReached}
use Rattle.rh_otp_orders.specs.Confluence.{EveryOrderEndsAlike}
use Rattle.rh_otp_orders.specs.Orders.{AreAlike}
use Rattle.rh_otp_crashes.specs.Crashes.{AreAtRest, FailOverLater}

-- The timer that is due next is the end of the wait of this node, alone. The node waits still, and hasn't yet seen, in this life, one of
-- those that it must have (kernel(6), `sync_nodes_timeout`, `sync_nodes_mandatory`). One that it has seen counts as there, also where it is
-- gone again.
pub record WaitEnds (n : Node) (s : SystemView) : Type 0 where
  pub due : ℕ
  pub step : ℕ
  pub next : next_due s.timers ≡ Some (due, step)
  pub alone : fired s.timers
      ≡ record { due = due; step = step; to = process_in s n role.KernelConfig; message = message.Timeout } ∷ []
  pub alive : is_alive_at s n ≡ true
  pub waits : is_up_at s n ≡ false
  pub lacks : lacks_mandatory n s ≡ true

-- It comes to the same in every order, and so by every order that `settle` is told.
abbrev pub WaitsThatEndNodesEndAlike : Type 0
WaitsThatEndNodesEndAlike = (s : SystemView) (n : Node) → IsReached s → AreAtRest s → FailOverLater s → (ends : WaitEnds n s)
    → EveryOrderEndsAlike (fired_next ends.due s)
    × ((most : ℕ) (one other : Order) → is_settled_by most one (fired_next ends.due s) ≡ true
    → is_settled_by most other (fired_next ends.due s) ≡ true
    → AreAlike (settled most one (fired_next ends.due s)) (settled most other (fired_next ends.due s)))

-- The node is down, and of its end alone an observer was told. Of each other node the phase is as it was, and of each the life; of their
-- dist_acs, of connections and of timers this says nothing. The clock stands at that moment, and live nodes are at rest again.
pub record HasEnded (n : Node) (s : SystemView) (due : ℕ) (t : SystemView) : Type 0 where
  pub down : is_alive_at t n ≡ false
  pub told : t.events ≡ s.events ++ event.Ended n ∷ []
  pub others : (k : Node) → k.0 ≢ n.0 → (node_at t k).phase ≡ (node_at s k).phase
  pub lives : (k : Node) → (node_at t k).life ≡ (node_at s k).life
  pub cluster : t.cluster ≡ s.cluster
  pub files : t.files ≡ s.files
  pub clock : t.clock ≡ due
  pub rest : AreAtRest t

-- So it is wherever it comes to rest, in whatever order.
abbrev pub WaitsThatEndNodesDoNoMore : Type 0
WaitsThatEndNodesDoNoMore = (s : SystemView) (n : Node) → IsReached s → AreAtRest s → FailOverLater s → (ends : WaitEnds n s)
    → (t : SystemView) → Reaches (fired_next ends.due s) t → IsSettled t → HasEnded n s ends.due t
