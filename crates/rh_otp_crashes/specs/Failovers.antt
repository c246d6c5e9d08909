-- An application that was lost and is started at the first node that may run it, while others wait for that, and that every order of what
-- comes of it ends alike.
use Rattle.std.specs.Prelude.{◌≡◌, ◌≢◌, ◌⊎◌, ◌≤◌, ◌==◌, ◌&&◌, ◌||◌, ℕ, [], ◌∷◌, List, filter, length, map, Bool, true, false, Option, Some, None, if◌then◌else◌}
use Rattle.rh_model.specs.ClusterView.{ClusterView}
use Rattle.rh_model.specs.declared.node.App.{App}
use Rattle.rh_model.specs.declared.node.Node.{Node}
use Rattle.rh_otp_model.specs.declared.message.Message.TheVariants as message
use Rattle.rh_otp_model.specs.declared.process.Role.TheVariants as role
use Rattle.rh_otp_model.specs.Own.{OwnView, WrittenView, controls}
use Rattle.rh_otp_controller.specs.Starting.{lacks_running}
use Rattle.rh_otp_dist.specs.declared.attempt.AskedBy.TheVariants as asked
use Rattle.rh_otp_dist.specs.declared.state.Stand.TheVariants as stand
use Rattle.rh_otp_dist.specs.declared.state.Standing.{Standing}
use Rattle.rh_otp_dist.specs.declared.state.Standing.TheVariants as standing
use Rattle.rh_otp_dist.specs.Attempts.{has_app, without_told}
use Rattle.rh_otp_dist.specs.Choosing.{places_of, candidates_of, remote}
use Rattle.rh_otp_dist.specs.State.{DistView, standing_of, permitted, is_among}
use Rattle.rh_otp_dist.specs.Views.{AttemptView}
use Rattle.rh_otp_net.specs.declared.order.Order.{Order}
use Rattle.rh_otp_net.specs.declared.timers.Timer.{Timer}
use Rattle.rh_otp_net.specs.Links.{are_linked}
use Rattle.rh_otp_net.specs.Timers.{next_due, fired}
use Rattle.rh_otp_node.specs.Live.{LiveView}
use Rattle.rh_otp_node.specs.Turns.{controller_turn}
use Rattle.rh_otp_system.specs.Doing.{fired_next}
use Rattle.rh_otp_system.specs.Moves.{settled, is_settled_by}
use Rattle.rh_otp_system.specs.State.{SystemView, node_at, own_at, is_alive_at, process_in}
use Rattle.rh_otp_laws.specs.Acting.{IsReached}
use Rattle.rh_otp_orders.specs.Confluence.{EveryOrderEndsAlike}
use Rattle.rh_otp_orders.specs.Orders.{AreAlike}
use Rattle.rh_otp_crashes.specs.Crashes.{AreAtRest}

-- ---- which node is to start it

-- the first of the nodes at a place that may run it, else the first behind them
abbrev pub first_alone : List Node → List Node → Option Node → Option Node
first_alone candidates [] behind = behind
first_alone candidates (n ∷ nodes) behind = if is_among n candidates then Some n else behind

-- the first node of a list that may run it; a tuple has none: there the weights decide
abbrev pub first_of : List Node → List WrittenView → Option Node
first_of candidates [] = None
first_of candidates (w ∷ places) = if w.is_tuple then None else first_alone candidates w.nodes (first_of candidates places)

-- the start of an application that was lost, with the nodes that may run it
abbrev pub lost_attempt : DistView → App → AttemptView
lost_attempt d a = record { app = a; asked_by = asked.Nobody; permitted = permitted d a; permit = None }

-- The application was lost, and the node's dist_ac, which takes whatever comes, finds its own node to be the first of the list that may run
-- it. It knows of nobody that runs it.
pub record IsFirst (own : OwnView) (n : Node) (a : App) (v : LiveView) : Type 0 where
  pub dist : DistView
  pub has : v.dist ≡ Some dist
  pub takes_all : dist.stand ≡ stand.Idle
  pub gone : Node
  pub lost : standing_of dist a ≡ standing.Failover gone
  pub first : first_of (candidates_of own (lost_attempt dist a)) (places_of own a) ≡ Some n
  pub unknown : remote dist a ≡ None

-- ---- that it can

-- What the application needs runs there, and nobody waits for a start.
pub record IsAble (c : ClusterView) (own : OwnView) (n : Node) (a : App) (v : LiveView) : Type 0 where
  pub needs : lacks_running (controller_turn c own n v) a ≡ None
  pub requests : v.controller.start_req ≡ []

-- Nobody waits for a takeover, and the node sees all those that are alive and of which its dist_ac knows.
pub record SeesAll (n : Node) (s : SystemView) : Type 0 where
  pub takeovers : (d : DistView) → (node_at s n).dist ≡ Some d → d.t_reqs ≡ []
  pub sees : (d : DistView) → (node_at s n).dist ≡ Some d → (m : Node) → is_among m d.known ≡ true → is_alive_at s m ≡ true
      → (n.0 == m.0 || are_linked n m s.links) ≡ true

-- ---- what the others do

-- The application was lost at this node, too, which may run it, and whose dist_ac, which takes whatever comes, finds another node to be the
-- first: so it is to wait for that. The application is one of its list and started there; it knows of nobody that runs it, and no weight
-- that was told of it; and it doesn't monitor the first node yet.
pub record IsStandby (own : OwnView) (n first : Node) (a : App) (v : LiveView) : Type 0 where
  pub dist : DistView
  pub has : v.dist ≡ Some dist
  pub takes_all : dist.stand ≡ stand.Idle
  pub gone : Node
  pub lost : standing_of dist a ≡ standing.Failover gone
  pub among : is_among n (candidates_of own (lost_attempt dist a)) ≡ true
  pub waits : first_of (candidates_of own (lost_attempt dist a)) (places_of own a) ≡ Some first
  pub started : (controls own a && has_app a dist.started) ≡ true
  pub unknown : remote dist a ≡ None
  pub untold : without_told a dist.tmp_locals ≡ dist.tmp_locals
  pub unmonitored : is_among first dist.monitored ≡ false

-- A standby sees the first node, which is alive.
pub record StandsBy (m n : Node) (a : App) (s : SystemView) : Type 0 where
  pub standby : IsStandby (own_at s m) m n a (node_at s m)
  pub alive : is_alive_at s n ≡ true
  pub sees : (m.0 == n.0 || are_linked m n s.links) ≡ true

abbrev pub is_failover : Standing → Bool
is_failover (standing.Failover n) = true
is_failover st = false

-- The application isn't lost any more, and the timer was left over. Its dist_ac takes whatever comes, if there is one.
pub record IsOver (a : App) (v : LiveView) : Type 0 where
  pub takes_all : (d : DistView) → v.dist ≡ Some d → d.stand ≡ stand.Idle
  pub over : (d : DistView) → v.dist ≡ Some d → is_failover (standing_of d a) ≡ false

-- ---- the timers

-- the timer of a node's loss of the application, with the number of the loss
abbrev pub timer_of : ℕ → ℕ → App → SystemView → Node × ℕ → Timer
timer_of due step a s row =
    record { due = due; step = step; to = process_in s row.0 role.DistAc; message = message.RestartAppl a row.1 }

-- those of these losses that are the node's
abbrev pub losses_at : Node → List (Node × ℕ) → List (Node × ℕ)
losses_at n losses = filter (λ (row : Node × ℕ). row.0.0 == n.0) losses

-- The next timers are those of losses of the application, one at a node at most. This node is the first that may run it, and can, whether
-- its own timer is one of them or not. Each other node of them, if it is alive, stands by, or the application isn't lost there any more.
pub record FailsOverAt (n : Node) (a : App) (s : SystemView) : Type 0 where
  pub due : ℕ
  pub step : ℕ
  pub next : next_due s.timers ≡ Some (due, step)
  pub losses : List (Node × ℕ)
  pub fire : fired s.timers ≡ map (timer_of due step a s) losses
  pub once : (m : Node) → length (losses_at m losses) ≤ 1
  pub first : IsFirst (own_at s n) n a (node_at s n)
  pub able : IsAble s.cluster (own_at s n) n a (node_at s n)
  pub sees_all : SeesAll n s
  pub others : (m : Node) → m.0 ≢ n.0 → is_among m (map (λ (row : Node × ℕ). row.0) losses) ≡ true → is_alive_at s m ≡ true
      → StandsBy m n a s ⊎ IsOver a (node_at s m)

-- ---- the law

-- A failover comes to the same in every order, and so by every order that `settle` is told: whether the timer fires at the first node alone,
-- or at standbys, too.
abbrev pub FailoversEndAlike : Type 0
FailoversEndAlike = (s : SystemView) (n : Node) (a : App) → IsReached s → AreAtRest s → (failover : FailsOverAt n a s)
    → EveryOrderEndsAlike (fired_next failover.due s)
    × ((most : ℕ) (one other : Order) → is_settled_by most one (fired_next failover.due s) ≡ true
    → is_settled_by most other (fired_next failover.due s) ≡ true
    → AreAlike (settled most one (fired_next failover.due s)) (settled most other (fired_next failover.due s)))
