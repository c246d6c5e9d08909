-- Which starts of distributed applications that run elsewhere `run` and `run --rules otp25` answer alike: where the application only waits
-- then (ours).
use Rattle.std.specs.Prelude.{◌≡◌, [], ◌∷◌, true, false, None, Some}
use Rattle.rh_model.specs.ClusterView.{is_listed_at, group_of}
use Rattle.rh_model.specs.declared.node.App.{App}
use Rattle.rh_model.specs.declared.node.Node.{Node}
use Rattle.rh_model.specs.declared.settings.Restart.{Restart}
use Rattle.rh_rules.specs.declared.event.Event.TheVariants as event
use Rattle.rh_rules.specs.declared.notice.Notice.TheVariants as notice
use Rattle.rh_rules.specs.Course.{is_local}
use Rattle.rh_rules.specs.Moves.{comes_before}
use Rattle.rh_rules.specs.Placing.{deps_run}
use Rattle.rh_calls.specs.declared.call.Call.TheVariants as call
use Rattle.rh_calls.specs.declared.call.Reply.TheVariants as reply
use Rattle.rh_state.specs.declared.status.Standing.TheVariants.{Running}
use Rattle.rh_state.specs.Shape.{IsAppOf}
use Rattle.rh_state.specs.StateView.{StateView, mode_of, is_up, is_started, standing_of}
use Rattle.rh_trail.specs.Lone.{served}
use Rattle.rh_trail.specs.SimView.{SimView, state_of}
use Rattle.rh_otp_controller.specs.Starting.{lacks_started}
use Rattle.rh_otp_dist.specs.declared.state.Stand.TheVariants as stand
use Rattle.rh_otp_dist.specs.State.{DistView}
use Rattle.rh_otp_dist.specs.State as known
use Rattle.rh_otp_dist.specs.Told as told
use Rattle.rh_otp_model.specs.Own.{controls}
use Rattle.rh_otp_model.specs.Rows.{has_row}
use Rattle.rh_otp_node.specs.Live.{is_ending}
use Rattle.rh_otp_sim.specs.Calls.{made_by}
use Rattle.rh_otp_sim.specs.Refusing.{node_in}
use Rattle.rh_otp_sim.specs.Sim.{LiveSimView}
use Rattle.rh_otp_system.specs.State.{own_at}
use Rattle.rh_otp_starts.specs.Elsewhere.{RunsElsewhere}
use Rattle.rh_agreement.specs.Telling.{GoTogether}
use Rattle.rh_agreement.specs.Laws.{IsAnsweredAlike, HasRoom}
use Rattle.rh_agreement.specs.Resting.{AreBothAtRest, held}
use Rattle.rh_agreement_calls.specs.Starts.{turn_at}

-- By the manual's rules the application runs (`at`), and can be started at the node, which won't call it away: the node is up, its list has
-- the node, in no earlier group than the one at which it runs, it isn't started there, and what it needs runs there.
pub record CanWait (s : StateView) (n : Node) (a : App) : Type 0 where
  pub app : IsAppOf s.cluster a
  pub up : is_up (mode_of s n) ≡ true
  pub spread : is_local s.cluster a ≡ false
  pub listed : is_listed_at s.cluster a n ≡ true
  pub off : is_started s n a ≡ false
  pub needs : deps_run s n a ≡ true
  pub at : Node
  pub runs : standing_of s a ≡ Running at
  pub behind : comes_before (group_of s.cluster a n) (group_of s.cluster a at) ≡ false

-- On the live node it is one of the node's own `distributed`, its controller doesn't list it as running, there or elsewhere, nobody waits
-- for its start, and what it needs is started. The node's dist_ac takes whatever comes, doesn't take the application to run here, and knows
-- that it runs at the first node of the list that may run it, or at any, where its own node may not. The node isn't on its way to its end.
pub record CanWaitLive (live : LiveSimView) (n : Node) (a : App) : Type 0 where
  pub own : controls (own_at (held live) n) a ≡ true
  pub off : has_row a (node_in live n).controller.running ≡ false
  pub unasked : has_row a (node_in live n).controller.start_req ≡ false
  pub started : lacks_started (turn_at live n) a ≡ None
  pub dist : DistView
  pub has : (node_in live n).dist ≡ Some dist
  pub takes_all : dist.stand ≡ stand.Idle
  pub elsewhere : RunsElsewhere (own_at (held live) n) n a dist
  pub not_here : told.is_local (known.standing_of dist a) ≡ false
  pub stays : is_ending (node_in live n) ≡ false

-- Where both are at rest, such a start is answered alike, by `ok` and that the application waits there, and leads to what is told alike;
-- and both are at rest again (application(3), start/2; kernel(6), `distributed`).
abbrev pub StartsWhereItWaitsAreAnsweredAlike : Type 0
StartsWhereItWaitsAreAnsweredAlike = (sim : SimView) (live : LiveSimView) (n : Node) (a : App) (restart : Restart) → GoTogether sim live
    → HasRoom sim live → AreBothAtRest sim live → CanWait (state_of sim) n a → CanWaitLive live n a
    → IsAnsweredAlike (call.Step (event.Start n a restart)) sim live
    × GoTogether (served sim (call.Step (event.Start n a restart))).sim (made_by (call.Step (event.Start n a restart)) live)
    × AreBothAtRest (served sim (call.Step (event.Start n a restart))).sim (made_by (call.Step (event.Start n a restart)) live)
    × ((served sim (call.Step (event.Start n a restart))).reply ≡ reply.Done (notice.Waits a n ∷ []))
