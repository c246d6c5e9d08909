-- Which starts of distributed applications `run` and `run --rules otp25` answer alike: at the best node, where the application runs nowhere
-- (ours).
use Rattle.std.specs.Prelude.{◌≡◌, ◌≢◌, ◌<◌, ◌+◌, ◌*◌, [], ◌∷◌, length, true, false, None, Some}
use Rattle.std.specs.List.{list_any}
use Rattle.rh_model.specs.ClusterView.{deps_of, is_listed_at, group_of}
use Rattle.rh_model.specs.declared.node.App.{App}
use Rattle.rh_model.specs.declared.node.Node.{Node}
use Rattle.rh_model.specs.declared.settings.Restart.{Restart}
use Rattle.rh_rules.specs.declared.event.Event.TheVariants as event
use Rattle.rh_rules.specs.declared.notice.Notice.TheVariants as notice
use Rattle.rh_rules.specs.Course.{is_local}
use Rattle.rh_rules.specs.Moves.{comes_before}
use Rattle.rh_rules.specs.Placing.{deps_run, is_operational}
use Rattle.rh_calls.specs.declared.call.Call.TheVariants as call
use Rattle.rh_calls.specs.declared.call.Reply.TheVariants as reply
use Rattle.rh_state.specs.declared.status.Kind.TheVariants.{Normal}
use Rattle.rh_state.specs.declared.status.Standing.TheVariants.{Quiet}
use Rattle.rh_state.specs.Shape.{IsAppOf}
use Rattle.rh_state.specs.StateView.{StateView, mode_of, is_up, is_started, is_allowed, standing_of, waits_at}
use Rattle.rh_trail.specs.Lone.{served}
use Rattle.rh_trail.specs.SimView.{SimView, state_of}
use Rattle.rh_otp_controller.specs.Calls.{is_here}
use Rattle.rh_otp_controller.specs.Starting.{lacks_started, lacks_running}
use Rattle.rh_otp_dist.specs.declared.state.Stand.TheVariants as stand
use Rattle.rh_otp_dist.specs.declared.state.Standing.TheVariants as standing
use Rattle.rh_otp_dist.specs.Choosing.{places_of, remote}
use Rattle.rh_otp_dist.specs.State.{DistView}
use Rattle.rh_otp_dist.specs.State as known
use Rattle.rh_otp_model.specs.Own.{OwnView, controls}
use Rattle.rh_otp_model.specs.Rows.{keyfind, has_row}
use Rattle.rh_otp_node.specs.Live.{LiveView, is_alive, is_ending}
use Rattle.rh_otp_sim.specs.Acting.{most_moves}
use Rattle.rh_otp_sim.specs.Calls.{made_by}
use Rattle.rh_otp_sim.specs.Refusing.{node_in}
use Rattle.rh_otp_sim.specs.Sim.{LiveSimView}
use Rattle.rh_otp_system.specs.State.{own_at}
use Rattle.rh_otp_crashes.specs.Failovers.{SeesAll, first_of}
use Rattle.rh_otp_starts.specs.Elsewhere.{candidates_at}
use Rattle.rh_agreement.specs.Telling.{GoTogether}
use Rattle.rh_agreement.specs.Laws.{IsAnsweredAlike, HasRoom}
use Rattle.rh_agreement.specs.Resting.{AreBothAtRest, held}
use Rattle.rh_agreement_calls.specs.Starts.{is_dep, turn_at}

-- By the manual's rules the application is to run nowhere, and can start at the node: the node is up, its list has the node, it is
-- permitted and not started there, and what it needs runs there. Each other node where it could run stands in a later group of its list;
-- and nothing that waits at the node needs it.
pub record CanBePlaced (s : StateView) (n : Node) (a : App) : Type 0 where
  pub app : IsAppOf s.cluster a
  pub up : is_up (mode_of s n) ≡ true
  pub spread : is_local s.cluster a ≡ false
  pub listed : is_listed_at s.cluster a n ≡ true
  pub quiet : standing_of s a ≡ Quiet
  pub off : is_started s n a ≡ false
  pub may : is_allowed s n a ≡ true
  pub needs : deps_run s n a ≡ true
  pub first : (m : Node) → is_operational s a m ≡ true → comes_before (group_of s.cluster a n) (group_of s.cluster a m) ≡ true
  pub unneeded : (b : App) → waits_at s n b ≡ true → list_any (is_dep a) (deps_of s.cluster b) ≡ false

-- The node's dist_ac takes whatever comes, knows of nobody that runs the application, and finds its own node to be the first of the list
-- that may run it, with no tuple before it. It knows so few nodes that with two messages for each of them, and six more, the step isn't
-- taken for one without end.
pub record IsChosenAlone (own : OwnView) (n : Node) (a : App) (v : LiveView) : Type 0 where
  pub dist : DistView
  pub has : v.dist ≡ Some dist
  pub takes_all : dist.stand ≡ stand.Idle
  pub unknown : known.standing_of dist a ≡ standing.Undefined
  pub nobody : remote dist a ≡ None
  pub first : first_of (candidates_at own a dist) (places_of own a) ≡ Some n
  pub few : 2 * length dist.known + 6 < most_moves

-- So it can on the live node: it is one of the node's own `distributed`, its controller doesn't list it as running, there or elsewhere,
-- nobody waits for its start, and what it needs is started and runs; its dist_ac chooses the node, nobody waits at that for a takeover, and
-- the node sees all those that are alive and of which it knows. The node isn't on its way to its end, and no other node that is alive runs
-- the application.
pub record CanBePlacedLive (live : LiveSimView) (n : Node) (a : App) : Type 0 where
  pub own : controls (own_at (held live) n) a ≡ true
  pub off : has_row a (node_in live n).controller.running ≡ false
  pub unasked : has_row a (node_in live n).controller.start_req ≡ false
  pub started : lacks_started (turn_at live n) a ≡ None
  pub runs : lacks_running (turn_at live n) a ≡ None
  pub chosen : IsChosenAlone (own_at (held live) n) n a (node_in live n)
  pub sees_all : SeesAll n (held live)
  pub stays : is_ending (node_in live n) ≡ false
  pub nowhere : (m : Node) → m.0 ≢ n.0 → is_alive (node_in live m) ≡ true → is_here (keyfind a (node_in live m).controller.running) ≡ false

-- Where both are at rest, such a start is answered alike, by `ok` and the start alone, and leads to what is told alike; and both are at
-- rest again (application(3), start/2; kernel(6), `distributed`).
abbrev pub StartsWhereItIsPlacedAreAnsweredAlike : Type 0
StartsWhereItIsPlacedAreAnsweredAlike = (sim : SimView) (live : LiveSimView) (n : Node) (a : App) (restart : Restart) → GoTogether sim live
    → HasRoom sim live → AreBothAtRest sim live → CanBePlaced (state_of sim) n a → CanBePlacedLive live n a
    → IsAnsweredAlike (call.Step (event.Start n a restart)) sim live
    × GoTogether (served sim (call.Step (event.Start n a restart))).sim (made_by (call.Step (event.Start n a restart)) live)
    × AreBothAtRest (served sim (call.Step (event.Start n a restart))).sim (made_by (call.Step (event.Start n a restart)) live)
    × ((served sim (call.Step (event.Start n a restart))).reply ≡ reply.Done (notice.Started a n Normal None ∷ []))
