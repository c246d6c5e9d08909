-- Which takeovers by a call `run` and `run --rules otp25` answer alike: where the application runs at another node, and moves from there
-- (ours).
use Rattle.std.specs.Prelude.{◌≡◌, ◌≢◌, ◌<◌, ◌+◌, ◌*◌, [], ◌∷◌, length, true, false, None, Some}
use Rattle.std.specs.List.{list_any}
use Rattle.rh_model.specs.ClusterView.{deps_of, is_listed_at}
use Rattle.rh_model.specs.declared.node.App.{App}
use Rattle.rh_model.specs.declared.node.Node.{Node}
use Rattle.rh_model.specs.declared.settings.Restart.{Restart}
use Rattle.rh_rules.specs.declared.event.Event.TheVariants as event
use Rattle.rh_rules.specs.declared.notice.Notice.TheVariants as notice
use Rattle.rh_rules.specs.Placing.{deps_run}
use Rattle.rh_calls.specs.declared.call.Call.TheVariants as call
use Rattle.rh_calls.specs.declared.call.Reply.TheVariants as reply
use Rattle.rh_state.specs.declared.status.Kind.TheVariants.{Takeover}
use Rattle.rh_state.specs.declared.status.Standing.TheVariants.{Running}
use Rattle.rh_state.specs.StateView.{StateView, mode_of, is_up, is_allowed, standing_of, waits_at}
use Rattle.rh_trail.specs.Lone.{served}
use Rattle.rh_trail.specs.SimView.{SimView, state_of}
use Rattle.rh_otp_controller.specs.Calls.{is_here}
use Rattle.rh_otp_controller.specs.Starting.{lacks_running}
use Rattle.rh_otp_dist.specs.declared.state.Stand.TheVariants as stand
use Rattle.rh_otp_dist.specs.declared.state.Standing.TheVariants as standing
use Rattle.rh_otp_dist.specs.Attempts.{has_app}
use Rattle.rh_otp_dist.specs.State.{DistView, is_among}
use Rattle.rh_otp_dist.specs.State as known
use Rattle.rh_otp_model.specs.Own.{OwnView, controls}
use Rattle.rh_otp_model.specs.Rows.{keyfind, has_row}
use Rattle.rh_otp_node.specs.Live.{LiveView, is_alive, is_ending}
use Rattle.rh_otp_sim.specs.Acting.{most_moves}
use Rattle.rh_otp_sim.specs.Calls.{made_by}
use Rattle.rh_otp_sim.specs.Refusing.{node_in}
use Rattle.rh_otp_sim.specs.Sim.{LiveSimView}
use Rattle.rh_otp_system.specs.State.{own_at}
use Rattle.rh_otp_crashes.specs.Failovers.{SeesAll}
use Rattle.rh_agreement.specs.Telling.{GoTogether}
use Rattle.rh_agreement.specs.Laws.{IsAnsweredAlike, HasRoom}
use Rattle.rh_agreement.specs.Resting.{AreBothAtRest, held}
use Rattle.rh_agreement_calls.specs.Starts.{is_dep, turn_at}

-- By the manual's rules the application runs (`at`), and can be taken over by the node, another one: that is up and in its list, the
-- application is permitted there, and what it needs runs there. Nothing that waits at the node needs it. (It needn't be started there.)
pub record CanBeTakenOver (s : StateView) (n at : Node) (a : App) : Type 0 where
  pub runs : standing_of s a ≡ Running at
  pub other : at.0 ≢ n.0
  pub up : is_up (mode_of s n) ≡ true
  pub listed : is_listed_at s.cluster a n ≡ true
  pub may : is_allowed s n a ≡ true
  pub needs : deps_run s n a ≡ true
  pub unneeded : (b : App) → waits_at s n b ≡ true → list_any (is_dep a) (deps_of s.cluster b) ≡ false

-- The node's dist_ac takes whatever comes, has synchronised with the others, and has the application as one that runs at the other node, of
-- which it knows. It knows so few nodes that with two messages for each of them, and seven more, the step isn't taken for one without end.
pub record IsKnownAt (at : Node) (a : App) (v : LiveView) : Type 0 where
  pub dist : DistView
  pub has : v.dist ≡ Some dist
  pub takes_all : dist.stand ≡ stand.Idle
  pub synchronised : dist.is_synchronised ≡ true
  pub elsewhere : known.standing_of dist a ≡ standing.Distributed at
  pub knows : is_among at dist.known ≡ true
  pub few : 2 * length dist.known + 7 < most_moves

-- The other node is alive, and gives the application up where it hears that this runs elsewhere: it is one of the node's own `distributed`,
-- the controller has started it, runs it, and isn't on its way to its end; and the dist_ac takes whatever comes, and has it as started.
pub record GivesUp (own : OwnView) (a : App) (v : LiveView) : Type 0 where
  pub alive : is_alive v ≡ true
  pub controlled : controls own a ≡ true
  pub started : has_row a v.controller.started ≡ true
  pub runs : is_here (keyfind a v.controller.running) ≡ true
  pub stays : is_ending v ≡ false
  pub dist : DistView
  pub has : v.dist ≡ Some dist
  pub takes_all : dist.stand ≡ stand.Idle
  pub started_too : has_app a dist.started ≡ true

-- So it can be taken over on the live node: it is one of the node's own `distributed`, its controller has it as started, lists it as
-- running, but not here, nobody waits for its start, and what it needs runs; its dist_ac has it as one that runs at the other node, nobody
-- waits there for a takeover, and the node sees all those that are alive and of which it knows. The node isn't on its way to its end. The
-- other one gives the application up, and no third node that is alive runs it.
pub record CanBeTakenOverLive (live : LiveSimView) (n at : Node) (a : App) : Type 0 where
  pub own : controls (own_at (held live) n) a ≡ true
  pub started : has_row a (node_in live n).controller.started ≡ true
  pub listed : has_row a (node_in live n).controller.running ≡ true
  pub off : is_here (keyfind a (node_in live n).controller.running) ≡ false
  pub unasked : has_row a (node_in live n).controller.start_req ≡ false
  pub runs : lacks_running (turn_at live n) a ≡ None
  pub elsewhere : IsKnownAt at a (node_in live n)
  pub sees_all : SeesAll n (held live)
  pub stays : is_ending (node_in live n) ≡ false
  pub gives_up : GivesUp (own_at (held live) at) a (node_in live at)
  pub nowhere : (m : Node) → m.0 ≢ n.0 → m.0 ≢ at.0 → is_alive (node_in live m) ≡ true
      → is_here (keyfind a (node_in live m).controller.running) ≡ false

-- Where both are at rest, such a takeover is answered alike: by `ok`, the start of the application as a takeover from the other node, and
-- its stop there; and it leads to what is told alike, and both are at rest again. Whatever restart type is given (application(3),
-- takeover/2; kernel(6), `distributed`).
abbrev pub TakeoversAreAnsweredAlike : Type 0
TakeoversAreAnsweredAlike = (sim : SimView) (live : LiveSimView) (n at : Node) (a : App) (restart : Restart) → GoTogether sim live
    → HasRoom sim live → AreBothAtRest sim live → CanBeTakenOver (state_of sim) n at a → CanBeTakenOverLive live n at a
    → IsAnsweredAlike (call.Step (event.Takeover n a restart)) sim live
    × GoTogether (served sim (call.Step (event.Takeover n a restart))).sim (made_by (call.Step (event.Takeover n a restart)) live)
    × AreBothAtRest (served sim (call.Step (event.Takeover n a restart))).sim (made_by (call.Step (event.Takeover n a restart)) live)
    × ((served sim (call.Step (event.Takeover n a restart))).reply
    ≡ reply.Done (notice.Started a n (Takeover at) None ∷ notice.Stopped a at ∷ []))
