-- Which starts `run` and `run --rules otp25` answer alike: where the application isn't distributed, and can start at the node (ours).
use Rattle.std.specs.Prelude.{◌≡◌, ◌==◌, [], ◌∷◌, Bool, true, false, None}
use Rattle.std.specs.List.{list_any}
use Rattle.rh_model.specs.ClusterView.{deps_of}
use Rattle.rh_model.specs.declared.node.App.{App}
use Rattle.rh_model.specs.declared.node.Node.{Node}
use Rattle.rh_model.specs.declared.settings.Dep.{Dep}
use Rattle.rh_model.specs.declared.settings.Dep.TheVariants.{Listed, Platform}
use Rattle.rh_model.specs.declared.settings.Restart.{Restart}
use Rattle.rh_rules.specs.declared.event.Event.TheVariants as event
use Rattle.rh_rules.specs.declared.notice.Notice.TheVariants as notice
use Rattle.rh_rules.specs.Course.{is_local}
use Rattle.rh_rules.specs.Placing.{deps_run}
use Rattle.rh_calls.specs.declared.call.Call.TheVariants as call
use Rattle.rh_calls.specs.declared.call.Reply.TheVariants as reply
use Rattle.rh_state.specs.declared.status.Kind.TheVariants.{Normal}
use Rattle.rh_state.specs.Shape.{IsAppOf}
use Rattle.rh_state.specs.StateView.{StateView, mode_of, is_up, is_started, is_allowed, waits_at}
use Rattle.rh_trail.specs.Lone.{served}
use Rattle.rh_trail.specs.SimView.{SimView, state_of}
use Rattle.rh_otp_controller.specs.Calls.{is_forbidden}
use Rattle.rh_otp_controller.specs.Starting.{lacks_started, lacks_running}
use Rattle.rh_otp_controller.specs.State.{TurnView}
use Rattle.rh_otp_model.specs.Own.{controls}
use Rattle.rh_otp_model.specs.Rows.{keyfind, has_row}
use Rattle.rh_otp_node.specs.Live.{is_ending}
use Rattle.rh_otp_node.specs.Turns.{controller_turn}
use Rattle.rh_otp_sim.specs.Calls.{made_by}
use Rattle.rh_otp_sim.specs.Refusing.{node_in}
use Rattle.rh_otp_sim.specs.Sim.{LiveSimView}
use Rattle.rh_otp_system.specs.State.{own_at}
use Rattle.rh_agreement.specs.Telling.{GoTogether}
use Rattle.rh_agreement.specs.Laws.{IsAnsweredAlike, HasRoom}
use Rattle.rh_agreement.specs.Resting.{AreBothAtRest, held}

-- is it this application that is needed?
abbrev pub is_dep : App → Dep → Bool
is_dep a (Listed b) = a.0 == b.0
is_dep a (Platform p) = false

-- By the manual's rules the application can start at the node: the node is up, it isn't distributed, is permitted and not started there,
-- and what it needs runs there. Nothing that waits there needs it.
pub record CanStart (s : StateView) (n : Node) (a : App) : Type 0 where
  pub app : IsAppOf s.cluster a
  pub up : is_up (mode_of s n) ≡ true
  pub local : is_local s.cluster a ≡ true
  pub off : is_started s n a ≡ false
  pub may : is_allowed s n a ≡ true
  pub needs : deps_run s n a ≡ true
  pub unneeded : (b : App) → waits_at s n b ≡ true → list_any (is_dep a) (deps_of s.cluster b) ≡ false

-- what the node's controller knows, where a start comes to it
abbrev pub turn_at : LiveSimView → Node → TurnView
turn_at live n = controller_turn live.cluster (own_at (held live) n) n (node_in live n)

-- So it can on the live node: the node's own file hasn't got it, it doesn't run, nobody waits for its start, it isn't forbidden, what it
-- needs is started and runs, and the node isn't on its way to its end.
pub record CanStartLive (live : LiveSimView) (n : Node) (a : App) : Type 0 where
  pub own : controls (own_at (held live) n) a ≡ false
  pub off : has_row a (node_in live n).controller.running ≡ false
  pub unasked : has_row a (node_in live n).controller.start_req ≡ false
  pub may : is_forbidden (keyfind a (node_in live n).controller.permissions) ≡ false
  pub started : lacks_started (turn_at live n) a ≡ None
  pub runs : lacks_running (turn_at live n) a ≡ None
  pub stays : is_ending (node_in live n) ≡ false

-- Where both are at rest, such a start is answered alike, by `ok` and the start alone, and leads to what is told alike; and both are at
-- rest again (application(3), start/2).
abbrev pub StartsAreAnsweredAlike : Type 0
StartsAreAnsweredAlike = (sim : SimView) (live : LiveSimView) (n : Node) (a : App) (restart : Restart) → GoTogether sim live
    → HasRoom sim live → AreBothAtRest sim live → CanStart (state_of sim) n a → CanStartLive live n a
    → IsAnsweredAlike (call.Step (event.Start n a restart)) sim live
    × GoTogether (served sim (call.Step (event.Start n a restart))).sim (made_by (call.Step (event.Start n a restart)) live)
    × AreBothAtRest (served sim (call.Step (event.Start n a restart))).sim (made_by (call.Step (event.Start n a restart)) live)
    × ((served sim (call.Step (event.Start n a restart))).reply ≡ reply.Done (notice.Started a n Normal None ∷ []))
