-- Which permits of distributed applications `run` and `run --rules otp25` answer alike by a start: those of one that is wanted, and waits
-- at the node (ours).
use Rattle.std.specs.Prelude.{◌≡◌, ◌≢◌, ◌<◌, ◌+◌, ◌*◌, [], ◌∷◌, length, true, false, Option, None, Some}
use Rattle.std.specs.List.{list_any}
use Rattle.rh_model.specs.ClusterView.{deps_of}
use Rattle.rh_model.specs.declared.node.App.{App}
use Rattle.rh_model.specs.declared.node.Node.{Node}
use Rattle.rh_rules.specs.declared.event.Event.TheVariants as event
use Rattle.rh_rules.specs.declared.notice.Notice.TheVariants as notice
use Rattle.rh_rules.specs.Moves.{lost_elsewhere}
use Rattle.rh_rules.specs.Placing.{deps_run, start_kind}
use Rattle.rh_calls.specs.declared.call.Call.TheVariants as call
use Rattle.rh_calls.specs.declared.call.Reply.TheVariants as reply
use Rattle.rh_state.specs.declared.status.Kind.TheVariants.{Normal}
use Rattle.rh_state.specs.declared.status.Standing.TheVariants.{Wanted}
use Rattle.rh_state.specs.StateView.{StateView, standing_of, waits_at}
use Rattle.rh_trail.specs.Lone.{served}
use Rattle.rh_trail.specs.SimView.{SimView, state_of}
use Rattle.rh_otp_controller.specs.Calls.{is_here}
use Rattle.rh_otp_controller.specs.Starting.{lacks_running}
use Rattle.rh_otp_dist.specs.declared.state.Stand.TheVariants as stand
use Rattle.rh_otp_dist.specs.declared.state.Standing.TheVariants as standing
use Rattle.rh_otp_dist.specs.Choosing.{backwards}
use Rattle.rh_otp_dist.specs.State.{DistView}
use Rattle.rh_otp_dist.specs.State as known
use Rattle.rh_otp_model.specs.Own.{controls}
use Rattle.rh_otp_model.specs.Rows.{keyfind, has_row}
use Rattle.rh_otp_moves.specs.Starting.{StartsBehind}
use Rattle.rh_otp_node.specs.Live.{is_alive, is_ending}
use Rattle.rh_otp_sim.specs.Acting.{most_moves}
use Rattle.rh_otp_sim.specs.Calls.{made_by}
use Rattle.rh_otp_sim.specs.Refusing.{node_in}
use Rattle.rh_otp_sim.specs.Sim.{LiveSimView}
use Rattle.rh_otp_system.specs.State.{own_at}
use Rattle.rh_agreement.specs.Telling.{GoTogether}
use Rattle.rh_agreement.specs.Laws.{IsAnsweredAlike, HasRoom}
use Rattle.rh_agreement.specs.Resting.{AreBothAtRest, held}
use Rattle.rh_agreement_calls.specs.Starts.{is_dep, turn_at}

-- By the manual's rules the application is wanted, and waits at the node, where what it needs runs. It starts there as any other one: it
-- was lost with no other node, or has no start phases. Nothing that waits at the node needs it.
pub record StartsOncePermitted (s : StateView) (n : Node) (a : App) (from : Option Node) : Type 0 where
  pub wanted : standing_of s a ≡ Wanted from
  pub waits : waits_at s n a ≡ true
  pub needs : deps_run s n a ≡ true
  pub normal : start_kind s a from n ≡ Normal
  pub unneeded : (b : App) → waits_at s n b ≡ true → list_any (is_dep a) (deps_of s.cluster b) ≡ false

-- On the live node it is one of its own `distributed`; its controller has started it, doesn't run it, nobody waits for its start, and what
-- it needs runs. The node's dist_ac takes whatever comes, knows nothing of the application, and finds behind the permit its own node to be
-- the first of the list that may run it, with no tuple before it. It has synchronised; nobody waits there for a takeover, and the node sees
-- those of the list that are alive, and all that are alive and of which its dist_ac knows. It isn't on its way to its end, and no other
-- node that is alive runs the application. The list and what its dist_ac knows are so short that with one message for each node of the
-- list, two for each that it knows, and seven more, the step isn't taken for one without end.
pub record StartsOncePermittedLive (live : LiveSimView) (n : Node) (a : App) : Type 0 where
  pub own : controls (own_at (held live) n) a ≡ true
  pub started : has_row a (node_in live n).controller.started ≡ true
  pub off : is_here (keyfind a (node_in live n).controller.running) ≡ false
  pub unasked : has_row a (node_in live n).controller.start_req ≡ false
  pub runs : lacks_running (turn_at live n) a ≡ None
  pub dist : DistView
  pub has : (node_in live n).dist ≡ Some dist
  pub takes_all : dist.stand ≡ stand.Idle
  pub unknown : known.standing_of dist a ≡ standing.Undefined
  pub starts : StartsBehind n a (held live)
  pub stays : is_ending (node_in live n) ≡ false
  pub nowhere : (m : Node) → m.0 ≢ n.0 → is_alive (node_in live m) ≡ true → is_here (keyfind a (node_in live m).controller.running) ≡ false
  pub few : length (backwards (own_at (held live) n) a) + 2 * length dist.known + 7 < most_moves

-- Where both are at rest, such a permit is answered alike, by `ok` and the start of the application at the node alone, and leads to what is
-- told alike; and both are at rest again (application(3), permit/2; kernel(6), `distributed`).
abbrev pub PermitsByWhichItStartsAreAnsweredAlike : Type 0
PermitsByWhichItStartsAreAnsweredAlike = (sim : SimView) (live : LiveSimView) (n : Node) (a : App) (from : Option Node)
    → GoTogether sim live → HasRoom sim live → AreBothAtRest sim live → StartsOncePermitted (state_of sim) n a from
    → StartsOncePermittedLive live n a
    → IsAnsweredAlike (call.Step (event.Permit n a true)) sim live
    × GoTogether (served sim (call.Step (event.Permit n a true))).sim (made_by (call.Step (event.Permit n a true)) live)
    × AreBothAtRest (served sim (call.Step (event.Permit n a true))).sim (made_by (call.Step (event.Permit n a true)) live)
    × ((served sim (call.Step (event.Permit n a true))).reply ≡ reply.Done (notice.Started a n Normal (lost_elsewhere from n) ∷ []))
