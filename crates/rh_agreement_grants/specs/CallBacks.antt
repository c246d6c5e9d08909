-- Which permits of distributed applications `run` and `run --rules otp25` answer alike by a move: those by which one that runs at another
-- node is called back, in the profiles in which a permission that is given back does so (ours).
use Rattle.std.specs.Prelude.{◌≡◌, ◌≢◌, ◌<◌, ◌+◌, ◌*◌, [], ◌∷◌, length, true, false, None, Some}
use Rattle.std.specs.List.{list_any}
use Rattle.rh_model.specs.ClusterView.{deps_of, group_of}
use Rattle.rh_model.specs.declared.node.App.{App}
use Rattle.rh_model.specs.declared.node.Node.{Node}
use Rattle.rh_rules.specs.declared.event.Event.TheVariants as event
use Rattle.rh_rules.specs.declared.notice.Notice.TheVariants as notice
use Rattle.rh_rules.specs.ByHand.{pulls_back}
use Rattle.rh_rules.specs.Moves.{comes_before}
use Rattle.rh_rules.specs.Placing.{deps_run}
use Rattle.rh_calls.specs.declared.call.Call.TheVariants as call
use Rattle.rh_calls.specs.declared.call.Reply.TheVariants as reply
use Rattle.rh_state.specs.declared.status.Kind.TheVariants.{Takeover}
use Rattle.rh_state.specs.declared.status.Standing.TheVariants.{Running}
use Rattle.rh_state.specs.StateView.{StateView, is_allowed, standing_of, waits_at}
use Rattle.rh_trail.specs.Lone.{served}
use Rattle.rh_trail.specs.SimView.{SimView, state_of}
use Rattle.rh_otp_controller.specs.Calls.{is_here}
use Rattle.rh_otp_controller.specs.Starting.{lacks_running}
use Rattle.rh_otp_dist.specs.declared.state.Stand.TheVariants as stand
use Rattle.rh_otp_dist.specs.declared.state.Standing.TheVariants as standing
use Rattle.rh_otp_dist.specs.Choosing.{backwards}
use Rattle.rh_otp_dist.specs.State.{DistView, is_among}
use Rattle.rh_otp_dist.specs.State as known
use Rattle.rh_otp_model.specs.Own.{controls}
use Rattle.rh_otp_model.specs.Rows.{keyfind, has_row}
use Rattle.rh_otp_moves.specs.Starting.{StartsBehind}
use Rattle.rh_otp_node.specs.Live.{is_alive, is_ending}
use Rattle.rh_otp_sim.specs.Acting.{most_moves}
use Rattle.rh_otp_sim.specs.Calls.{made_by}
use Rattle.rh_otp_sim.specs.Refusing.{node_in}
use Rattle.rh_otp_sim.specs.Sim.{LiveSimView}
use Rattle.rh_otp_system.specs.State.{own_at}
use Rattle.rh_agreement.specs.Telling.{GoTogether}
use Rattle.rh_agreement.specs.Laws.{IsAnsweredAlike, HasRoom}
use Rattle.rh_agreement.specs.Resting.{AreBothAtRest, held}
use Rattle.rh_agreement_calls.specs.Starts.{is_dep, turn_at}
use Rattle.rh_agreement_takeovers.specs.Takeovers.{GivesUp}

-- By the manual's rules, in such a profile, the application runs at the other node (`at`), in a later group than the node, where it waits
-- and is forbidden. What it needs runs at the node, and nothing that waits there needs it.
pub record IsCalledBack (s : StateView) (n at : Node) (a : App) : Type 0 where
  pub pulls : pulls_back s.cluster.profile ≡ true
  pub runs : standing_of s a ≡ Running at
  pub waits : waits_at s n a ≡ true
  pub may_not : is_allowed s n a ≡ false
  pub needs : deps_run s n a ≡ true
  pub before : comes_before (group_of s.cluster a n) (group_of s.cluster a at) ≡ true
  pub unneeded : (b : App) → waits_at s n b ≡ true → list_any (is_dep a) (deps_of s.cluster b) ≡ false

-- On the live node it is one of its own `distributed`; its controller has started it, lists it as running, but not here, nobody waits for
-- its start, and what it needs runs. The node's dist_ac takes whatever comes, has the application as one that runs at the other node, of
-- which it knows, and finds behind the permit its own node to be the first of the list that may run it, with no tuple before it. It has
-- synchronised; nobody waits there for a takeover, and the node sees those of the list that are alive, and all that are alive and of which
-- its dist_ac knows. It isn't on its way to its end. The other node gives the application up, and no third node that is alive runs it. The
-- list and what its dist_ac knows are so short that with one message for each node of the list, two for each that it knows, and seven more,
-- the step isn't taken for one without end.
pub record IsCalledBackLive (live : LiveSimView) (n at : Node) (a : App) : Type 0 where
  pub own : controls (own_at (held live) n) a ≡ true
  pub started : has_row a (node_in live n).controller.started ≡ true
  pub listed : has_row a (node_in live n).controller.running ≡ true
  pub off : is_here (keyfind a (node_in live n).controller.running) ≡ false
  pub unasked : has_row a (node_in live n).controller.start_req ≡ false
  pub runs : lacks_running (turn_at live n) a ≡ None
  pub dist : DistView
  pub has : (node_in live n).dist ≡ Some dist
  pub takes_all : dist.stand ≡ stand.Idle
  pub elsewhere : known.standing_of dist a ≡ standing.Distributed at
  pub knows : is_among at dist.known ≡ true
  pub starts : StartsBehind n a (held live)
  pub stays : is_ending (node_in live n) ≡ false
  pub gives_up : GivesUp (own_at (held live) at) a (node_in live at)
  pub nowhere : (m : Node) → m.0 ≢ n.0 → m.0 ≢ at.0 → is_alive (node_in live m) ≡ true
      → is_here (keyfind a (node_in live m).controller.running) ≡ false
  pub few : length (backwards (own_at (held live) n) a) + 2 * length dist.known + 7 < most_moves

-- Where both are at rest, such a permit is answered alike: by `ok`, the start of the application at the node as a takeover from the other
-- node, and its stop there; and it leads to what is told alike, and both are at rest again (application(3), permit/2; kernel(6),
-- `distributed`).
abbrev pub PermitsByWhichItIsCalledBackAreAnsweredAlike : Type 0
PermitsByWhichItIsCalledBackAreAnsweredAlike = (sim : SimView) (live : LiveSimView) (n at : Node) (a : App)
    → GoTogether sim live → HasRoom sim live → AreBothAtRest sim live → IsCalledBack (state_of sim) n at a → IsCalledBackLive live n at a
    → IsAnsweredAlike (call.Step (event.Permit n a true)) sim live
    × GoTogether (served sim (call.Step (event.Permit n a true))).sim (made_by (call.Step (event.Permit n a true)) live)
    × AreBothAtRest (served sim (call.Step (event.Permit n a true))).sim (made_by (call.Step (event.Permit n a true)) live)
    × ((served sim (call.Step (event.Permit n a true))).reply
    ≡ reply.Done (notice.Started a n (Takeover at) None ∷ notice.Stopped a at ∷ []))
