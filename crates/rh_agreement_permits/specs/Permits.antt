-- Which permissions of distributed applications `run` and `run --rules otp25` answer alike by `ok` alone: those that change nothing else
-- (ours).
use Rattle.std.specs.Prelude.{◌≡◌, ◌⊎◌, ◌<◌, ◌+◌, ◌&&◌, length, Bool, true, false, Some}
use Rattle.rh_model.specs.ClusterView.{group_of}
use Rattle.rh_model.specs.declared.node.App.{App}
use Rattle.rh_model.specs.declared.node.Node.{Node}
use Rattle.rh_rules.specs.declared.event.Event.TheVariants as event
use Rattle.rh_rules.specs.ByHand.{pulls_back}
use Rattle.rh_rules.specs.Course.{is_local}
use Rattle.rh_rules.specs.Moves.{comes_before}
use Rattle.rh_rules.specs.Placing.{deps_run}
use Rattle.rh_state.specs.declared.status.Standing.{Standing}
use Rattle.rh_state.specs.declared.status.Standing.TheVariants.{Wanted, Running}
use Rattle.rh_state.specs.Shape.{IsAppOf}
use Rattle.rh_state.specs.StateView.{StateView, mode_of, is_up, is_started, is_allowed, runs_at, standing_of}
use Rattle.rh_trail.specs.SimView.{SimView, state_of}
use Rattle.rh_otp_dist.specs.declared.state.Stand.TheVariants as stand
use Rattle.rh_otp_dist.specs.Choosing.{backwards}
use Rattle.rh_otp_dist.specs.State.{DistView}
use Rattle.rh_otp_model.specs.Own.{controls}
use Rattle.rh_otp_node.specs.Live.{is_ending}
use Rattle.rh_otp_permits.specs.Permits.{NotesAlone}
use Rattle.rh_otp_sim.specs.Acting.{most_moves}
use Rattle.rh_otp_sim.specs.Refusing.{node_in}
use Rattle.rh_otp_sim.specs.Sim.{LiveSimView}
use Rattle.rh_otp_system.specs.State.{own_at}
use Rattle.rh_agreement.specs.Telling.{GoTogether}
use Rattle.rh_agreement.specs.Laws.{HasRoom}
use Rattle.rh_agreement.specs.Resting.{AreBothAtRest, held}
use Rattle.rh_agreement_spread.specs.Stops.{IsLeftAlike}

-- By how the application stands, a node that may run it again draws it: one that is wanted is placed, and one that runs at a node of a
-- later group is called back, in the profiles in which a permission that is given back does so.
abbrev pub is_drawn : StateView → Node → App → Standing → Bool
is_drawn s n a (Wanted from) = true
is_drawn s n a (Running m) = pulls_back s.cluster.profile && comes_before (group_of s.cluster a n) (group_of s.cluster a m)
is_drawn s n a standing = false

-- By the manual's rules the application is one of the cluster's, and distributed, the node is up, and the permission is all that changes: a node at which the
-- application runs isn't forbidden it; and one that is permitted it was so before, or couldn't run it yet, since it isn't started there or
-- lacks what it needs, or doesn't draw it.
pub record ChangesNoMore (s : StateView) (n : Node) (a : App) (allow : Bool) : Type 0 where
  pub app : IsAppOf s.cluster a
  pub up : is_up (mode_of s n) ≡ true
  pub spread : is_local s.cluster a ≡ false
  pub runs_not : allow ≡ false → runs_at s n a ≡ false
  pub stays : allow ≡ true → (is_allowed s n a ≡ true) ⊎ ((is_started s n a && deps_run s n a) ≡ false)
      ⊎ (is_drawn s n a (standing_of s a) ≡ false)

-- On the live node the application is one of its own `distributed`, and only the permission changes. The node's dist_ac takes whatever
-- comes and has synchronised; the node sees those of the application's list that are alive, and isn't on its way to its end. The list is so
-- short that with one message for each of its nodes, and four more, the step isn't taken for one without end.
pub record NotesAloneLive (live : LiveSimView) (n : Node) (a : App) (allow : Bool) : Type 0 where
  pub own : controls (own_at (held live) n) a ≡ true
  pub dist : DistView
  pub has : (node_in live n).dist ≡ Some dist
  pub takes_all : dist.stand ≡ stand.Idle
  pub notes : NotesAlone n a allow (held live)
  pub stays : is_ending (node_in live n) ≡ false
  pub few : length (backwards (own_at (held live) n) a) + 4 < most_moves

-- Where both are at rest, such a permission is answered alike, by `ok` alone, and leads to what is told alike; and both are at rest again
-- (application(3), permit/2; kernel(6), `distributed`).
abbrev pub PermitsAloneAreAnsweredAlike : Type 0
PermitsAloneAreAnsweredAlike = (sim : SimView) (live : LiveSimView) (n : Node) (a : App) (allow : Bool) → GoTogether sim live
    → HasRoom sim live → AreBothAtRest sim live → ChangesNoMore (state_of sim) n a allow → NotesAloneLive live n a allow
    → IsLeftAlike (event.Permit n a allow) sim live
