-- Forbids by which a distributed application moves to another node, and that every order of what comes of one ends alike.
use Rattle.std.specs.Prelude.{◌≡◌, ◌≢◌, ◌==◌, ◌&&◌, not, filter, List, [], ◌∷◌, true, false, Some}
use Rattle.rh_model.specs.declared.node.App.{App}
use Rattle.rh_model.specs.declared.node.Node.{Node}
use Rattle.rh_otp_model.specs.Own.{OwnView, controls}
use Rattle.rh_otp_dist.specs.declared.state.Stand.TheVariants as stand
use Rattle.rh_otp_dist.specs.declared.state.Standing.TheVariants as standing
use Rattle.rh_otp_dist.specs.Attempts.{has_app}
use Rattle.rh_otp_dist.specs.Choosing.{backwards}
use Rattle.rh_otp_dist.specs.State.{DistView, standing_of, permitted, with_permission, may_run, is_among}
use Rattle.rh_otp_dist.specs.Told.{is_local}
use Rattle.rh_otp_system.specs.declared.calls.Ask.TheVariants as ask
use Rattle.rh_otp_system.specs.Doing.{called}
use Rattle.rh_otp_system.specs.State.{SystemView, node_at, own_at, is_alive_at, has_dist_at}
use Rattle.rh_otp_laws.specs.Acting.{IsReached}
use Rattle.rh_otp_crashes.specs.Crashes.{AreAtRest}
use Rattle.rh_otp_crashes.specs.Failovers.{SeesAll}
use Rattle.rh_otp_stops.specs.Stops.{EndsAlike}
use Rattle.rh_otp_starts.specs.Starts.{IsOverBefore}
use Rattle.rh_otp_begins.specs.Here.{IsChosen}
use Rattle.rh_otp_permits.specs.Permits.{is_begun}
use Rattle.rh_otp_moves.specs.Stopping.{SeesList}

-- the other nodes of the application's list that are told of a permission: those that are alive and have a dist_ac (ours)
abbrev pub told_of : Node → App → SystemView → List Node
told_of n a s = filter (λ m. not (m.0 == n.0) && (is_alive_at s m && has_dist_at s m)) (backwards (own_at s n) a)

-- The node's dist_ac has started and runs the application, and behind the forbid knows that the other node (`m`) may run it (dist_ac,
-- permit/6).
pub record LeavesIt (n m : Node) (a : App) (d : DistView) : Type 0 where
  pub local : standing_of d a ≡ standing.Local
  pub started : has_app a d.started ≡ true
  pub may : is_among m (permitted (with_permission n a false d) a) ≡ true

-- The other node's dist_ac doesn't run it, and behind the forbid finds its own node to be the first of the list that may run it, with no
-- tuple before it (dist_ac, handle_info({dist_ac_new_permission, ..}), find_start_node/5).
pub record TakesIt (own : OwnView) (n m : Node) (a : App) (d : DistView) : Type 0 where
  pub not_here : is_local (standing_of d a) ≡ false
  pub chosen : IsChosen own m a (with_permission n a false d)

-- Another node that is told takes no part: its dist_ac takes whatever comes, and knows that its node may not run the application, if it
-- has that in its own `distributed` (dist_ac, handle_info({dist_ac_new_permission, ..})).
pub record NotesIt (own : OwnView) (m : Node) (a : App) (d : DistView) : Type 0 where
  pub idle : d.stand ≡ stand.Idle
  pub may_not : controls own a ≡ true → may_run d m a ≡ false

-- The node sees the list, and its controller knows the application to be started, or being started. The node leaves it to another one of
-- the list, which is told once, and that one takes it, where its dist_ac knows that it may run it: so it is, if their dist_acs take
-- whatever comes. Nobody waits there for a takeover, and that node sees all those that are alive and of which its dist_ac knows. The others
-- that are told, if any, take no part (ours).
pub record MovesBehind (n : Node) (a : App) (s : SystemView) : Type 0 where
  pub at : Node
  pub other : at.0 ≢ n.0
  pub sees_list : SeesList n a s
  pub begun : is_begun a (node_at s n).controller ≡ true
  pub once : filter (λ m. m.0 == at.0) (told_of n a s) ≡ at ∷ []
  pub leaves : (d : DistView) → (node_at s n).dist ≡ Some d → d.stand ≡ stand.Idle → LeavesIt n at a d
  pub takes : (d : DistView) → (node_at s at).dist ≡ Some d → d.stand ≡ stand.Idle → may_run d at a ≡ true
      → TakesIt (own_at s at) n at a d
  pub sees_all : SeesAll at s
  pub others : (m : Node) (d : DistView) → m.0 ≢ at.0 → is_among m (told_of n a s) ≡ true → (node_at s m).dist ≡ Some d
      → NotesIt (own_at s m) m a d

-- A call that forbids a distributed application by which that moves to another node ends alike, whether that node takes it over, or fails
-- to start it, since what it needs doesn't run there, which may end that node (application(3), permit/2; kernel(6), `distributed`).
abbrev pub ForbidsThatMoveEndAlike : Type 0
ForbidsThatMoveEndAlike = (s : SystemView) (n : Node) (a : App) → IsReached s → AreAtRest s → IsOverBefore s
    → controls (own_at s n) a ≡ true → MovesBehind n a s → EndsAlike (called (ask.Permit false) n a s)
