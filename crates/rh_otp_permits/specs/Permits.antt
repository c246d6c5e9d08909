-- Permissions of distributed applications that change nothing else, and that every order of what comes of one ends alike.
use Rattle.std.specs.Prelude.{◌≡◌, ◌⊎◌, ◌==◌, ◌||◌, ◌&&◌, not, Bool, true, false, Some}
use Rattle.rh_model.specs.declared.node.App.{App}
use Rattle.rh_model.specs.declared.node.Node.{Node}
use Rattle.rh_otp_model.specs.Own.{controls}
use Rattle.rh_otp_model.specs.Rows.{has_row}
use Rattle.rh_otp_controller.specs.State.{ControllerView}
use Rattle.rh_otp_dist.specs.declared.state.Stand.TheVariants as stand
use Rattle.rh_otp_dist.specs.Calls.{is_away}
use Rattle.rh_otp_dist.specs.Choosing.{backwards}
use Rattle.rh_otp_dist.specs.State.{DistView, standing_of, is_among}
use Rattle.rh_otp_dist.specs.Told.{is_local}
use Rattle.rh_otp_net.specs.Links.{are_linked}
use Rattle.rh_otp_system.specs.declared.calls.Ask.TheVariants as ask
use Rattle.rh_otp_system.specs.Calling.{is_synchronised_at}
use Rattle.rh_otp_system.specs.Doing.{called}
use Rattle.rh_otp_system.specs.State.{SystemView, node_at, own_at, is_alive_at}
use Rattle.rh_otp_laws.specs.Acting.{IsReached}
use Rattle.rh_otp_crashes.specs.Crashes.{AreAtRest}
use Rattle.rh_otp_stops.specs.Stops.{EndsAlike}
use Rattle.rh_otp_starts.specs.Starts.{IsOverBefore}

-- is the application started at the node, or being started, as its controller knows? (ours)
abbrev pub is_begun : App → ControllerView → Bool
is_begun a c = has_row a c.started || has_row a c.starting

-- Only the permission changes: the application is neither started nor being started at the node; or it is permitted, and runs there; or it
-- is forbidden, and the node's dist_ac knows it to run at another node, or nothing of it. Where it is forbidden it doesn't run there
-- (dist_ac, permit/6).
pub record ChangesNothing (allow : Bool) (a : App) (c : ControllerView) (d : DistView) : Type 0 where
  pub quiet : (is_begun a c ≡ false) ⊎ ((allow ≡ true) × (is_local (standing_of d a) ≡ true))
      ⊎ ((allow ≡ false) × (is_away (standing_of d a) ≡ true))
  pub not_here : (not allow && is_local (standing_of d a)) ≡ false

-- The node's dist_ac has synchronised with the others, only the permission changes at it, if it takes whatever comes, and the node sees all
-- those of the application's list that are alive (ours).
pub record NotesAlone (n : Node) (a : App) (allow : Bool) (s : SystemView) : Type 0 where
  pub synchronised : is_synchronised_at n s ≡ true
  pub notes : (d : DistView) → (node_at s n).dist ≡ Some d → d.stand ≡ stand.Idle → ChangesNothing allow a (node_at s n).controller d
  pub sees : (m : Node) → is_among m (backwards (own_at s n) a) ≡ true → is_alive_at s m ≡ true
      → (n.0 == m.0 || are_linked n m s.links) ≡ true

-- A call that permits or forbids a distributed application ends alike, where only the permission changes
-- (application(3), permit/2; kernel(6), `distributed`).
abbrev pub PermitsAloneEndAlike : Type 0
PermitsAloneEndAlike = (s : SystemView) (n : Node) (a : App) (allow : Bool) → IsReached s → AreAtRest s → IsOverBefore s
    → controls (own_at s n) a ≡ true → NotesAlone n a allow s → EndsAlike (called (ask.Permit allow) n a s)
