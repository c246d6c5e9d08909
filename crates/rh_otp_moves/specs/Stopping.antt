-- Forbids by which a distributed application stops, and that every order of what comes of one ends alike.
use Rattle.std.specs.Prelude.{◌≡◌, ◌≢◌, ◌==◌, ◌||◌, [], true, false, Some}
use Rattle.rh_model.specs.declared.node.App.{App}
use Rattle.rh_model.specs.declared.node.Node.{Node}
use Rattle.rh_otp_model.specs.Own.{controls}
use Rattle.rh_otp_dist.specs.declared.state.Stand.TheVariants as stand
use Rattle.rh_otp_dist.specs.declared.state.Standing.TheVariants as standing
use Rattle.rh_otp_dist.specs.Choosing.{backwards}
use Rattle.rh_otp_dist.specs.State.{DistView, standing_of, permitted, with_permission, may_run, is_among}
use Rattle.rh_otp_net.specs.Links.{are_linked}
use Rattle.rh_otp_system.specs.declared.calls.Ask.TheVariants as ask
use Rattle.rh_otp_system.specs.Calling.{is_synchronised_at}
use Rattle.rh_otp_system.specs.Doing.{called}
use Rattle.rh_otp_system.specs.State.{SystemView, node_at, own_at, is_alive_at}
use Rattle.rh_otp_laws.specs.Acting.{IsReached}
use Rattle.rh_otp_crashes.specs.Crashes.{AreAtRest}
use Rattle.rh_otp_stops.specs.Stops.{CanTell, EndsAlike}
use Rattle.rh_otp_starts.specs.Starts.{IsOverBefore}

-- The node's dist_ac has synchronised with the others, and the node sees all those of the application's list that are alive (ours).
pub record SeesList (n : Node) (a : App) (s : SystemView) : Type 0 where
  pub synchronised : is_synchronised_at n s ≡ true
  pub sees : (m : Node) → is_among m (backwards (own_at s n) a) ≡ true → is_alive_at s m ≡ true
      → (n.0 == m.0 || are_linked n m s.links) ≡ true

-- The application runs at the node, and behind the forbid no node may run it any more, as the node's dist_ac knows (dist_ac, permit/6).
pub record RunsThereAlone (n : Node) (a : App) (d : DistView) : Type 0 where
  pub local : standing_of d a ≡ standing.Local
  pub nobody : permitted (with_permission n a false d) a ≡ []

-- So it is, if the node's dist_ac takes whatever comes. The node sees the list, and can tell the others of the end. And each other node of
-- the list that is alive and has the application in its own `distributed` knows itself that it may not run it, if its dist_ac takes
-- whatever comes (ours).
pub record StopsBehind (n : Node) (a : App) (s : SystemView) : Type 0 where
  pub sees_list : SeesList n a s
  pub alone : (d : DistView) → (node_at s n).dist ≡ Some d → d.stand ≡ stand.Idle → RunsThereAlone n a d
  pub tells : CanTell n s
  pub others : (m : Node) (d : DistView) → m.0 ≢ n.0 → is_among m (backwards (own_at s n) a) ≡ true → is_alive_at s m ≡ true
      → (node_at s m).dist ≡ Some d → d.stand ≡ stand.Idle → controls (own_at s m) a ≡ true → may_run d m a ≡ false

-- A call that forbids a distributed application by which that stops ends alike (application(3), permit/2; kernel(6), `distributed`).
abbrev pub ForbidsThatStopEndAlike : Type 0
ForbidsThatStopEndAlike = (s : SystemView) (n : Node) (a : App) → IsReached s → AreAtRest s → IsOverBefore s
    → controls (own_at s n) a ≡ true → StopsBehind n a s → EndsAlike (called (ask.Permit false) n a s)
