-- Starts of a distributed application by which the node waits for another one, and that every order of what comes of one ends alike.
use Rattle.std.specs.Prelude.{◌≡◌, ◌≢◌, ◌⊎◌, ◌==◌, ◌||◌, true, false, Some, None}
use Rattle.rh_model.specs.declared.node.App.{App}
use Rattle.rh_model.specs.declared.node.Node.{Node}
use Rattle.rh_model.specs.declared.settings.Restart.{Restart}
use Rattle.rh_otp_dist.specs.declared.state.Stand.TheVariants as stand
use Rattle.rh_otp_dist.specs.Choosing.{places_of, remote, runs_there}
use Rattle.rh_otp_dist.specs.State.{DistView, standing_of, is_among}
use Rattle.rh_otp_dist.specs.Told.{is_local}
use Rattle.rh_otp_net.specs.Links.{are_linked}
use Rattle.rh_otp_system.specs.declared.calls.Ask.TheVariants as ask
use Rattle.rh_otp_system.specs.Doing.{called}
use Rattle.rh_otp_system.specs.State.{SystemView, node_at, own_at, is_alive_at}
use Rattle.rh_otp_laws.specs.Acting.{IsReached}
use Rattle.rh_otp_crashes.specs.Crashes.{AreAtRest}
use Rattle.rh_otp_crashes.specs.Failovers.{first_of}
use Rattle.rh_otp_stops.specs.Stops.{EndsAlike}
use Rattle.rh_otp_starts.specs.Elsewhere.{candidates_at}
use Rattle.rh_otp_starts.specs.Starts.{IsOverBefore}

-- This other node (`at`) is to run the application, as the node's dist_ac finds: the node itself may run it, and the other one is the first
-- of the list that may, with no tuple before it, is alive and seen, and isn't known to run it; or the node may not run it, and the other
-- one may, while none is known that runs it (dist_ac, start_distributed/6, find_start_node/5). It doesn't run at the node itself.
pub record IsLeftTo (n : Node) (a : App) (d : DistView) (s : SystemView) : Type 0 where
  pub at : Node
  pub other : at.0 ≢ n.0
  pub not_here : is_local (standing_of d a) ≡ false
  pub found : ((is_among n (candidates_at (own_at s n) a d) ≡ true)
      × (first_of (candidates_at (own_at s n) a d) (places_of (own_at s n) a) ≡ Some at) × (runs_there d a at ≡ false)
      × (is_alive_at s at ≡ true) × ((n.0 == at.0 || are_linked n at s.links) ≡ true))
      ⊎ ((is_among n (candidates_at (own_at s n) a d) ≡ false) × (remote d a ≡ None)
      × (is_among at (candidates_at (own_at s n) a d) ≡ true))

-- A start of an application ends alike, where the node's dist_ac, if it takes whatever comes, leaves it to another node: the call stays
-- open, until that node starts the application (application(3), start/2; kernel(6), `distributed`).
abbrev pub StartsLeftEndAlike : Type 0
StartsLeftEndAlike = (s : SystemView) (n : Node) (a : App) (restart : Restart) → IsReached s → AreAtRest s → IsOverBefore s
    → ((d : DistView) → (node_at s n).dist ≡ Some d → d.stand ≡ stand.Idle → IsLeftTo n a d s)
    → EndsAlike (called (ask.Start restart) n a s)
