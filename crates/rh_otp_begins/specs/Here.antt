-- Starts of a distributed application at the node that is to run it, and that every order of what comes of one ends alike.
use Rattle.std.specs.Prelude.{◌≡◌, false, Some}
use Rattle.rh_model.specs.declared.node.App.{App}
use Rattle.rh_model.specs.declared.node.Node.{Node}
use Rattle.rh_model.specs.declared.settings.Restart.{Restart}
use Rattle.rh_otp_model.specs.Own.{OwnView}
use Rattle.rh_otp_dist.specs.declared.state.Stand.TheVariants as stand
use Rattle.rh_otp_dist.specs.Choosing.{places_of, runs_there}
use Rattle.rh_otp_dist.specs.State.{DistView}
use Rattle.rh_otp_system.specs.declared.calls.Ask.TheVariants as ask
use Rattle.rh_otp_system.specs.Doing.{called}
use Rattle.rh_otp_system.specs.State.{SystemView, node_at, own_at}
use Rattle.rh_otp_laws.specs.Acting.{IsReached}
use Rattle.rh_otp_crashes.specs.Crashes.{AreAtRest}
use Rattle.rh_otp_crashes.specs.Failovers.{SeesAll, first_of}
use Rattle.rh_otp_stops.specs.Stops.{EndsAlike}
use Rattle.rh_otp_starts.specs.Elsewhere.{candidates_at}
use Rattle.rh_otp_starts.specs.Starts.{IsOverBefore}

-- The node's dist_ac finds its own node to be the first of the list that may run the application, with no tuple before it, and doesn't know
-- it to run there (dist_ac, find_start_node/5).
pub record IsChosen (own : OwnView) (n : Node) (a : App) (d : DistView) : Type 0 where
  pub first : first_of (candidates_at own a d) (places_of own a) ≡ Some n
  pub not_yet : runs_there d a n ≡ false

-- The node's dist_ac, if it takes whatever comes, chooses its own node. Nobody waits at the node for a takeover, and it sees all those that
-- are alive and of which its dist_ac knows (ours).
pub record StartsHere (n : Node) (a : App) (s : SystemView) : Type 0 where
  pub chooses : (d : DistView) → (node_at s n).dist ≡ Some d → d.stand ≡ stand.Idle → IsChosen (own_at s n) n a d
  pub sees_all : SeesAll n s

-- A start of any application ends alike, where the application is to run at the node itself: there it starts, as a takeover where another
-- node is known to run it, or fails to, since what it needs doesn't run there, which may end the node; the others are told of it, and the
-- start is answered (application(3), start/2; kernel(6), `distributed`).
abbrev pub StartsHereEndAlike : Type 0
StartsHereEndAlike = (s : SystemView) (n : Node) (a : App) (restart : Restart) → IsReached s → AreAtRest s → IsOverBefore s
    → StartsHere n a s → EndsAlike (called (ask.Start restart) n a s)
