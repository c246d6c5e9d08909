-- Starts of a distributed application at a node that finds it running at another one, and that every order of what comes of one ends alike.
use Rattle.std.specs.Prelude.{◌≡◌, ◌⊎◌, List, true, false, Some, None}
use Rattle.rh_model.specs.declared.node.App.{App}
use Rattle.rh_model.specs.declared.node.Node.{Node}
use Rattle.rh_model.specs.declared.settings.Restart.{Restart}
use Rattle.rh_otp_model.specs.Own.{OwnView}
use Rattle.rh_otp_dist.specs.declared.attempt.AskedBy.TheVariants as asked
use Rattle.rh_otp_dist.specs.declared.state.Stand.TheVariants as stand
use Rattle.rh_otp_dist.specs.Choosing.{places_of, candidates_of, remote, runs_there}
use Rattle.rh_otp_dist.specs.State.{DistView, permitted, is_among}
use Rattle.rh_otp_dist.specs.Views.{AttemptView}
use Rattle.rh_otp_system.specs.declared.calls.Ask.TheVariants as ask
use Rattle.rh_otp_system.specs.Doing.{called}
use Rattle.rh_otp_system.specs.State.{SystemView, node_at, own_at}
use Rattle.rh_otp_laws.specs.Acting.{IsReached}
use Rattle.rh_otp_crashes.specs.Crashes.{AreAtRest}
use Rattle.rh_otp_crashes.specs.Failovers.{first_of}
use Rattle.rh_otp_stops.specs.Stops.{EndsAlike}
use Rattle.rh_otp_starts.specs.Starts.{IsOverBefore}

-- the start of an application for which the controller asks, with the nodes that may run it (ours)
abbrev pub asked_attempt : DistView → App → AttemptView
asked_attempt d a = record { app = a; asked_by = asked.Controller; permitted = permitted d a; permit = None }

-- the nodes of the list that may run it (ours)
abbrev pub candidates_at : OwnView → App → DistView → List Node
candidates_at own a d = candidates_of own (asked_attempt d a)

-- The node's dist_ac knows of a node at which the application runs (`at`). The node itself may run the application, and that one is the
-- first of the list that may; or the node may not run it, wherever that one stands (dist_ac, start_distributed/6, find_start_node/5).
pub record RunsElsewhere (own : OwnView) (n : Node) (a : App) (d : DistView) : Type 0 where
  pub at : Node
  pub found : ((is_among n (candidates_at own a d) ≡ true) × (first_of (candidates_at own a d) (places_of own a) ≡ Some at)
      × (runs_there d a at ≡ true))
      ⊎ ((is_among n (candidates_at own a d) ≡ false) × (remote d a ≡ Some at))

-- A start of any application ends alike, where the node's dist_ac, if it takes whatever comes, knows that the application runs elsewhere
-- (application(3), start/2; kernel(6), `distributed`).
abbrev pub StartsElsewhereEndAlike : Type 0
StartsElsewhereEndAlike = (s : SystemView) (n : Node) (a : App) (restart : Restart) → IsReached s → AreAtRest s → IsOverBefore s
    → ((d : DistView) → (node_at s n).dist ≡ Some d → d.stand ≡ stand.Idle → RunsElsewhere (own_at s n) n a d)
    → EndsAlike (called (ask.Start restart) n a s)
