-- Starts of a distributed application that no node may run, and that every order of what comes of one ends alike.
use Rattle.std.specs.Prelude.{◌≡◌, [], Some, None}
use Rattle.rh_model.specs.declared.node.App.{App}
use Rattle.rh_model.specs.declared.node.Node.{Node}
use Rattle.rh_model.specs.declared.settings.Restart.{Restart}
use Rattle.rh_otp_model.specs.Own.{OwnView}
use Rattle.rh_otp_dist.specs.declared.state.Stand.TheVariants as stand
use Rattle.rh_otp_dist.specs.Choosing.{remote}
use Rattle.rh_otp_dist.specs.State.{DistView}
use Rattle.rh_otp_system.specs.declared.calls.Ask.TheVariants as ask
use Rattle.rh_otp_system.specs.Doing.{called}
use Rattle.rh_otp_system.specs.State.{SystemView, node_at, own_at}
use Rattle.rh_otp_laws.specs.Acting.{IsReached}
use Rattle.rh_otp_crashes.specs.Crashes.{AreAtRest}
use Rattle.rh_otp_stops.specs.Stops.{EndsAlike}
use Rattle.rh_otp_starts.specs.Elsewhere.{candidates_at}
use Rattle.rh_otp_starts.specs.Starts.{IsOverBefore}

-- No node of the application's list may run it, as the node's dist_ac knows, and it knows of none at which it runs (dist_ac,
-- start_distributed/6).
pub record RunsNowhere (own : OwnView) (a : App) (d : DistView) : Type 0 where
  pub nobody : candidates_at own a d ≡ []
  pub unknown : remote d a ≡ None

-- A start of any application ends alike, where the node's dist_ac, if it takes whatever comes, knows no node that may run it or runs it
-- (application(3), start/2; kernel(6), `distributed`).
abbrev pub StartsNowhereEndAlike : Type 0
StartsNowhereEndAlike = (s : SystemView) (n : Node) (a : App) (restart : Restart) → IsReached s → AreAtRest s → IsOverBefore s
    → ((d : DistView) → (node_at s n).dist ≡ Some d → d.stand ≡ stand.Idle → RunsNowhere (own_at s n) a d)
    → EndsAlike (called (ask.Start restart) n a s)
