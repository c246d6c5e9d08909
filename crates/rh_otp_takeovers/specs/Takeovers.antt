-- Takeovers of a distributed application by a call of an operator, and that every order of what comes of one ends alike.
use Rattle.std.specs.Prelude.{◌≡◌, Some}
use Rattle.rh_model.specs.declared.node.App.{App}
use Rattle.rh_model.specs.declared.node.Node.{Node}
use Rattle.rh_model.specs.declared.settings.Restart.{Restart}
use Rattle.rh_otp_dist.specs.declared.state.Stand.TheVariants as stand
use Rattle.rh_otp_dist.specs.declared.state.Standing.TheVariants as standing
use Rattle.rh_otp_dist.specs.State.{DistView, standing_of}
use Rattle.rh_otp_system.specs.declared.calls.Ask.TheVariants as ask
use Rattle.rh_otp_system.specs.Doing.{called}
use Rattle.rh_otp_system.specs.State.{SystemView, node_at}
use Rattle.rh_otp_laws.specs.Acting.{IsReached}
use Rattle.rh_otp_crashes.specs.Crashes.{AreAtRest}
use Rattle.rh_otp_crashes.specs.Failovers.{SeesAll}
use Rattle.rh_otp_stops.specs.Stops.{EndsAlike}
use Rattle.rh_otp_starts.specs.Starts.{IsOverBefore}

-- The node's dist_ac takes whatever comes, and has the application, which is started there, too, as one that runs elsewhere (`at`), from
-- where a takeover moves it (dist_ac, takeover_application/2).
pub record IsKnownElsewhere (n : Node) (a : App) (s : SystemView) : Type 0 where
  pub dist : DistView
  pub has : (node_at s n).dist ≡ Some dist
  pub takes_all : dist.stand ≡ stand.Idle
  pub at : Node
  pub runs : standing_of dist a ≡ standing.Distributed at

-- A takeover of any application ends alike: where it moves to the node, where its start there fails, which may end the node, where it is
-- refused, and where the call stays open. Where the node's dist_ac has it so, as one that runs elsewhere, nobody waits at the node for a
-- takeover, and the node sees all those that are alive and of which its dist_ac knows (application(3), takeover/2; kernel(6),
-- `distributed`).
abbrev pub TakeoversEndAlike : Type 0
TakeoversEndAlike = (s : SystemView) (n : Node) (a : App) (restart : Restart) → IsReached s → AreAtRest s → IsOverBefore s
    → (IsKnownElsewhere n a s → SeesAll n s) → EndsAlike (called (ask.Takeover restart) n a s)
