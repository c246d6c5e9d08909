-- Permits of a distributed application that runs elsewhere, and that every order of what comes of one ends alike.
use Rattle.std.specs.Prelude.{◌≡◌, true, false, Some}
use Rattle.rh_model.specs.declared.node.App.{App}
use Rattle.rh_model.specs.declared.node.Node.{Node}
use Rattle.rh_otp_model.specs.Own.{OwnView, controls}
use Rattle.rh_otp_dist.specs.declared.state.Stand.TheVariants as stand
use Rattle.rh_otp_dist.specs.State.{DistView, standing_of, with_permission}
use Rattle.rh_otp_dist.specs.Told.{is_local}
use Rattle.rh_otp_system.specs.declared.calls.Ask.TheVariants as ask
use Rattle.rh_otp_system.specs.Doing.{called}
use Rattle.rh_otp_system.specs.State.{SystemView, node_at, own_at}
use Rattle.rh_otp_laws.specs.Acting.{IsReached}
use Rattle.rh_otp_crashes.specs.Crashes.{AreAtRest}
use Rattle.rh_otp_stops.specs.Stops.{EndsAlike}
use Rattle.rh_otp_starts.specs.Elsewhere.{RunsElsewhere}
use Rattle.rh_otp_starts.specs.Starts.{IsOverBefore}
use Rattle.rh_otp_moves.specs.Stopping.{SeesList}

-- The application doesn't run at the node, and behind the permit the node's dist_ac finds that it runs elsewhere (dist_ac, permit/6,
-- start_distributed/6, find_start_node/5).
pub record IsFoundThen (own : OwnView) (n : Node) (a : App) (d : DistView) : Type 0 where
  pub not_here : is_local (standing_of d a) ≡ false
  pub elsewhere : RunsElsewhere own n a (with_permission n a true d)

-- So it is, if the node's dist_ac takes whatever comes, and the node sees the list (ours).
pub record FindsElsewhere (n : Node) (a : App) (s : SystemView) : Type 0 where
  pub sees_list : SeesList n a s
  pub finds : (d : DistView) → (node_at s n).dist ≡ Some d → d.stand ≡ stand.Idle → IsFoundThen (own_at s n) n a d

-- A call that permits a distributed application that runs elsewhere ends alike: it runs there on (application(3), permit/2; kernel(6),
-- `distributed`).
abbrev pub PermitsElsewhereEndAlike : Type 0
PermitsElsewhereEndAlike = (s : SystemView) (n : Node) (a : App) → IsReached s → AreAtRest s → IsOverBefore s
    → controls (own_at s n) a ≡ true → FindsElsewhere n a s → EndsAlike (called (ask.Permit true) n a s)
