-- Which applications a dist_ac starts (dist_ac, start_appl/3, start_distributed/6).
use Rattle.std.specs.Prelude.{◌≡◌, ◌++◌, ◌⊎◌, Bool, true, false, List, All, Option}
use Rattle.rh_model.specs.declared.node.App.{App}
use Rattle.rh_model.specs.declared.node.Node.{Node}
use Rattle.rh_otp_model.specs.declared.message.Change.{Change}
use Rattle.rh_otp_model.specs.declared.message.Change.TheVariants as change
use Rattle.rh_otp_model.specs.declared.message.Message.{Message}
use Rattle.rh_otp_model.specs.declared.message.Message.TheVariants as message
use Rattle.rh_otp_model.specs.declared.message.Reply.{Reply}
use Rattle.rh_otp_model.specs.declared.message.Reply.TheVariants as reply
use Rattle.rh_otp_model.specs.declared.output.Output.{Output}
use Rattle.rh_otp_model.specs.declared.output.Output.TheVariants as output
use Rattle.rh_otp_dist.specs.declared.attempt.AskedBy.{AskedBy}
use Rattle.rh_otp_dist.specs.Choosing.{backwards, start_distributed, start_appl}
use Rattle.rh_otp_dist.specs.State.{TurnView, may_run, is_among}
use Rattle.rh_otp_dist.specs.Views.{AttemptView, PermitCallView, WeighingView}
use Rattle.rh_otp_dist.specs.Waiting.{weighed_by}

abbrev pub is_start_reply : Reply → Bool
is_start_reply reply.StartIt = true
is_start_reply (reply.Takeover n) = true
is_start_reply r = false

abbrev pub is_start_change : Change → Bool
is_start_change change.StartIt = true
is_start_change (change.Takeover n restart) = true
is_start_change (change.Failover n) = true
is_start_change c = false

-- does it tell a controller to start an application now?
abbrev pub is_start : Message → Bool
is_start (message.Reply a r) = is_start_reply r
is_start (message.Change a c) = is_start_change c
is_start m = false

abbrev pub IsNoStart : Output → Type 0
IsNoStart (output.Send e) = is_start e.message ≡ false
IsNoStart o = Unit {0}

-- what was done in between is no start
pub record TellsNoStart (t u : TurnView) : Type 0 where
  pub more : List Output
  pub behind : u.out ≡ t.out ++ more
  pub each : All IsNoStart more

-- A dist_ac doesn't tell its controller to start an application that isn't of its node's own list, or that the node may not run, as far
-- as it knows: not at the beginning of a start, and not when it looks for a node once more. And when weights have come, whatever they
-- are, it starts nothing that isn't of the list.
pub record StartsWhereItMay : Type 0 where
  pub first : (a : App) (asked_by : AskedBy) (permit : Option PermitCallView) (t : TurnView)
      → (is_among t.here.node (backwards t.own a) ≡ false) ⊎ (may_run t.state t.here.node a ≡ false)
      → TellsNoStart t (start_appl a asked_by permit t)
  pub again : (attempt : AttemptView) (t : TurnView)
      → (is_among t.here.node (backwards t.own attempt.app) ≡ false) ⊎ (is_among t.here.node attempt.permitted ≡ false)
      → TellsNoStart t (start_distributed attempt t)
  pub weighing : (w : WeighingView) (nodes : List Node) (m : Message) (t : TurnView)
      → is_among t.here.node (backwards t.own w.attempt.app) ≡ false → TellsNoStart t (weighed_by w nodes m t)
