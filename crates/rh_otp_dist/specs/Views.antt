-- The parts of a dist_ac's state that are kept for later.
use Rattle.std.specs.Prelude.{ℕ, List, Option}
use Rattle.rh_model.specs.declared.node.App.{App}
use Rattle.rh_model.specs.declared.node.Node.{Node}
use Rattle.rh_otp_model.specs.declared.process.Process.{Process}
use Rattle.rh_otp_dist.specs.declared.state.Standing.{Standing}
use Rattle.rh_otp_dist.specs.declared.state.Told.{Told}
use Rattle.rh_otp_dist.specs.declared.attempt.AskedBy.{AskedBy}

-- A call of permit for which an application is started. If nothing is started here, the state stays as it was before: these are
-- its parts.
pub record PermitCallView : Type 0 where
  pub caller : Process
  pub standing : Standing
  pub remote_started : List (App × Node)
  pub started : List App
  pub tmp_locals : List Told
  pub tmp_weights : List (App × ℕ)

-- a start of an application, start_appl/3, with the nodes that may run it
pub record AttemptView : Type 0 where
  pub app : App
  pub asked_by : AskedBy
  pub permitted : List Node
  pub permit : Option PermitCallView

-- wait_dacs/4: it waits for what the first of these nodes knows
pub record IntroducingView : Type 0 where
  pub nodes : List Node
  pub known : List Node
  pub remote_started : List (App × Node)

-- collect_answers/4: it waits for the weight of the first of these nodes, to choose a node of the tuple at this place
pub record WeighingView : Type 0 where
  pub attempt : AttemptView
  pub place : ℕ
  pub candidates : List Node
  pub answers : List (ℕ × Node)
  pub nodes : List Node

-- what waits in permit/6 for one of these nodes to start an application
pub record PermitWaitView : Type 0 where
  pub caller : Process
  pub nodes : List Node
