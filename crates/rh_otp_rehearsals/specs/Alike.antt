-- When two simulations of live nodes hold the same, and answer the same.
use Rattle.std.specs.Prelude.{◌≡◌, Option, Some, None}
use Rattle.rh_model.specs.declared.node.App.{App}
use Rattle.rh_model.specs.declared.node.Node.{Node}
use Rattle.rh_otp_system.specs.Views.{NetView}
use Rattle.rh_otp_sim.specs.declared.calls.LiveReply.{LiveReply}
use Rattle.rh_otp_sim.specs.declared.calls.LiveReply.TheVariants as reply
use Rattle.rh_otp_sim.specs.declared.lines.Line.{Line}
use Rattle.rh_otp_sim.specs.declared.lines.Line.TheVariants as line
use Rattle.rh_otp_sim.specs.declared.stepping.Outcome.{Outcome}
use Rattle.rh_otp_sim.specs.declared.stepping.Outcome.TheVariants as outcome
use Rattle.rh_otp_sim.specs.Sim.{LiveSimView, live_in, net_in}
use Rattle.rh_otp_sim.specs.Views.{HappenedView}
use Rattle.rh_otp_orders.specs.Orders.{SameOfEach, node_of_timer}

-- the node at which an application was told to wait
abbrev pub node_of_row : App × Node → Option Node
node_of_row row = Some row.1

-- What is between the nodes is the same in both, and each node's own timers, and what was told of it, in the same order. Only how those of
-- different nodes stand beside one another may differ.
pub record NetsAlike (m n : NetView) : Type 0 where
  pub clock : m.clock ≡ n.clock
  pub step : m.step ≡ n.step
  pub last_call : m.last_call ≡ n.last_call
  pub alive : m.alive ≡ n.alive
  pub links : m.links ≡ n.links
  pub locks : m.locks ≡ n.locks
  pub calls : m.calls ≡ n.calls
  pub asleep : m.asleep ≡ n.asleep
  pub timers : SameOfEach node_of_timer m.timers n.timers
  pub told : SameOfEach node_of_row m.told n.told

-- all that each node knows is the same in both, and what is between them is alike
pub record HoldAlike (one other : LiveSimView) : Type 0 where
  pub nodes : (n : Node) → live_in one n ≡ live_in other n
  pub net : NetsAlike (net_in one) (net_in other)

-- the node of which a line tells; the answer to a call of an earlier command is of none
abbrev pub node_of_line : Line → Option Node
node_of_line (line.Up n) = Some n
node_of_line (line.Ended n) = Some n
node_of_line (line.Started a n kind) = Some n
node_of_line (line.Stopped a n) = Some n
node_of_line (line.Failed a n fault) = Some n
node_of_line (line.Answered asked n a verdict) = None
node_of_line (line.Waits a n) = Some n
node_of_line (line.Pending a n) = Some n

-- the answer is the same, and so is what an observer is told of each node, in the same order
pub record ToldAlike (h k : HappenedView) : Type 0 where
  pub answer : h.answer ≡ k.answer
  pub lines : SameOfEach node_of_line h.lines k.lines

-- both are refused, for the same reason, or neither comes to an end, or both do and tell alike
abbrev pub OutcomesAlike : Outcome → Outcome → Type 0
OutcomesAlike (outcome.Done h) (outcome.Done k) = ToldAlike h k
OutcomesAlike o p = o ≡ p

-- a step comes to what is alike, and any other call is answered the very same
abbrev pub RepliesAlike : LiveReply → LiveReply → Type 0
RepliesAlike (reply.Step o) (reply.Step p) = OutcomesAlike o p
RepliesAlike r q = r ≡ q
