-- What is between the nodes, as callers see it.
use Rattle.std.specs.Prelude.{ℕ, List}
use Rattle.rh_model.specs.declared.node.App.{App}
use Rattle.rh_model.specs.declared.node.Node.{Node}
use Rattle.rh_otp_model.specs.declared.process.Process.{Process}
use Rattle.rh_otp_net.specs.declared.links.Link.{Link}
use Rattle.rh_otp_net.specs.declared.locks.Held.{Held}
use Rattle.rh_otp_net.specs.declared.timers.Timer.{Timer}
use Rattle.rh_otp_system.specs.declared.calls.Call.{Call}

-- The clock in milliseconds, the numbers of the command and of the last call, the nodes that are alive in the order in which they began,
-- connections, locks, timers, calls, who sleeps before it asks for a lock again, and of what an observer was told that it waits.
pub record NetView : Type 0 where
  pub clock : ℕ
  pub step : ℕ
  pub last_call : ℕ
  pub alive : List Node
  pub links : List Link
  pub locks : List Held
  pub timers : List Timer
  pub calls : List Call
  pub asleep : List Process
  pub told : List (App × Node)
