-- What has happened at a command, as callers see it (ours).
use Rattle.std.specs.Prelude.{List}
use Rattle.rh_otp_sim.specs.declared.lines.Answer.{Answer}
use Rattle.rh_otp_sim.specs.declared.lines.Line.{Line}

-- the answer to the command, and what an observer is told, in its order
pub record HappenedView : Type 0 where
  pub answer : Answer
  pub lines : List Line
