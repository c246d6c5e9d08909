use Rattle.std.proofs.Common.{◌≡◌, ◌++◌, map, take}
use Rattle.rh_script.specs.declared.session_lines.Command.{Command}
use Rattle.rh_app.specs.Histories.{answered}
use Rattle.rh_app.proofs.sessions.threads.make_all.Given as goal

-- so far the session was answered its commands
abbrev pub invariant-loop-command : goal.invariant-loop-command
invariant-loop-command g l = record {
  session : l.pass.session ≡ l.fn.pass.session;
  answered : answered l.pass ≡ answered l.fn.pass ++ map (λ (c : Command). c.call) (take l.command-index l.commands);
}
