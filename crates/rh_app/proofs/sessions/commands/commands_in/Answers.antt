use Rattle.std.proofs.Common.{map}
use Rattle.rh_script.specs.Lines.{raw_lines, content}
use Rattle.rh_app.proofs.SessionScripts.{all_numbered}
use Rattle.rh_app.proofs.sessions.commands.commands_in.Goals as goal

pub returns-clause-sessions : goal.returns-clause-sessions
returns-clause-sessions c =
    all_numbered c.args.cluster.now (map content (raw_lines c.args.script.now))
    (map content (raw_lines c.lines.rest.now)) c.lines.commands.items c.lines.invariant.commands
