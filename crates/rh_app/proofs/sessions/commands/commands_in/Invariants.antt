use Rattle.std.proofs.Common.{◌≡◌, ◌≤◌, ◌+◌, ◌++◌, length, map}
use Rattle.rh_script.specs.Lines.{raw_lines, content}
use Rattle.rh_app.specs.Histories.{session_lines_asked, commands_of, bad_session_line}
use Rattle.rh_app.proofs.sessions.commands.commands_in.Given as goal

abbrev pub invariant-lines : goal.invariant-lines
invariant-lines l = record {
  script : bad_session_line 1 0 (session_lines_asked l.cluster (map content (raw_lines l.script)))
      ≡ bad_session_line l.number (length l.commands.items) (session_lines_asked l.cluster (map content (raw_lines l.rest)));
  commands : commands_of (session_lines_asked l.cluster (map content (raw_lines l.script)))
      ≡ l.commands.items ++ commands_of (session_lines_asked l.cluster (map content (raw_lines l.rest)));
  count : l.number + length l.rest ≤ length l.script + 1;
}

abbrev pub decreases-lines : goal.decreases-lines
decreases-lines l = length l.rest
