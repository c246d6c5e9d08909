use Rattle.std.proofs.Common.{◌≡◌, fold, take}
use Rattle.rh_room.specs.Legal.{IsSession, session_limit}
use Rattle.rh_app.specs.Histories.{greater}
use Rattle.rh_app.proofs.sessions.threads.session_count.Given as goal

abbrev pub invariant-loop-command : goal.invariant-loop-command
invariant-loop-command l = record {
  count : l.count ≡ fold greater 1 (take l.command-index l.commands);
  few : IsSession session_limit l.count;
}
