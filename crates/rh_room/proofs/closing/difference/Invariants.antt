use Rattle.rh_room.proofs.Differences.{HasMet}
use Rattle.rh_room.proofs.closing.difference.Given as goal

abbrev pub invariant-loop-place : goal.invariant-loop-place
invariant-loop-place l = HasMet l.receipts l.session l.log l.met l.place
