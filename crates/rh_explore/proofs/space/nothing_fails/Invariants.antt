use Rattle.std.proofs.Common.{◌≡◌, replicate, None}
use Rattle.rh_explore.proofs.space.nothing_fails.Given as goal

abbrev pub invariant-asks : goal.invariant-asks
invariant-asks l = l.firsts.items ≡ replicate l._number None
