use Rattle.std.proofs.Common.{◌≡◌, take}
use Rattle.rh_explore.specs.Failures.{all_told}
use Rattle.rh_explore.proofs.space.fail_at.Given as goal

abbrev pub invariant-fails : goal.invariant-fails
invariant-fails l = l.firsts.items ≡ all_told l.number l.fn.firsts.items (take l.ask-index l.fails)
