use Rattle.std.proofs.Common.{◌≡◌, map, Some}
use Rattle.rh_sweep.specs.Working.{given}
use Rattle.rh_sweep.proofs.shares.turns_of.Given as goal

abbrev pub invariant-loop-part : goal.invariant-loop-part
invariant-loop-part l = map (λ turn. Some turn.items) l.turns.items ≡ map given l.yielded
