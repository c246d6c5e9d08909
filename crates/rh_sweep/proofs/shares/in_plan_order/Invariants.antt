use Rattle.std.proofs.Common.{◌≡◌, take, map, length}
use Rattle.rh_outcomes.specs.Outcomes.{outcome_of}
use Rattle.rh_sweep.proofs.Turns.{AreTurns}
use Rattle.rh_sweep.proofs.shares.in_plan_order.Given as goal

abbrev pub invariant-loop-number : goal.invariant-loop-number
invariant-loop-number l = record {
  turns : AreTurns l.base.seen l.plans (length l.fn.parts.items) l._number (map (λ turn. turn.items) l.turns.items);
  outcomes : l.outcomes.items ≡ map (outcome_of l.base.seen) (take l._number l.plans);
}
