use Rattle.std.proofs.Common.{◌≡◌, ℕ, take}
use Rattle.rh_trail.specs.Chain.{chain}
use Rattle.rh_trail.specs.Lone.{sim_after}
use Rattle.rh_app.specs.Laws.{KeepsTo}
use Rattle.rh_app.proofs.laws.answer_all.Given as goal

-- so far the calls were answered as one caller's are, and the words stay behind as many events as they leave
abbrev pub invariant-loop-call : goal.invariant-loop-call
invariant-loop-call l = record {
  seen : l.sim.seen ≡ sim_after l.fn.sim.seen (take l.call-index l.calls);
  chain : (k : ℕ) → KeepsTo l.fn.sim.seen (take l.call-index l.calls) k → chain l.sim k ≡ chain l.fn.sim k;
}
