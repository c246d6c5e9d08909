use Rattle.std.proofs.Common.{◌≡◌, ◌≤◌, ◌++◌, ℕ, length, take, drop}
use Rattle.rh_base.specs.Exchanges.{back, backed}
use Rattle.rh_state.specs.Edits.{exchange, turned}
use Rattle.rh_trail.specs.Chain.{chain}
use Rattle.rh_trail.proofs.sim.Sim.undo_all.Given as goal

abbrev pub invariant-steps : goal.invariant-steps
invariant-steps l = record {
  count : l.count ≡ l.fn.self.seen.cursor;
  within : l.self.seen.cursor ≤ l.fn.self.seen.cursor;
  seen : l.self.seen ≡ record l.fn.self.seen { cursor = l.self.seen.cursor };
  chain : (k : ℕ) → k ≤ length l.fn.self.seen.trail → chain l.self k ≡ chain l.fn.self k;
  words : l.self.words ≡ back (back exchange) l.fn.self.words (drop l.self.seen.cursor (take l.fn.self.seen.cursor l.fn.self.records));
  records : l.self.records ≡ take l.self.seen.cursor (take l.fn.self.seen.cursor l.fn.self.records)
      ++ backed (back exchange) (backed exchange turned) l.fn.self.words (drop l.self.seen.cursor (take l.fn.self.seen.cursor l.fn.self.records))
      ++ drop l.fn.self.seen.cursor l.fn.self.records;
}

abbrev pub decreases-steps : goal.decreases-steps
decreases-steps l = l.self.seen.cursor
