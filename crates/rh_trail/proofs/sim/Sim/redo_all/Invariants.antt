use Rattle.std.proofs.Common.{◌≡◌, ◌≤◌, ◌++◌, ◌-◌, ℕ, length, take, drop}
use Rattle.rh_base.specs.Exchanges.{forth, forthed}
use Rattle.rh_state.specs.Edits.{exchange, turned}
use Rattle.rh_trail.specs.Chain.{chain}
use Rattle.rh_trail.proofs.sim.Sim.redo_all.Given as goal

abbrev pub invariant-steps : goal.invariant-steps
invariant-steps l = record {
  end : l.end ≡ length l.fn.self.seen.trail;
  count : l.count ≡ length l.fn.self.seen.trail - l.fn.self.seen.cursor;
  reached : l.fn.self.seen.cursor ≤ l.self.seen.cursor;
  within : l.self.seen.cursor ≤ length l.fn.self.seen.trail;
  seen : l.self.seen ≡ record l.fn.self.seen { cursor = l.self.seen.cursor };
  chain : (k : ℕ) → k ≤ length l.fn.self.seen.trail → chain l.self k ≡ chain l.fn.self k;
  words : l.self.words ≡ forth (forth exchange) l.fn.self.words
      (take (l.self.seen.cursor - l.fn.self.seen.cursor) (drop l.fn.self.seen.cursor l.fn.self.records));
  records : l.self.records ≡ take l.fn.self.seen.cursor l.fn.self.records
      ++ (forthed (forth exchange) (forthed exchange turned) l.fn.self.words
      (take (l.self.seen.cursor - l.fn.self.seen.cursor) (drop l.fn.self.seen.cursor l.fn.self.records))
      ++ drop (l.self.seen.cursor - l.fn.self.seen.cursor) (drop l.fn.self.seen.cursor l.fn.self.records));
}

abbrev pub decreases-steps : goal.decreases-steps
decreases-steps l = l.end - l.self.seen.cursor
