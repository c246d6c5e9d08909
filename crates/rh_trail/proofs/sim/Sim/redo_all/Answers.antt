use Rattle.std.proofs.Common.{◌≡◌, ◌<◌, ◌-◌, length, sym, ap, ◌∙◌, arith}
use Rattle.rh_trail.specs.SimView.{SimView, Held}
use Rattle.rh_trail.proofs.Chains.{chain_above}
use Rattle.rh_trail.proofs.Rewinding.{forth_cursor, forth_seen_from, forth_words, forth_records}
use Rattle.rh_trail.proofs.sim.Sim.redo_all.Goals as goal

pub steps-preserved : goal.steps-preserved
steps-preserved c =
    let i = c.steps.invariant in
    let o : Held = c.args.self.now in
    let s : Held = c.steps.self in
    let t : Held = c.redo.new.self in
    let u = c.redo.ensures in
    let more : s.seen.cursor < length o.seen.trail = omega (arith, c.cursor-in-steps.ensures.cursor, c.steps-test.true, i.end) in
    let rose = forth_cursor o s t c.is_chained.ensures i.seen i.chain c.redo.result i.reached more i.words i.records u.answer u.words u.records in
    record {
      end = i.end;
      count = i.count;
      reached = omega (arith, rose, i.reached);
      within = omega (arith, rose, more);
      seen = forth_seen_from o s t c.is_chained.ensures i.seen i.chain c.redo.result i.reached more i.words i.records u.answer u.words u.records;
      chain = λ k bound. u.chain k (omega (arith, bound, ap (λ (v : SimView). length v.trail) i.seen)) ∙ i.chain k bound;
      words = forth_words o s t c.is_chained.ensures i.seen i.chain c.redo.result i.reached more i.words i.records u.answer u.words u.records;
      records = forth_records o s t c.is_chained.ensures i.seen i.chain c.redo.result i.reached more i.words i.records u.answer u.words u.records;
    }

pub returns-clause-words : goal.returns-clause-words
returns-clause-words c =
    let o : Held = c.args.self.now in
    let i = c.steps.invariant in
    let all : c.steps.self.seen.cursor ≡ length o.seen.trail = omega (arith, c.cursor-in-steps.ensures.cursor, c.steps-test.false, i.end, i.within) in
    i.words
    ∙ sym (chain_above o.words o.records o.seen.cursor (length o.seen.trail) (c.steps.self.seen.cursor - o.seen.cursor)
    (omega (arith, c.is_chained.ensures.count, c.is_chained.ensures.within)) (omega (arith, all, i.reached)))
