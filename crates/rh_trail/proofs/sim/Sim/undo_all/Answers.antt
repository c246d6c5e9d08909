use Rattle.std.proofs.Common.{◌≡◌, ◌≢◌, length, take, drop, sym, ap, ◌∙◌, arith}
use Rattle.rh_trail.specs.Chain.{backs}
use Rattle.rh_trail.specs.SimView.{Held}
use Rattle.rh_trail.proofs.Chains.{chain_below}
use Rattle.rh_trail.proofs.Rewinding.{back_cursor, back_seen_from, back_words, back_records}
use Rattle.rh_trail.proofs.sim.Sim.undo_all.Goals as goal

some : (c : goal.After-undo) → c.steps.self.seen.cursor ≢ 0
some c = λ e. absurd (omega (arith, e, c.cursor.ensures.cursor, c.steps-test.true))

pub steps-preserved : goal.steps-preserved
steps-preserved c =
    let i = c.steps.invariant in
    let o : Held = c.args.self.now in
    let s : Held = c.steps.self in
    let t : Held = c.undo.new.self in
    let u = c.undo.ensures in
    let fell = back_cursor o s t c.is_chained.ensures i.seen i.chain c.undo.result i.within (some c) i.words i.records u.answer u.words u.records in
    record {
      count = i.count;
      within = omega (arith, fell, i.within);
      seen = back_seen_from o s t c.is_chained.ensures i.seen i.chain c.undo.result i.within (some c) i.words i.records u.answer u.words u.records;
      chain = λ k bound. u.chain k (omega (arith, bound, ap (λ v. length v.trail) i.seen)) ∙ i.chain k bound;
      words = back_words o s t c.is_chained.ensures i.seen i.chain c.undo.result i.within (some c) i.words i.records u.answer u.words u.records;
      records = back_records o s t c.is_chained.ensures i.seen i.chain c.undo.result i.within (some c) i.words i.records u.answer u.words u.records;
    }

pub returns-clause-words : goal.returns-clause-words
returns-clause-words c =
    let o : Held = c.args.self.now in
    let none : c.steps.self.seen.cursor ≡ 0 = omega (arith, c.cursor.ensures.cursor, c.steps-test.false) in
    c.steps.invariant.words
    ∙ ap (λ n. backs o.words (drop n (take o.seen.cursor o.records))) none
    ∙ sym (chain_below o.words o.records o.seen.cursor 0 (omega arith))
