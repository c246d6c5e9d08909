use Rattle.std.proofs.Common.{◌≤◌, ◌<◌, length, refl, sym, ◌∙◌, subst, arith}
use Rattle.rh_state.specs.Stored.{Stored, read}
use Rattle.rh_trace.specs.Validity.{IsValid}
use Rattle.rh_explore.proofs.Leading.{none_fails, holds_next, fails_next, all_looked_at}
use Rattle.rh_explore.proofs.worker.Worker.marks.Goals as goal

pub asks-init : goal.asks-init
asks-init c =
    let s = c.args.search.now in
    record {
      state = refl;
      calm = c.requires.calm;
      tried = refl;
      entered = refl;
      fails = none_fails s.pick c.args.known.now.firsts.now s.asks.now (read c.args.state.now) c.new-fails.result.items c.new-fails.ensures.items;
    }

pub fails_first-requires-clause-valid : goal.fails_first-requires-clause-valid
fails_first-requires-clause-valid c = subst (λ (z : Stored). IsValid (read z)) (sym c.asks.invariant.state) c.requires.valid

pub asks-preserved-then-not-failed : goal.asks-preserved-then-not-failed
asks-preserved-then-not-failed c =
    let s = c.args.search.now in
    let i = c.asks.invariant in
    record {
      state = c.in_ok-failed.ensures.state ∙ i.state;
      calm = c.in_ok-failed.ensures.calm;
      tried = c.in_ok-failed.ensures.tried ∙ i.tried;
      entered = c.in_ok-failed.ensures.entered ∙ i.entered;
      fails = holds_next s.pick c.args.known.now.firsts.now s.asks.now c.args.state.now c.asks.state c.asks.number c.asks.fails.items c.in_ok-failed.failed i.state
          c.if-not-failed.true c.in_ok-failed.ensures.fails i.fails;
    }

pub asks-preserved : goal.asks-preserved
asks-preserved c =
    let s = c.args.search.now in
    let i = c.asks.invariant in
    let within : c.asks.number < length s.asks.now = omega arith in
    record {
      state = c.in_ok-failed.ensures.state ∙ i.state;
      calm = c.in_ok-failed.ensures.calm;
      tried = c.in_ok-failed.ensures.tried ∙ i.tried;
      entered = c.in_ok-failed.ensures.entered ∙ i.entered;
      fails = fails_next s.pick c.args.known.now.firsts.now s.asks.now c.args.state.now c.asks.state c.asks.number c.asks.fails.items c.push.new.self.items
          c.in_ok-failed.failed i.state c.if-not-failed.false within c.in_ok-failed.ensures.fails c.in_ok-push.ensures.items i.fails;
    }

pub returns-clause-fails : goal.returns-clause-fails
returns-clause-fails c =
    let s = c.args.search.now in
    let past : length s.asks.now ≤ c.asks.number = omega arith in
    all_looked_at s.pick c.args.known.now.firsts.now s.asks.now (read c.args.state.now) c.asks.number c.asks.fails.items past c.asks.invariant.fails
