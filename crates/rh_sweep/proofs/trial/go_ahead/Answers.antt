use Rattle.std.proofs.Common.{◌≡◌, ◌≢◌, ◌+◌, ◌<◌, ap, sym, ◌∙◌, count_by, arith, rules, subst, List, length}
use Rattle.rh_rules.specs.declared.event.Event.TheVariants.{Boot}
use Rattle.rh_rules.specs.declared.refusal.Refusal.TheVariants.{OutOfMemory}
use Rattle.rh_model.specs.ClusterView.{numbered}
use Rattle.rh_rules.specs.declared.notice.Notice.{Notice}
use Rattle.rh_trail.specs.Lone.{trail_limit}
use Rattle.rh_outcomes.specs.Outcomes.{is_failover, is_takeover}
use Rattle.rh_sweep.proofs.Trying.{Along, along-start, along-more, along-end, along-refused}
use Rattle.rh_sweep.proofs.trial.go_ahead.Goals as goal

pub loop-index-init : goal.loop-index-init
loop-index-init g c = record {
  failovers = omega arith;
  takeovers = omega arith;
  along = λ base s at room. along-start (g.S.Steps.stands c.args.steps.now base) s c.args.events.now at;
}

pub advance-requires : goal.advance-requires
advance-requires g c =
    let a = c.loop-index.invariant.along c.requires.0 c.requires.1 c.requires.2 c.requires.3 in
    (c.requires.0, a.here, a.there)

pub overflow_add-failovers : goal.overflow_add-failovers
overflow_add-failovers g c = omega (arith, c.requires.3, c.loop-index.invariant.failovers, c.failovers_in.type_inv, c.loop-index-test.true)

pub overflow_add-takeovers : goal.overflow_add-takeovers
overflow_add-takeovers g c = omega (arith, c.requires.3, c.loop-index.invariant.takeovers, c.takeovers_in.type_inv, c.loop-index-test.true)

pub overflow_cast-result : goal.overflow_cast-result
overflow_cast-result g c = omega (arith, c.requires.3, c.loop-index-test.true)

pub overflow_cast-result-2 : goal.overflow_cast-result-2
overflow_cast-result-2 g c = omega (arith, c.requires.3)

pub loop-index-preserved : goal.loop-index-preserved
loop-index-preserved g c =
    let es = c.args.events.now in
    let i = c.loop-index.index in
    let inv = c.loop-index.invariant in
    let f = c.loop-index.failovers in
    let k = c.loop-index.takeovers in
    let ns = c.advance.new.notices.items in
    let failovers : c.failovers_in.result ≡ count_by is_failover ns =
    c.failovers_in.ensures ∙ ap (λ (ms : List Notice). count_by is_failover ms) c.as_slice.ensures.value in
    let takeovers : c.takeovers_in.result ≡ count_by is_takeover ns =
    c.takeovers_in.ensures ∙ ap (λ (ms : List Notice). count_by is_takeover ms) c.as_slice-in-Ok.ensures.value in
    record {
      failovers = omega (arith, inv.failovers, c.failovers_in.type_inv);
      takeovers = omega (arith, inv.takeovers, c.takeovers_in.type_inv);
      along = λ base s at room.
          let before = g.S.Steps.stands c.loop-index.steps base in
          let behind = g.S.Steps.stands c.advance.new.self base in
          let a = inv.along base s at room in
          let below : a.here.cursor < trail_limit = omega (arith, a.cursor, room, c.loop-index-test.true) in
          let done = c.in-Ok.ensures.done base a.here a.there below in
          subst (λ n. Along behind s es (i + 1) (f + n) (k + c.takeovers_in.result)) (sym failovers)
          (subst (λ n. Along behind s es (i + 1) (f + count_by is_failover ns) (k + n)) (sym takeovers)
          (along-more s es i f k before behind a (Boot (numbered 0)) ns c.loop-index-test.true done.0 done.1));
    }

pub returns-then-is_memory-clause-ahead : goal.returns-then-is_memory-clause-ahead
returns-then-is_memory-clause-ahead g c = λ base s at room.
    let a = c.loop-index.invariant.along base s at room in
    (a.here, c.in-Err.ensures.kept base a.here a.there)

pub returns-in-Err-clause-outcome : goal.returns-in-Err-clause-outcome
returns-in-Err-clause-outcome g c = λ base s at room.
    let a = c.loop-index.invariant.along base s at room in
    let other : c.in-Err.refusal ≢ OutOfMemory = search rules in (
      a.here,
      c.in-Err.ensures.kept base a.here a.there,
      along-refused s c.args.events.now c.loop-index.index c.loop-index.failovers c.loop-index.takeovers (g.S.Steps.stands c.loop-index.steps base) a
          (Boot (numbered 0)) c.in-Err.refusal c.loop-index-test.true (c.in-Err.ensures.refused other base a.here a.there),
    )

pub returns-in-Err-clause-ahead : goal.returns-in-Err-clause-ahead
returns-in-Err-clause-ahead g c = λ base s at room.
    let a = c.loop-index.invariant.along base s at room in
    (a.here, c.in-Err.ensures.kept base a.here a.there)

pub returns-clause-outcome : goal.returns-clause-outcome
returns-clause-outcome g c = λ base s at room.
    let a = c.loop-index.invariant.along base s at room in (
      a.here,
      a.there,
      along-end s c.args.events.now c.loop-index.index c.loop-index.failovers c.loop-index.takeovers (g.S.Steps.stands c.loop-index.steps base) a
          (length c.args.events.now) (omega (arith, c.loop-index-test.false)) (omega (arith, c.loop-index-test.false)),
    )

pub returns-clause-ahead : goal.returns-clause-ahead
returns-clause-ahead g c = λ base s at room.
    let a = c.loop-index.invariant.along base s at room in
    (a.here, a.there)
