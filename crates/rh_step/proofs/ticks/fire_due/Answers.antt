use Rattle.std.proofs.Common.{◌≡◌, ◌<◌, length, None, ap, sym, subst, ◌∙◌, arith}
use Rattle.rh_state.specs.StateView.{earliest}
use Rattle.rh_state.specs.Stored.{read}
use Rattle.rh_rules.specs.Course.{Course}
use Rattle.rh_trace.specs.Traces.{course}
use Rattle.rh_trace.specs.Validity.{IsValid}
use Rattle.rh_rules.specs.Time.{due_by, all_fired}
use Rattle.rh_step.proofs.Fuel.{timer_count, fired_fewer, unrolled, all_fired_end, due_is_first}
use Rattle.rh_model.specs.ClusterView.{ClusterView}
use Rattle.rh_trace.specs.Counts.{FewWeighed}
use Rattle.rh_trace.proofs.Ways.{goes_more, goes_cluster}
use Rattle.rh_step.proofs.Counts.{by_timers}
use Rattle.rh_step.proofs.TickedValid.{fired_valid}
use Rattle.rh_step.proofs.ticks.fire_due.Goals as goal

pub fire-requires-clause-first : goal.fire-requires-clause-first
fire-requires-clause-first c = due_is_first c.args.limit (read c.timers.state) (c.in-Some.due, c.in-Some.timer) (sym c.in-Some.ensures.next)

pub timers-smaller : goal.timers-smaller
timers-smaller c =
    let o = course (read c.timers.state) c.timers.trace in
    subst (λ (p : Course). length p.state.timers < timer_count o) (sym c.in_ok-fire.ensures.course)
    (fired_fewer c.args.pick c.args.limit o (c.in-Some.due, c.in-Some.timer) c.timers.invariant.valid.sound (sym c.in-Some.ensures.next))

pub timers-preserved : goal.timers-preserved
timers-preserved c =
    let o = course (read c.timers.state) c.timers.trace in
    let due = sym c.in-Some.ensures.next in
    let made = c.in_ok-fire.ensures.course in
    let less = subst (λ (p : Course). length p.state.timers < timer_count o) (sym made)
    (fired_fewer c.args.pick c.args.limit o (c.in-Some.due, c.in-Some.timer) c.timers.invariant.valid.sound due) in
    let few = subst (λ (v : ClusterView). FewWeighed v 3 c.timers.trace c.fire.new.trace) (goes_cluster _ _ _ _ c.timers.invariant.way)
    c.in_ok-fire.ensures.few in
    record {
      same = ap (all_fired c.args.pick c.args.limit) made
          ∙ sym (unrolled c.args.pick c.args.limit o (c.in-Some.due, c.in-Some.timer) c.requires.limit c.timers.invariant.valid.sound due) ∙ c.timers.invariant.same;
      way = goes_more _ _ _ _ _ _ c.timers.invariant.way c.fire.ensures.way;
      fewer = omega (arith, less, c.timers.invariant.fewer);
      few = omega (arith, less, few, c.timers.invariant.few);
      valid = subst (λ (p : Course). IsValid p.state) (sym made)
          (fired_valid c.args.pick c.args.limit o (c.in-Some.due, c.in-Some.timer) c.requires.limit c.timers.invariant.valid due);
    }

pub returns-clause-course : goal.returns-clause-course
returns-clause-course c =
    let o = course (read c.timers.state) c.timers.trace in
    let none : due_by c.args.limit (earliest (read c.timers.state)) ≡ None = sym c.due_by.ensures.next ∙ c.in_default.is in
    sym (all_fired_end c.args.pick c.args.limit o none) ∙ c.timers.invariant.same

pub returns-in_err-fire-clause-way : goal.returns-in_err-fire-clause-way
returns-in_err-fire-clause-way c = goes_more _ _ _ _ _ _ c.timers.invariant.way c.fire.ensures.way

pub returns-clause-few : goal.returns-clause-few
returns-clause-few c =
    by_timers (read c.args.state.now).cluster c.args.trace.now c.timers.trace
    (length (read c.args.state.now).timers) (length (read c.timers.state).timers) c.timers.invariant.fewer c.timers.invariant.few
