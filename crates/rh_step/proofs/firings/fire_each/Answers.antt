use Rattle.std.proofs.Common.{◌≡◌, ℕ, ◌<◌, ◌++◌, [], ◌∷◌, length, None, ap, sym, subst, ◌∙◌, append_assoc, append-nil}
use Rattle.rh_state.proofs.Records.{grows_more}
use Rattle.rh_state.specs.declared.status.Timer.{Timer}
use Rattle.rh_state.specs.StateView.{StateView, earliest}
use Rattle.rh_state.specs.Stored.{read}
use Rattle.rh_rules.specs.Course.{course_of}
use Rattle.rh_trace.specs.Validity.{IsValid}
use Rattle.rh_rules.specs.Time.{due_by}
use Rattle.rh_step.specs.Firings.{firings_by}
use Rattle.rh_step.proofs.Fuel.{fired_fewer}
use Rattle.rh_step.proofs.FiringsTold.{one_and_others, none_fired}
use Rattle.rh_step.proofs.TickedValid.{fired_valid}
use Rattle.rh_step.proofs.firings.fire_each.Goals as goal

pub returns-in_err-firing-clause-edits : goal.returns-in_err-firing-clause-edits
returns-in_err-firing-clause-edits c = grows_more _ _ _ _ _ _ c.timers.invariant.edits c.fire_alone.ensures.edits

pub timers-smaller : goal.timers-smaller
timers-smaller c =
    let s = read c.timers.state in
    subst (λ (p : StateView). length p.timers < length s.timers) (sym c.in_ok-firing.ensures.state)
    (fired_fewer c.args.pick c.args.limit (course_of s [] []) (c.in-Some.due, c.in-Some.timer) c.timers.invariant.valid.sound (sym c.in-Some.ensures.next))

pub timers-preserved : goal.timers-preserved
timers-preserved c =
    let s = read c.timers.state in
    let entry : ℕ × Timer = (c.in-Some.due, c.in-Some.timer) in
    let due = sym c.in-Some.ensures.next in
    let made = c.in_ok-firing.ensures.state in
    let rest = λ (p : StateView). firings_by c.args.pick (length p.timers) c.args.limit p in
    record {
      so_far = ap (λ fired. fired ++ rest (read c.fire_alone.new.state)) c.in_ok-push.ensures.items
          ∙ append_assoc c.timers.fired.items (c.in_ok-firing.firing ∷ []) (rest (read c.fire_alone.new.state))
          ∙ (λ i. c.timers.fired.items ++ c.in_ok-firing.ensures.firing i ∷ rest (made i))
          ∙ ap (λ fired. c.timers.fired.items ++ fired)
          (sym (one_and_others c.args.pick c.args.limit s entry c.requires.limit c.timers.invariant.valid.sound due))
          ∙ c.timers.invariant.so_far;
      valid = subst IsValid (sym made)
          (fired_valid c.args.pick c.args.limit (course_of s [] []) entry c.requires.limit c.timers.invariant.valid due);
      edits = grows_more _ _ _ _ _ _ c.timers.invariant.edits c.fire_alone.ensures.edits;
    }

pub returns-in_err-push-clause-edits : goal.returns-in_err-push-clause-edits
returns-in_err-push-clause-edits c = grows_more _ _ _ _ _ _ c.timers.invariant.edits c.fire_alone.ensures.edits

pub returns-clause-firings : goal.returns-clause-firings
returns-clause-firings c =
    let s = read c.timers.state in
    let none : due_by c.args.limit (earliest s) ≡ None = sym c.due_by.ensures.next ∙ c.in_default.is in
    sym (append-nil c.timers.fired.items)
    ∙ ap (λ fired. c.timers.fired.items ++ fired) (sym (none_fired c.args.pick (length s.timers) c.args.limit s none))
    ∙ c.timers.invariant.so_far
