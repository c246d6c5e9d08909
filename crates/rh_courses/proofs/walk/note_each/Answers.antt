use Rattle.std.proofs.Common.{◌≡◌, ◌<◌, ℕ, List, [], length, None, ap, sym, subst, ◌∙◌}
use Rattle.rh_model.specs.ClusterView.{ClusterView}
use Rattle.rh_state.specs.declared.status.Timer.{Timer}
use Rattle.rh_state.specs.StateView.{StateView, earliest}
use Rattle.rh_state.specs.Stored.{read}
use Rattle.rh_trace.specs.Validity.{IsSound}
use Rattle.rh_rules.specs.Course.{course_of}
use Rattle.rh_rules.specs.Time.{due_by}
use Rattle.rh_step.specs.Firings.{fired_in}
use Rattle.rh_step.proofs.Fuel.{fired_fewer, sound_fired, due_is_first}
use Rattle.rh_courses.specs.Moments.{behind_timers}
use Rattle.rh_courses.specs.Courses.{CourseView}
use Rattle.rh_courses.specs.Working.{all_noted, noted_along, AreOf}
use Rattle.rh_courses.proofs.Passing.{first_and_others, none_passed, fired_cluster}
use Rattle.rh_courses.proofs.walk.note_each.Goals as goal

pub fire-requires-clause-first : goal.fire-requires-clause-first
fire-requires-clause-first c = due_is_first c.args.limit (read c.timers.state) (c.in-Some.due, c.in-Some.timer) (sym c.in-Some.ensures.next)

pub note-requires : goal.note-requires
note-requires c =
    let s = read c.timers.state in
    let same = ap (λ (t : StateView). t.cluster) c.in_ok-fire.ensures.fired
    ∙ fired_cluster c.args.pick s (c.in-Some.due, c.in-Some.timer) ∙ c.timers.invariant.cluster in
    subst (λ (v : ClusterView). AreOf v c.timers.courses.items) (sym same)
    (c.timers.invariant.apps (read c.args.state).cluster c.requires.apps)

pub timers-smaller : goal.timers-smaller
timers-smaller c =
    let s = read c.timers.state in
    subst (λ (p : StateView). length p.timers < length s.timers) (sym c.in_ok-fire.ensures.fired)
    (fired_fewer c.args.pick c.args.limit (course_of s [] []) (c.in-Some.due, c.in-Some.timer) c.timers.invariant.sound (sym c.in-Some.ensures.next))

pub timers-preserved : goal.timers-preserved
timers-preserved c =
    let s = read c.timers.state in
    let entry : ℕ × Timer = (c.in-Some.due, c.in-Some.timer) in
    let due = sym c.in-Some.ensures.next in
    let made = c.in_ok-fire.ensures.fired in
    let t = (fired_in c.args.pick s entry).state in
    let along = λ (cs : List CourseView) (p : StateView). noted_along cs (behind_timers c.args.pick (length p.timers) c.args.limit p) in
    record {
      so_far = ap (λ cs. along cs (read c.fire.new.state)) c.in_ok-note.ensures.noted
          ∙ ap (λ p. along (all_noted c.timers.courses.items p) p) made
          ∙ ap (noted_along c.timers.courses.items)
          (sym (first_and_others c.args.pick c.args.limit s entry c.requires.limit c.timers.invariant.sound due))
          ∙ c.timers.invariant.so_far;
      sound = subst IsSound (sym made)
          (sound_fired c.args.pick c.args.limit (course_of s [] []) entry c.requires.limit c.timers.invariant.sound due);
      cluster = ap (λ (p : StateView). p.cluster) made ∙ fired_cluster c.args.pick s entry ∙ c.timers.invariant.cluster;
      apps = λ v are. c.in_ok-note.ensures.apps v (c.timers.invariant.apps v are);
    }

pub returns-clause-noted : goal.returns-clause-noted
returns-clause-noted c =
    let s = read c.timers.state in
    let none : due_by c.args.limit (earliest s) ≡ None = sym c.due_by.ensures.next ∙ c.in_default.is in
    sym (ap (noted_along c.timers.courses.items) (none_passed c.args.pick (length s.timers) c.args.limit s none))
    ∙ c.timers.invariant.so_far
