use Rattle.std.proofs.Common.{◌≡◌, ◌≢◌, ◌+◌, List, length, ap, sym, subst, ◌∙◌, arith}
use Rattle.std.proofs.lemmas.Result.{on_ok_weaker}
use Rattle.rh_model.specs.ClusterView.{ClusterView}
use Rattle.rh_state.specs.StateView.{StateView}
use Rattle.rh_state.specs.Stored.{Stored, read}
use Rattle.rh_rules.specs.declared.event.Event.{Event}
use Rattle.rh_rules.specs.declared.pick.Pick.{Pick}
use Rattle.rh_step.specs.Runs.{step}
use Rattle.rh_trail.specs.SimView.{SimView, state_of}
use Rattle.rh_trail.proofs.Moves.{forth_to}
use Rattle.rh_courses.specs.Moments.{passed_in}
use Rattle.rh_courses.specs.Courses.{CourseView}
use Rattle.rh_courses.specs.Working.{noted_along, behind_in, AreOf}
use Rattle.rh_courses.proofs.Passing.{state_more, state_cluster}
use Rattle.rh_courses.proofs.Going.{copy_apps, noted_in_event}
use Rattle.rh_courses.proofs.walk.note_event.Goals as goal

pub note_firings-requires-clause-apps : goal.note_firings-requires-clause-apps
note_firings-requires-clause-apps c =
    let s : SimView = c.args.sim.now.seen in
    let w : Stored = c.state.result.now in
    let cluster : (read w).cluster ≡ s.cluster = ap (λ (t : StateView). t.cluster) c.state.ensures.state ∙ state_cluster s in
    copy_apps w c.next_event-event.result c.in_ok-before.before c.args.courses.now.items c.in_ok-before.ensures
    (subst (λ (v : ClusterView). AreOf v c.args.courses.now.items) (sym cluster) c.requires.apps)

pub note-requires : goal.note-requires
note-requires c =
    let s : SimView = c.args.sim.now.seen in
    let t : SimView = c.redo.new.self.seen in
    let ne : s.cursor ≢ length s.trail = omega (arith, c.requires.next) in
    let moved : t ≡ record s { cursor = s.cursor + 1 } = forth_to s t c.redo.result ne c.redo.ensures.answer in
    let cluster : (read c.state-3.result.now).cluster ≡ s.cluster =
    ap (λ (u : StateView). u.cluster) c.state-3.ensures.state ∙ state_cluster t ∙ ap (λ (v : SimView). v.cluster) moved in
    subst (λ (v : ClusterView). AreOf v c.note_firings.new.courses.items) (sym cluster) (c.in_ok-note_firings.ensures.apps s.cluster c.requires.apps)

pub returns-clause-noted : goal.returns-clause-noted
returns-clause-noted c =
    let s : SimView = c.args.sim.now.seen in
    let t : SimView = c.redo.new.self.seen in
    let w : Stored = c.state.result.now in
    let event : Event = c.next_event-event.result in
    let cs : List CourseView = c.args.courses.now.items in
    let ne : s.cursor ≢ length s.trail = omega (arith, c.requires.next) in
    let moved : t ≡ record s { cursor = s.cursor + 1 } = forth_to s t c.redo.result ne c.redo.ensures.answer in
    let pick : c.pick.result ≡ s.pick = c.pick.ensures ∙ ap (λ (v : SimView). v.pick) moved in
    let next : state_of t ≡ step s.pick (read w) event =
    ap state_of moved ∙ state_more s event c.next_event-event.ensures c.requires.next ∙ ap (λ u. step s.pick u event) (sym c.state.ensures.state) in
    let end : c.now.result ≡ (step s.pick (read w) event).time =
    c.now.ensures.time ∙ ap (λ (u : StateView). u.time) (c.state-2.ensures.state ∙ next) in
    let inside : c.note_firings.new.courses.items ≡ noted_along cs (behind_in s.pick c.now.result c.in_ok-before.before) =
    c.in_ok-note_firings.ensures.noted ∙ ap (λ (p : Pick). noted_along cs (behind_in p c.now.result c.in_ok-before.before)) pick in
    on_ok_weaker c.note.result
    (λ last. λ (e : Event) is.
    let same : event ≡ e = cc (sym c.next_event-event.ensures ∙ is) in
    noted_in_event s.pick w event c.now.result c.in_ok-before.before cs c.note_firings.new.courses.items c.note.new.courses.items
    (read c.state-3.result.now) c.in_ok-before.ensures end (c.state-3.ensures.state ∙ next) inside last
    ∙ ap (λ u. noted_along cs (passed_in s.pick u event)) c.state.ensures.state
    ∙ ap (λ (x : Event). noted_along cs (passed_in s.pick (state_of s) x)) same)
    c.note.ensures.noted

pub returns-clause-apps : goal.returns-clause-apps
returns-clause-apps c =
    let s : SimView = c.args.sim.now.seen in
    on_ok_weaker c.note.result
    (λ apps. apps s.cluster (c.in_ok-note_firings.ensures.apps s.cluster c.requires.apps))
    c.note.ensures.apps
