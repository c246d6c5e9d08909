use Rattle.std.proofs.Common.{◌≡◌, ℕ, [], All, IsNone, sym, ap, ◌∙◌, subst}
use Rattle.rh_model.specs.ClusterView.{ClusterView}
use Rattle.rh_model.specs.declared.node.Node.{Node}
use Rattle.rh_model.specs.declared.node.App.{App}
use Rattle.rh_state.specs.StateView.{standing_of, running_at, waiting_at, due_of}
use Rattle.rh_state.specs.Stored.{read}
use Rattle.rh_state.specs.declared.status.Standing.TheVariants.{Running}
use Rattle.rh_state.specs.declared.status.Timer.{Timer}
use Rattle.rh_state.specs.declared.status.Timer.TheVariants.{Sync, Failover}
use Rattle.rh_rules.specs.Course.{Course}
use Rattle.rh_rules.specs.NodesStart.{ready_come_up}
use Rattle.rh_rules.specs.Time.{effect, taken_off}
use Rattle.rh_trace.specs.Traces.{IsPairOf, course}
use Rattle.rh_trace.specs.Validity.{IsSound, RunsWhereItStands}
use Rattle.rh_step.proofs.Firing.{none_runs, none_waits, none_timed, effect_cluster, effect_marked}
use Rattle.rh_step.proofs.TakenOff.{sound_effect}
use Rattle.rh_events.proofs.Marked.{none_marked, marked_ready_come_up}
use Rattle.rh_events.proofs.SoundComingUp.{sound_ready_come_up, ready_come_up_cluster}
use Rattle.rh_courses.proofs.firing.fire.Goals as goal

pub take_effect-requires-clause-running : goal.take_effect-requires-clause-running
take_effect-requires-clause-running c =
    subst (λ (p : Course). (n : Node) → c.args.timer ≡ Sync n → running_at p.state n ≡ []) (sym c.in_ok-take_off.ensures.course)
    (none_runs (read c.args.state.now) c.args.due c.args.timer c.requires.sound c.requires.first)

pub take_effect-requires-clause-waiting : goal.take_effect-requires-clause-waiting
take_effect-requires-clause-waiting c =
    subst (λ (p : Course). (n : Node) → c.args.timer ≡ Sync n → waiting_at p.state n ≡ []) (sym c.in_ok-take_off.ensures.course)
    (none_waits (read c.args.state.now) c.args.due c.args.timer c.requires.sound c.requires.first)

pub take_effect-requires-clause-unset : goal.take_effect-requires-clause-unset
take_effect-requires-clause-unset c =
    subst (λ (p : Course). (n : Node) (a : App) → c.args.timer ≡ Sync n → standing_of p.state a ≡ Running n → IsNone (due_of p.state (Failover a)))
    (sym c.in_ok-take_off.ensures.course)
    (none_timed (read c.args.state.now) c.args.due c.args.timer c.requires.sound c.requires.first)

pub let_ready_come_up-requires : goal.let_ready_come_up-requires
let_ready_come_up-requires c =
    let o = course (read c.args.state.now) c.of-trace.result in
    let made = c.in_ok-take_effect.ensures.course ∙ ap (λ p. effect p c.args.timer) c.in_ok-take_off.ensures.course in
    subst (λ (p : Course). IsSound p.state) (sym made) (sound_effect o (c.args.due, c.args.timer) c.requires.due c.requires.sound c.requires.first)

pub settle-requires-clause-marked : goal.settle-requires-clause-marked
settle-requires-clause-marked c =
    let s = read c.args.state.now in
    let o = course s c.of-trace.result in
    let entry : ℕ × Timer = (c.args.due, c.args.timer) in
    let q = effect (taken_off o entry) c.args.timer in
    let effective = c.in_ok-take_effect.ensures.course ∙ ap (λ p. effect p c.args.timer) c.in_ok-take_off.ensures.course in
    let made = c.in_ok-let_ready_come_up.ensures.course ∙ ap ready_come_up effective in
    let sound : IsSound q.state = sound_effect o entry c.requires.due c.requires.sound c.requires.first in
    let marked : All (IsPairOf q.state.cluster) q.marked =
    subst (λ (v : ClusterView). All (IsPairOf v) q.marked) (sym (effect_cluster (taken_off o entry) c.args.timer))
    (effect_marked (taken_off o entry) c.args.timer c.requires.timer c.requires.sound.within (none_marked s)) in
    subst (λ (p : Course). All (IsPairOf p.state.cluster) p.marked) (sym made)
    (subst (λ (v : ClusterView). All (IsPairOf v) (ready_come_up q).marked) (sym (ready_come_up_cluster q))
    (marked_ready_come_up q sound.within marked))

pub settle-requires-clause-runs : goal.settle-requires-clause-runs
settle-requires-clause-runs c =
    let o = course (read c.args.state.now) c.of-trace.result in
    let effective = c.in_ok-take_effect.ensures.course ∙ ap (λ p. effect p c.args.timer) c.in_ok-take_off.ensures.course in
    let made = c.in_ok-let_ready_come_up.ensures.course ∙ ap ready_come_up effective in
    let q = effect (taken_off o (c.args.due, c.args.timer)) c.args.timer in
    subst (λ (p : Course). RunsWhereItStands p.state) (sym made)
    (sound_ready_come_up q (sound_effect o (c.args.due, c.args.timer) c.requires.due c.requires.sound c.requires.first)).runs
