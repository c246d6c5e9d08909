use Rattle.std.proofs.Common.{◌≡◌, [], All, sym, ap, ◌∙◌, subst, arith}
use Rattle.rh_model.specs.ClusterView.{ClusterView}
use Rattle.rh_model.specs.declared.node.Node.{Node}
use Rattle.rh_model.specs.declared.node.App.{App}
use Rattle.rh_state.specs.declared.status.Standing.TheVariants.{Running}
use Rattle.rh_state.specs.declared.status.Timer.TheVariants.{Sync, Failover}
use Rattle.rh_state.specs.Shape.{IsTimerOf}
use Rattle.rh_state.specs.StateView.{standing_of, due_of, running_at, waiting_at}
use Rattle.rh_state.specs.Stored.{read}
use Rattle.rh_rules.specs.Course.{Course}
use Rattle.rh_trace.specs.Traces.{IsPairOf, course}
use Rattle.rh_settle.specs.Starting.{StartsAreMarked}
use Rattle.rh_trace.specs.Validity.{IsSound}
use Rattle.std.specs.Option.{IsNone}
use Rattle.rh_rules.specs.Time.{effect, taken_off}
use Rattle.rh_step.proofs.Firing.{none_runs, none_waits, none_timed, effect_cluster, effect_marked}
use Rattle.rh_events.proofs.Marked.{none_marked}
use Rattle.rh_step.proofs.TakenOff.{sound_effect}
use Rattle.rh_step.proofs.StartsKept.{starts_fired}
use Rattle.std.proofs.lemmas.Result.{on_ok_weaker}
use Rattle.rh_trace.specs.Counts.{FewWeighed}
use Rattle.rh_trace.proofs.Counts.{weighed}
use Rattle.rh_trace.proofs.Ways.{goes_more, goes_cluster}
use Rattle.rh_step.proofs.ticks.fire.Goals as goal

pub take_effect-requires-clause-timer : goal.take_effect-requires-clause-timer
take_effect-requires-clause-timer c = subst (λ (p : Course). IsTimerOf p.state.cluster c.args.timer) (sym c.in_ok-take_off.ensures.course) c.requires.timer

pub take_effect-requires-clause-running : goal.take_effect-requires-clause-running
take_effect-requires-clause-running c =
    subst (λ (p : Course). (n : Node) → c.args.timer ≡ Sync n → running_at p.state n ≡ []) (sym c.in_ok-take_off.ensures.course)
    (none_runs (read c.args.state.now) c.args.due c.args.timer c.requires.valid.sound c.requires.first)

pub take_effect-requires-clause-waiting : goal.take_effect-requires-clause-waiting
take_effect-requires-clause-waiting c =
    subst (λ (p : Course). (n : Node) → c.args.timer ≡ Sync n → waiting_at p.state n ≡ []) (sym c.in_ok-take_off.ensures.course)
    (none_waits (read c.args.state.now) c.args.due c.args.timer c.requires.valid.sound c.requires.first)

pub take_effect-requires-clause-unset : goal.take_effect-requires-clause-unset
take_effect-requires-clause-unset c =
    subst (λ (p : Course). (n : Node) (a : App) → c.args.timer ≡ Sync n → standing_of p.state a ≡ Running n → IsNone (due_of p.state (Failover a)))
    (sym c.in_ok-take_off.ensures.course)
    (none_timed (read c.args.state.now) c.args.due c.args.timer c.requires.valid.sound c.requires.first)

pub follow_marked-requires-clause-sound : goal.follow_marked-requires-clause-sound
follow_marked-requires-clause-sound c =
    let o = course (read c.args.state.now) c.args.trace.now in
    let made = c.in_ok-take_effect.ensures.course ∙ ap (λ p. effect p c.args.timer) c.in_ok-take_off.ensures.course in
    subst (λ (p : Course). IsSound p.state) (sym made) (sound_effect o (c.args.due, c.args.timer) c.requires.due c.requires.valid.sound c.requires.first)

pub follow_marked-requires-clause-marked : goal.follow_marked-requires-clause-marked
follow_marked-requires-clause-marked c =
    let s = read c.args.state.now in
    let o = taken_off (course s c.args.trace.now) (c.args.due, c.args.timer) in
    let made = c.in_ok-take_effect.ensures.course ∙ ap (λ p. effect p c.args.timer) c.in_ok-take_off.ensures.course in
    subst (λ (p : Course). All (IsPairOf p.state.cluster) p.marked) (sym made)
    (subst (λ (v : ClusterView). All (IsPairOf v) (effect o c.args.timer).marked) (sym (effect_cluster o c.args.timer))
    (effect_marked o c.args.timer c.requires.timer c.requires.valid.sound.within (none_marked s)))

pub follow_marked-requires-clause-starts : goal.follow_marked-requires-clause-starts
follow_marked-requires-clause-starts c =
    let o = course (read c.args.state.now) c.args.trace.now in
    let made = c.in_ok-take_effect.ensures.course ∙ ap (λ p. effect p c.args.timer) c.in_ok-take_off.ensures.course in
    subst StartsAreMarked (sym made) (starts_fired o (c.args.due, c.args.timer) c.requires.valid)

pub returns-clause-way : goal.returns-clause-way
returns-clause-way c =
    goes_more _ _ _ _ _ _ c.take_off.ensures.way (goes_more _ _ _ _ _ _ c.take_effect.ensures.way c.follow_marked.ensures.way)

pub returns-clause-few : goal.returns-clause-few
returns-clause-few c =
    let s = read c.args.state.now in
    let once = goes_cluster _ _ _ _ c.take_off.ensures.way in
    let twice = goes_cluster _ _ _ _ c.take_effect.ensures.way ∙ once in
    let off = weighed s.cluster 2 c.args.trace.now c.take_off.new.trace c.take_off.ensures.way.notices c.take_off.ensures.few in
    let effective = subst (λ (v : ClusterView). FewWeighed v 1 c.take_off.new.trace c.take_effect.new.trace) once c.in_ok-take_effect.ensures.few in
    on_ok_weaker c.follow_marked.result
    (λ few. let followed = subst (λ (v : ClusterView). FewWeighed v 0 c.take_effect.new.trace c.follow_marked.new.trace) twice few in
    omega (arith, off, effective, followed))
    c.follow_marked.ensures.few
