use Rattle.std.proofs.Common.{◌≡◌, ◌<◌, List, length, ap, ◌∙◌, subst, arith}
use Rattle.rh_model.specs.ClusterView.{ClusterView, IsWithin, app_numbered, boot_of}
use Rattle.rh_model.specs.declared.node.App.{App}
use Rattle.rh_model.specs.declared.settings.Restart.{Restart}
use Rattle.rh_model.specs.declared.settings.Restart.TheVariants.{Permanent}
use Rattle.rh_state.specs.Stored.{read}
use Rattle.rh_trace.specs.Traces.{course}
use Rattle.rh_trace.proofs.Ways.{goes_more}
use Rattle.rh_events.proofs.BootTurns.{next_app_within, next_is_off, one_more, same_cluster, others_off, all_marked}
use Rattle.rh_events.proofs.marking.mark_booted.Goals as goal

pub mark-requires-clause-app : goal.mark-requires-clause-app
mark-requires-clause-app c =
    let s = read c.args.state.now in
    let o = course (read c.booted.state) c.booted.trace in
    let within : IsWithin s.cluster = subst IsWithin c.cluster.ensures c.is_within.ensures in
    let here : c.boot.result.now ≡ boot_of o.state.cluster c.args.node =
    c.boot.ensures ∙ ap (λ (v : ClusterView). boot_of v c.args.node) c.cluster-in-booted.ensures in
    let whole = c.boot-count.ensures ∙ ap (λ (v : ClusterView). boot_of v c.args.node) c.cluster-2.ensures in
    let count = ap (λ (xs : List (App × Restart)). length xs) whole in
    let lt : c.booted.place < length (boot_of s.cluster c.args.node) = omega (arith, count, c.booted-test.true) in
    next_app_within s o c.args.node c.booted.place within c.booted.invariant.cluster c.boot.result.now here lt c.booted.invariant.rest
    (app_numbered 0, Permanent)

pub mark-requires-clause-off : goal.mark-requires-clause-off
mark-requires-clause-off c =
    let s = read c.args.state.now in
    let o = course (read c.booted.state) c.booted.trace in
    let within : IsWithin s.cluster = subst IsWithin c.cluster.ensures c.is_within.ensures in
    let here : c.boot.result.now ≡ boot_of o.state.cluster c.args.node =
    c.boot.ensures ∙ ap (λ (v : ClusterView). boot_of v c.args.node) c.cluster-in-booted.ensures in
    let whole = c.boot-count.ensures ∙ ap (λ (v : ClusterView). boot_of v c.args.node) c.cluster-2.ensures in
    let count = ap (λ (xs : List (App × Restart)). length xs) whole in
    let lt : c.booted.place < length (boot_of s.cluster c.args.node) = omega (arith, count, c.booted-test.true) in
    next_is_off s o c.args.node c.booted.place within c.booted.invariant.cluster c.boot.result.now here lt c.booted.invariant.rest
    (app_numbered 0, Permanent)

pub booted-preserved : goal.booted-preserved
booted-preserved c =
    let s = read c.args.state.now in
    let o = course (read c.booted.state) c.booted.trace in
    let p = course (read c.mark.new.state) c.mark.new.trace in
    let n = c.args.node in
    let i = c.booted.place in
    let d : App × Restart = (app_numbered 0, Permanent) in
    let within : IsWithin s.cluster = subst IsWithin c.cluster.ensures c.is_within.ensures in
    let here : c.boot.result.now ≡ boot_of o.state.cluster n = c.boot.ensures ∙ ap (λ (v : ClusterView). boot_of v n) c.cluster-in-booted.ensures in
    let whole = c.boot-count.ensures ∙ ap (λ (v : ClusterView). boot_of v n) c.cluster-2.ensures in
    let count = ap (λ (xs : List (App × Restart)). length xs) whole in
    let lt : i < length (boot_of s.cluster n) = omega (arith, count, c.booted-test.true) in
    let made = c.in_ok-mark.ensures.course in
    let cluster = c.booted.invariant.cluster in
    let rest = c.booted.invariant.rest in
    let boot = c.boot.result.now in
    record {
      same = one_more s o n i within cluster boot here lt rest p d made (course s c.args.trace.now) c.booted.invariant.same;
      cluster = same_cluster s o n i within cluster boot here lt rest p d made;
      rest = others_off s o n i within cluster boot here lt rest p d made;
      way = goes_more _ _ _ _ _ _ c.booted.invariant.way c.in_ok-mark.ensures.way;
      few = omega (arith, c.booted.invariant.few, c.in_ok-mark.ensures.few);
    }

pub returns-in_err-mark-clause-way : goal.returns-in_err-mark-clause-way
returns-in_err-mark-clause-way c = goes_more _ _ _ _ _ _ c.booted.invariant.way c.in_err-mark.ensures.way

pub returns-clause-course : goal.returns-clause-course
returns-clause-course c =
    let s = read c.args.state.now in
    let whole = c.boot-count.ensures ∙ ap (λ (v : ClusterView). boot_of v c.args.node) c.cluster-2.ensures in
    let count = ap (λ (xs : List (App × Restart)). length xs) whole in
    c.booted.invariant.same
    ∙ all_marked (course s c.args.trace.now) c.args.node (boot_of s.cluster c.args.node) c.booted.place (omega (arith, count, c.booted-test.false))

pub returns-clause-few : goal.returns-clause-few
returns-clause-few c =
    let whole = c.boot-count.ensures ∙ ap (λ (v : ClusterView). boot_of v c.args.node) c.cluster-2.ensures in
    let count = ap (λ (xs : List (App × Restart)). length xs) whole in
    omega (arith, count, c.booted.invariant.few, c.booted.auto)
