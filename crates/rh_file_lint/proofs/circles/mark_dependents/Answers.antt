use Rattle.std.proofs.Common.{ap, sym, ◌∙◌, map, List, Bool, arith}
use Rattle.rh_state.specs.Numbers.{apps_of}
use Rattle.rh_file_lint.specs.Circles.{needs_marked}
use Rattle.rh_file_lint.proofs.Steps.{step_more, settled, none_yet}
use Rattle.rh_file_lint.proofs.circles.mark_dependents.Goals as goal

pub steps-init : goal.steps-init
steps-init c = λ a lt. none_yet c.args.cluster.now c.new-marks.result.items c.args.other c.new-marks.ensures.items a

pub returns-then-are_same : goal.returns-then-are_same
returns-then-are_same c = settled c.args.cluster.now c.steps._step c.steps.marks.items c.in_ok-more.more.items c.args.other c.is_within.ensures c.steps.invariant
    (c.in_ok-more.ensures ∙ ap (λ (ms : List Bool). map (needs_marked c.args.cluster.now ms c.args.other) (apps_of c.args.cluster.now)) c.as_slice.ensures.value)
    (sym c.as_slice-in-steps.ensures.value ∙ c.are_same.ensures.0 c.if-are_same.true ∙ c.as_slice-in-steps-2.ensures.value)
    (omega arith)

pub steps-preserved : goal.steps-preserved
steps-preserved c = step_more c.args.cluster.now c.steps._step c.steps.marks.items c.in_ok-more.more.items c.args.other c.is_within.ensures c.steps.invariant
    (c.in_ok-more.ensures ∙ ap (λ (ms : List Bool). map (needs_marked c.args.cluster.now ms c.args.other) (apps_of c.args.cluster.now)) c.as_slice.ensures.value)
