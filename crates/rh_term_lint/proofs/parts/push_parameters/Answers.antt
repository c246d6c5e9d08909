use Rattle.rh_term_lint.specs.Findings.{of_parameter}
use Rattle.rh_term_lint.proofs.Entries.{one_more}
use Rattle.rh_term_lint.proofs.parts.push_parameters.Goals as goal

pub loop-parameter-preserved : goal.loop-parameter-preserved
loop-parameter-preserved c = one_more (of_parameter c.args.place) c.args.parameters.now c.loop-parameter.parameter-index c.parameter-item.result c.loop-parameter-test.true c.parameter-item.is
    _ _ _ c.loop-parameter.invariant c.in_ok-push_parameter.ensures
