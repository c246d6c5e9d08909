use Rattle.rh_term_lint.specs.Findings.{of_term}
use Rattle.rh_term_lint.proofs.Entries.{one_place_more}
use Rattle.rh_term_lint.proofs.findings.push_terms.Goals as goal

pub loop-place-preserved : goal.loop-place-preserved
loop-place-preserved c = one_place_more (λ at. of_term at.0 at.1) c.args.terms.now c.loop-place.place c.index-terms-place.result
    c.loop-place-test.true c.index-terms-place.is _ _ _ c.loop-place.invariant c.in_ok-push_term.ensures
