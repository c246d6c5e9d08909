use Rattle.rh_term_lint.specs.Findings.{of_section}
use Rattle.rh_term_lint.proofs.Entries.{one_more}
use Rattle.rh_term_lint.proofs.parts.push_sections.Goals as goal

pub loop-section-preserved : goal.loop-section-preserved
loop-section-preserved c = one_more (of_section c.args.place) c.args.sections.now c.loop-section.section-index c.section-item.result c.loop-section-test.true c.section-item.is
    _ _ _ c.loop-section.invariant c.in_ok-push_section.ensures
