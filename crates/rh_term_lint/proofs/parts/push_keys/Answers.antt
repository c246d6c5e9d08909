use Rattle.rh_term_lint.specs.Findings.{of_key}
use Rattle.rh_term_lint.proofs.Entries.{one_more}
use Rattle.rh_term_lint.proofs.parts.push_keys.Goals as goal

pub loop-key-preserved : goal.loop-key-preserved
loop-key-preserved c = one_more (of_key c.args.place) c.args.keys.now c.loop-key.key-index c.key-item.result c.loop-key-test.true c.key-item.is
    _ _ _ c.loop-key.invariant c.in_ok-push_key.ensures
