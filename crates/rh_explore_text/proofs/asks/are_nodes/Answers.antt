use Rattle.std.proofs.Common.{sym, ap, ◌∙◌}
use Rattle.std.specs.Prelude.{is_some}
use Rattle.rh_explore_text.proofs.Named.{fails_here, goes_on}
use Rattle.rh_explore_text.proofs.asks.are_nodes.Goals as goal

pub returns-then-is_none : goal.returns-then-is_none
returns-then-is_none c =
    sym (c.words.invariant
    ∙ fails_here c.args.cluster.now c.args.words.now c.words.word-index _ c.words-test.true (ap is_some (sym c.node_of.ensures) ∙ c.if-is_none.ensures))

pub words-preserved : goal.words-preserved
words-preserved c =
    c.words.invariant
    ∙ goes_on c.args.cluster.now c.args.words.now c.words.word-index _ c.words-test.true (ap is_some (sym c.node_of.ensures) ∙ c.if-is_none.ensures)
