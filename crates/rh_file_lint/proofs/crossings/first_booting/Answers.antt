use Rattle.std.proofs.Common.{map, sym, ◌∙◌, arith}
use Rattle.rh_model.specs.declared.node.Node.{Node}
use Rattle.rh_model.specs.ClusterView.{numbered, node_count}
use Rattle.rh_state.specs.Numbers.{nodes_of}
use Rattle.rh_file_lint.specs.Cluster.{boots_before, comes_before}
use Rattle.rh_file_lint.specs.BootLists.{first_booting}
use Rattle.rh_file_lint.specs.Rows.{place_at}
use Rattle.rh_file_lint.proofs.OneMore.{first_here, first_later, first_none}
use Rattle.rh_file_lint.proofs.PlacesTold.{boots_so}
use Rattle.rh_file_lint.proofs.crossings.first_booting.Goals as goal

pub returns-then-boots_before : goal.returns-then-boots_before
unfolding first_booting nodes_of
returns-then-boots_before c =
    first_here (λ (n : Node). boots_before c.args.cluster.now n c.args.app c.args.other) numbered (node_count c.args.cluster.now) c.loop-number.number (omega arith) c.loop-number.invariant
    (sym (boots_so c.args.cluster.now (map (λ row. row.items) c.args.rows.now) c.args.app c.args.other (numbered c.loop-number.number) c.requires.rows c.requires.app c.requires.other c.requires.spread c.requires.other_spread (omega arith))
    ∙ (λ i. comes_before (place_at (sym c.row_at-row.ensures i) (numbered c.loop-number.number)) (place_at (sym c.row_at-other_row.ensures i) (numbered c.loop-number.number)))
    ∙ sym c.boots_before.ensures ∙ c.if-boots_before.true)

pub loop-number-preserved : goal.loop-number-preserved
loop-number-preserved c =
    first_later (λ (n : Node). boots_before c.args.cluster.now n c.args.app c.args.other) numbered (node_count c.args.cluster.now) c.loop-number.number (omega arith) c.loop-number.invariant
    (sym (boots_so c.args.cluster.now (map (λ row. row.items) c.args.rows.now) c.args.app c.args.other (numbered c.loop-number.number) c.requires.rows c.requires.app c.requires.other c.requires.spread c.requires.other_spread (omega arith))
    ∙ (λ i. comes_before (place_at (sym c.row_at-row.ensures i) (numbered c.loop-number.number)) (place_at (sym c.row_at-other_row.ensures i) (numbered c.loop-number.number)))
    ∙ sym c.boots_before.ensures ∙ c.if-boots_before.false)

pub returns : goal.returns
unfolding first_booting nodes_of
returns c = first_none (λ (n : Node). boots_before c.args.cluster.now n c.args.app c.args.other) numbered (node_count c.args.cluster.now) c.loop-number.number (omega arith) c.loop-number.invariant
