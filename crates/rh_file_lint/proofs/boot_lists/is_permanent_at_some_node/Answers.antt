use Rattle.std.proofs.Common.{sym, ◌∙◌, arith}
use Rattle.rh_model.specs.declared.node.Node.{Node}
use Rattle.rh_model.specs.ClusterView.{numbered, node_count}
use Rattle.rh_state.specs.Numbers.{nodes_of}
use Rattle.rh_file_lint.specs.Cluster.{some_node}
use Rattle.rh_file_lint.specs.BootLists.{boots_permanent}
use Rattle.rh_file_lint.proofs.OneMore.{some_passes, none_more}
use Rattle.rh_file_lint.proofs.boot_lists.is_permanent_at_some_node.Goals as goal

pub returns-then-boots_permanent : goal.returns-then-boots_permanent
unfolding some_node nodes_of
returns-then-boots_permanent c =
    some_passes (λ (n : Node). boots_permanent c.args.cluster.now n c.args.app) numbered (node_count c.args.cluster.now) c.loop-number.number (omega arith) (sym c.boots_permanent.ensures ∙ c.if-boots_permanent.true)

pub loop-number-preserved : goal.loop-number-preserved
loop-number-preserved c = none_more (λ (n : Node). boots_permanent c.args.cluster.now n c.args.app) numbered c.loop-number.number c.loop-number.invariant (sym c.boots_permanent.ensures ∙ c.if-boots_permanent.false)
