use Rattle.std.proofs.Common.{sym, ◌∙◌, arith}
use Rattle.rh_model.specs.ClusterView.{numbered, node_count}
use Rattle.rh_state.specs.Numbers.{nodes_of}
use Rattle.rh_file_lint.specs.Cluster.{some_node}
use Rattle.rh_file_lint.specs.SyncLists.{share_app}
use Rattle.rh_file_lint.proofs.OneMore.{some_passes, none_more}
use Rattle.rh_file_lint.proofs.sync_lists.has_company.Goals as goal

pub returns-then-share_app : goal.returns-then-share_app
unfolding some_node nodes_of
returns-then-share_app c =
    some_passes (share_app c.args.cluster.now c.args.node) numbered (node_count c.args.cluster.now) c.loop-number.number (omega arith) (sym c.share_app.ensures ∙ c.if-share_app.true)

pub loop-number-preserved : goal.loop-number-preserved
loop-number-preserved c = none_more (share_app c.args.cluster.now c.args.node) numbered c.loop-number.number c.loop-number.invariant (sym c.share_app.ensures ∙ c.if-share_app.false)
