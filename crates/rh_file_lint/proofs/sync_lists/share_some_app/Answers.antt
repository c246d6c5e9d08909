use Rattle.std.proofs.Common.{◌&&◌, sym, ◌∙◌, arith}
use Rattle.rh_model.specs.declared.node.App.{App}
use Rattle.rh_model.specs.ClusterView.{app_numbered, app_count}
use Rattle.rh_state.specs.Numbers.{apps_of}
use Rattle.rh_file_lint.specs.Cluster.{some_app}
use Rattle.rh_file_lint.specs.Cluster.{is_in_list}
use Rattle.rh_file_lint.proofs.OneMore.{some_passes, none_more}
use Rattle.rh_file_lint.proofs.sync_lists.share_some_app.Goals as goal

pub returns-then-lists_both : goal.returns-then-lists_both
unfolding some_app apps_of
returns-then-lists_both c =
    some_passes (λ (a : App). is_in_list c.args.cluster.now a c.args.node && is_in_list c.args.cluster.now a c.args.other) app_numbered (app_count c.args.cluster.now) c.loop-number.number (omega arith) (sym c.lists_both.ensures ∙ c.if-lists_both.true)

pub loop-number-preserved : goal.loop-number-preserved
loop-number-preserved c = none_more (λ (a : App). is_in_list c.args.cluster.now a c.args.node && is_in_list c.args.cluster.now a c.args.other) app_numbered c.loop-number.number c.loop-number.invariant (sym c.lists_both.ensures ∙ c.if-lists_both.false)
