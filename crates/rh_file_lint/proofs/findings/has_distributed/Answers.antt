use Rattle.std.proofs.Common.{sym, ◌∙◌, arith}
use Rattle.rh_model.specs.ClusterView.{app_numbered, app_count}
use Rattle.rh_state.specs.Numbers.{apps_of}
use Rattle.rh_file_lint.specs.Cluster.{some_app}
use Rattle.rh_file_lint.specs.Cluster.{is_distributed}
use Rattle.rh_file_lint.proofs.OneMore.{some_passes, none_more}
use Rattle.rh_file_lint.proofs.findings.has_distributed.Goals as goal

pub returns-then-is_distributed : goal.returns-then-is_distributed
unfolding some_app apps_of
returns-then-is_distributed c =
    some_passes (is_distributed c.args.cluster.now) app_numbered (app_count c.args.cluster.now) c.loop-number.number (omega arith) (sym c.is_distributed.ensures ∙ c.if-is_distributed.true)

pub loop-number-preserved : goal.loop-number-preserved
loop-number-preserved c = none_more (is_distributed c.args.cluster.now) app_numbered c.loop-number.number c.loop-number.invariant (sym c.is_distributed.ensures ∙ c.if-is_distributed.false)
