use Rattle.std.proofs.Common.{◌∙◌, List, ap}
use Rattle.std.specs.Prelude.{flat_map}
use Rattle.std.proofs.lemmas.Result.{err_from_is_err_and}
use Rattle.rh_cluster.specs.declared.fault.ClusterFault.{ClusterFault}
use Rattle.rh_model.specs.declared.node.App.{App}
use Rattle.rh_model.specs.declared.settings.Restart.{Restart}
use Rattle.rh_cluster.specs.Agreement.{boot_entry_faults, boot_list_faults}
use Rattle.rh_cluster.proofs.Agreed.{item_fails}
use Rattle.rh_cluster.proofs.agreement.check_boot_list.Goals as goal

pub returns-in_err-check_boot_entry : goal.returns-in_err-check_boot_entry
unfolding boot_list_faults
returns-in_err-check_boot_entry c =
    let p = err_from_is_err_and c.from_residual.result c.from_residual.ensures.1 in
    let f : App × Restart → List ClusterFault = λ e. boot_entry_faults c.args.shares.now c.args.node e.0 in
    rw (p.1, p.2) (item_fails f c.boot_at-boot.result.now c.loop-entry.entry-index _ c.in_err-check_boot_entry.field-0.0 _ c.loop-entry-test.true
    c.in_err-check_boot_entry.ensures
    (c.loop-entry.invariant ∙ ap (flat_map f) c.boot_at-boot.ensures))
