use Rattle.std.proofs.Common.{◌≡◌, drop}
use Rattle.std.specs.Prelude.{flat_map}
use Rattle.rh_cluster.specs.Agreement.{boot_entry_faults}
use Rattle.rh_model.specs.declared.node.App.{App}
use Rattle.rh_model.specs.declared.settings.Restart.{Restart}
use Rattle.rh_cluster.proofs.agreement.check_boot_list.Given as goal

abbrev pub invariant-loop-entry : goal.invariant-loop-entry
invariant-loop-entry l =
    flat_map (λ (e : App × Restart). boot_entry_faults l.shares l.node e.0) (drop l.entry-index l.boot) ≡ flat_map
    (λ (e : App × Restart). boot_entry_faults l.shares l.node e.0) l.boot
