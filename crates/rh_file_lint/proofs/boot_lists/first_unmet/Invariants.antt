use Rattle.std.proofs.Common.{◌≡◌, drop, find, not}
use Rattle.rh_model.specs.declared.settings.Dep.{Dep}
use Rattle.rh_file_lint.specs.BootLists.{is_met}
use Rattle.rh_file_lint.proofs.boot_lists.first_unmet.Given as goal

abbrev pub invariant-deps : goal.invariant-deps
invariant-deps l = find (λ (d : Dep). not (is_met l.cluster l.node l.app d)) (drop l.dep-index l.deps)
    ≡ find (λ (d : Dep). not (is_met l.cluster l.node l.app d)) l.deps
