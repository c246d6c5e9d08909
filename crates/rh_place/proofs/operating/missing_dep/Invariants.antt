use Rattle.std.proofs.Common.{◌≡◌, drop, find, not}
use Rattle.rh_model.specs.declared.settings.Dep.{Dep}
use Rattle.rh_state.specs.Stored.{read}
use Rattle.rh_rules.specs.Placing.{dep_runs}
use Rattle.rh_place.proofs.operating.missing_dep.Given as goal

abbrev pub invariant-deps : goal.invariant-deps
invariant-deps l = find (λ (d : Dep). not (dep_runs (read l.state) l.node d)) (drop l.dep-index l.deps)
    ≡ find (λ (d : Dep). not (dep_runs (read l.state) l.node d)) l.deps
