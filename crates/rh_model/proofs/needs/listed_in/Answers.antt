use Rattle.std.proofs.Common.{◌∙◌, ◌++◌, get_or, sym}
use Rattle.std.specs.Option.{option_to_list}
use Rattle.rh_model.specs.declared.settings.Dep.TheVariants.{Listed}
use Rattle.rh_model.specs.Needs.{listed}
use Rattle.rh_model.proofs.NeedsKept.{listed_more}
use Rattle.rh_model.proofs.needs.listed_in.Goals as goal

pub deps-preserved : goal.deps-preserved
deps-preserved c = c.in_ok-add_listed.ensures
    ∙ (λ i. c.deps.invariant i ++ option_to_list (listed (get_or c.args.deps.now c.deps.dep-index (Listed (record { 0 = 0 })))))
    ∙ sym (listed_more c.args.deps.now c.deps.dep-index (Listed (record { 0 = 0 })) c.deps-test.true)
