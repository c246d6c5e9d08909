use Rattle.std.proofs.Common.{refl, sym, ap, ◌∙◌}
use Rattle.std.specs.List.{list_any}
use Rattle.rh_base.proofs.Truths.{both}
use Rattle.rh_state.specs.Stored.{read}
use Rattle.rh_explore.specs.Families.{is_new}
use Rattle.rh_explore.proofs.worker.Worker.expand_here.Goals as goal

pub returns-then-not-any_is_new-clause-expansion : goal.returns-then-not-any_is_new-clause-expansion
returns-then-not-any_is_new-clause-expansion c =
    let leads = c.in_ok-leads.leads.items in
    let is = c.any_is_new.ensures ∙ ap (list_any is_new) c.as_slice.ensures.value in
    record {
      leads = c.in_ok-leads.ensures.leads;
      kept = λ new. both (list_any is_new leads) new (sym is ∙ c.if-not-any_is_new.true);
    }

pub returns-clause-expansion : goal.returns-clause-expansion
returns-clause-expansion c = record {
  leads = c.in_ok-leads.ensures.leads;
  kept = λ new. (c.in_ok-kept.kept, refl, ap read (c.in_ok-kept.ensures.ok ∙ c.in_ok-copy.ensures ∙ c.in_ok-leads.ensures.state));
}
