use Rattle.std.proofs.Common.{rules, sym, ◌∙◌}
use Rattle.std.proofs.lemmas.List.Sorted.{answers_always, IsNonDecreasingBy-from_sort}
use Rattle.rh_findings.specs.Order.{place}
use Rattle.rh_findings.proofs.Ties.{beside_as_ties}
use Rattle.rh_findings.proofs.order.put_in_order.Goals as goal

pub returns : goal.returns
returns c = record {
  same = c.sort_by_key.ensures.permutation;
  order = IsNonDecreasingBy-from_sort place _ (c.in_ok-sort_by_key.ensures.sorted place (answers_always _ _ _ (λ f a r g h. search rules)));
  beside = λ f. sym (beside_as_ties f _) ∙ c.sort_by_key.ensures.stable place (answers_always _ _ _ (λ f a r g h. search rules)) f ∙ beside_as_ties f _;
}
