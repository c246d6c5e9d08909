use Rattle.std.proofs.Common.{◌≡◌, List, map, ap, sym, subst, ◌∙◌, IfOk}
use Rattle.std.specs.Option.{option_map}
use Rattle.rh_base.specs.Tree.{Tree, tree_of, items_of}
use Rattle.rh_base.proofs.Trees.{list_of_trees-trees_of}
use Rattle.rh_terms.specs.Grammar.{terms_of}
use Rattle.rh_findings.specs.declared.finding.Finding.{Finding}
use Rattle.rh_cluster_lint.specs.Text.{of_terms, text_found_by, text_found}
use Rattle.rh_cluster_lint.proofs.FoundInKept.{found_in_kept}
use Rattle.rh_cluster_lint.proofs.text.text_findings.Goals as goal

pub returns-in-Ok : goal.returns-in-Ok
unfolding text_found
returns-in-Ok c =
    let text = c.args.text.now in
    let cluster = option_map (λ cluster. cluster.now) c.args.cluster in
    let is : text_found_by text cluster (terms_of text) ≡ of_terms text (map tree_of (items_of c.in-Ok.terms)) cluster =
    sym (found_in_kept text cluster (terms_of text)) ∙ ap (text_found_by text cluster) c.in-Ok.ensures
    ∙ ap (λ (ts : List Tree). of_terms text ts cluster) (list_of_trees-trees_of (items_of c.in-Ok.terms)) in
    subst (λ (fs : List Finding). IfOk c.of_terms.result (λ found. found.items ≡ fs)) (sym is) c.of_terms.ensures
