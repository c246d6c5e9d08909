use Rattle.std.proofs.Common.{◌≡◌, ◌++◌, ℕ, List, codes, ap, sym, ◌∙◌, append_assoc}
use Rattle.std.specs.Fmt.{decimal}
use Rattle.rh_model.specs.ClusterView.{node_count, app_count}
use Rattle.rh_run.specs.CheckText.{count_text}
use Rattle.rh_run.proofs.checking.count_text.Goals as goal

regrouped : (a b c d : List ℕ) → ((a ++ b) ++ c) ++ d ≡ a ++ (b ++ (c ++ d))
regrouped a b c d = simp append_assoc

pub returns : goal.returns
unfolding count_text
returns c =
    let cluster = c.args.cluster.now in
    c.in_ok-format.ensures.ok
    ∙ (λ i. codes "ok " ++ (decimal (c.node_count-nodes.ensures.count i) ++
    (codes " nodes " ++ (decimal (c.app_count-apps.ensures.count i) ++ codes " applications\n"))))
    ∙ ap (λ (t : List ℕ). codes "ok " ++ t) (sym (regrouped (decimal (node_count cluster)) (codes " nodes ") (decimal (app_count cluster))
    (codes " applications\n")))
