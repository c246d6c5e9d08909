use Rattle.std.proofs.Common.{ℕ, Option, ◌++◌, ◌∷◌, [], List, ap, ◌∙◌}
use Rattle.rh_model.specs.ClusterView.{numbered}
use Rattle.rh_file_lint.specs.Rows.{place_in}
use Rattle.rh_file_lint.proofs.OneMore.{map_more}
use Rattle.rh_file_lint.proofs.rows.places_in.Goals as goal

pub loop-number-preserved : goal.loop-number-preserved
loop-number-preserved c =
    c.in_ok-push.ensures.items
    ∙ ap (λ (ps : List (Option ℕ)). ps ++ c.place_in.result ∷ []) c.loop-number.invariant
    ∙ map_more (place_in c.args.cluster.now c.args.kind c.args.app) numbered c.loop-number.number c.place_in.result c.place_in.ensures
