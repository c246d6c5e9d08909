use Rattle.std.proofs.Common.{ℕ, Option, ◌++◌, ◌∷◌, [], List, map, ap, ◌∙◌}
use Rattle.std.proofs.lemmas.List.{map-append}
use Rattle.rh_model.specs.ClusterView.{app_numbered}
use Rattle.rh_file_lint.specs.Rows.{row_of}
use Rattle.rh_file_lint.proofs.OneMore.{map_more}
use Rattle.rh_file_lint.proofs.rows.rows_of.Goals as goal

pub loop-number-preserved : goal.loop-number-preserved
loop-number-preserved c =
    ap (map (λ row. row.items)) c.in_ok-push.ensures.items
    ∙ map-append (λ row. row.items) c.loop-number.rows.items (c.in_ok-row.row ∷ [])
    ∙ ap (λ (rs : List (List (Option ℕ))). rs ++ c.in_ok-row.row.items ∷ []) c.loop-number.invariant
    ∙ map_more (row_of c.args.cluster.now c.args.kind) app_numbered c.loop-number.number c.in_ok-row.row.items c.in_ok-row.ensures
