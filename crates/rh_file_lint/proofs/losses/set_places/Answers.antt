use Rattle.std.proofs.Common.{◌++◌, ◌∷◌, [], List, ap, ◌∙◌}
use Rattle.rh_model.specs.ClusterView.{numbered}
use Rattle.rh_file_lint.specs.declared.losses.Place.{Place}
use Rattle.rh_file_lint.specs.Rows.{place_by}
use Rattle.rh_file_lint.proofs.OneMore.{map_more}
use Rattle.rh_file_lint.proofs.losses.set_places.Goals as goal

pub loop-number-preserved : goal.loop-number-preserved
loop-number-preserved c =
    c.in_ok-push.ensures.items
    ∙ ap (λ (ps : List Place). ps ++ c.place_by.result ∷ []) c.loop-number.invariant
    ∙ map_more (place_by c.args.firsts.now c.args.seconds.now) numbered c.loop-number.number c.place_by.result c.place_by.ensures
