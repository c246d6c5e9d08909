use Rattle.std.proofs.Common.{◌++◌, ◌∷◌, [], List, Bool, ap, ◌∙◌}
use Rattle.rh_model.specs.ClusterView.{app_numbered}
use Rattle.rh_file_lint.specs.Circles.{needs_marked}
use Rattle.rh_file_lint.proofs.OneMore.{map_more}
use Rattle.rh_file_lint.proofs.circles.one_step_more.Goals as goal

pub loop-number-preserved : goal.loop-number-preserved
loop-number-preserved c =
    c.in_ok-push.ensures.items
    ∙ ap (λ (ms : List Bool). ms ++ c.needs_marked-mark.result ∷ []) c.loop-number.invariant
    ∙ map_more (needs_marked c.args.cluster.now c.args.marks.now c.args.other) app_numbered c.loop-number.number c.needs_marked-mark.result c.needs_marked-mark.ensures
