use Rattle.std.proofs.Common.{◌∙◌, ap, subst, sym}
use Rattle.rh_model.specs.ClusterView.{ClusterView}
use Rattle.rh_state.specs.Shape.{IsAppOf}
use Rattle.rh_rules.specs.Course.{is_local}
use Rattle.rh_settle.proofs.ready.local_marks.Goals as goal

pub returns : goal.returns
returns c = λ a of. c.locals.ensures.marks a (subst (λ (v : ClusterView). IsAppOf v a) (sym c.cluster.ensures) of)
    ∙ ap (λ (v : ClusterView). is_local v a) c.cluster.ensures
