use Rattle.std.proofs.Common.{◌≡◌, Bool, List, ap, ◌∙◌}
use Rattle.std.specs.Bool.{beq}
use Rattle.std.specs.Cmp.{booleans_Decides}
use Rattle.std.specs.Cmp.Lexicographic.{pointwise}
use Rattle.std.proofs.lemmas.Slice.Eq.{slice_eq-Decides}
use Rattle.rh_model.specs.ClusterView.{ClusterView}
use Rattle.rh_state.specs.First.{configured}
use Rattle.rh_state.specs.Numbers.{apps_of}
use Rattle.rh_state.specs.Tables.{row}
use Rattle.rh_state.specs.Stored.{read}
use Rattle.rh_events.proofs.ending.is_configured.Goals as goal

pub returns : goal.returns
unfolding configured apps_of
returns c =
    let s = read c.args.state.now in
    let n = c.args.node in
    let kept : c.permissions-2.result.now ≡ configured s.cluster n = c.permissions-2.ensures ∙ ap (λ (k : ClusterView). configured k n) c.cluster.ensures in
    slice_eq-Decides booleans_Decides (row s.allowed n.0) (configured s.cluster n) c.eq.result
    (c.eq.ensures
    ∙ ap (λ (xs : List Bool). pointwise beq xs c.permissions-2.result.now) c.permissions.ensures
    ∙ ap (pointwise beq (row s.allowed n.0)) kept)
