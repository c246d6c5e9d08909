use Rattle.std.proofs.Common.{List, ◌∷◌, [], ◌++◌, sym, ◌∙◌, ap}
use Rattle.std.specs.Global.{Vec}
use Rattle.rh_model.specs.ClusterView.{numbered}
use Rattle.rh_model.specs.declared.node.Node.{Node}
use Rattle.rh_otp_dist.proofs.Permitted.{one_more, none_more}
use Rattle.rh_otp_report.specs.Apps.{runs_at}
use Rattle.rh_otp_report.proofs.apps.nodes_with.Goals.{then-runs_at+in_ok-push, else-runs_at}
use Rattle.rh_otp_report.proofs.apps.nodes_with.Goals as goal

pub loop-number-preserved : goal.loop-number-preserved
loop-number-preserved c =
    elim c.if-runs_at.branch [
      | then-runs_at+in_ok-push w ↦
          ap (λ (v : Vec Node). v.items) w.nodes-is ∙ w.in_ok-push.ensures.items
          ∙ ap (λ (nodes : List Node). nodes ++ numbered c.loop-number.number ∷ []) c.loop-number.invariant
          ∙ sym (one_more numbered (λ n. runs_at c.args.sim.now c.args.app n) c.loop-number.number (sym c.runs_at.ensures ∙ w.if-runs_at.true))
      | else-runs_at w ↦
          ap (λ (v : Vec Node). v.items) w.nodes-is ∙ c.loop-number.invariant
          ∙ sym (none_more numbered (λ n. runs_at c.args.sim.now c.args.app n) c.loop-number.number (sym c.runs_at.ensures ∙ w.if-runs_at.false))
    ]
