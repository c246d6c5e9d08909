use Rattle.std.proofs.Common.{List, ◌∷◌, [], ◌++◌, sym, ◌∙◌, ap}
use Rattle.std.specs.Global.{Vec}
use Rattle.rh_model.specs.ClusterView.{numbered}
use Rattle.rh_model.specs.declared.node.Node.{Node}
use Rattle.rh_otp_dist.specs.State.{may_run}
use Rattle.rh_otp_dist.proofs.Permitted.{one_more, none_more}
use Rattle.rh_otp_dist.proofs.reading.permitted.Goals.{then-may_run+in_ok-push, else-may_run}
use Rattle.rh_otp_dist.proofs.reading.permitted.Goals as goal

pub loop-number-preserved : goal.loop-number-preserved
loop-number-preserved c =
    elim c.if-may_run.branch [
      | then-may_run+in_ok-push w ↦
          ap (λ (v : Vec Node). v.items) w.nodes-is ∙ w.in_ok-push.ensures.items
          ∙ ap (λ (nodes : List Node). nodes ++ numbered c.loop-number.number ∷ []) c.loop-number.invariant
          ∙ sym (one_more numbered (λ n. may_run c.args.state.now n c.args.app) c.loop-number.number (sym c.may_run.ensures ∙ w.if-may_run.true))
      | else-may_run w ↦
          ap (λ (v : Vec Node). v.items) w.nodes-is ∙ c.loop-number.invariant
          ∙ sym (none_more numbered (λ n. may_run c.args.state.now n c.args.app) c.loop-number.number (sym c.may_run.ensures ∙ w.if-may_run.false))
    ]
