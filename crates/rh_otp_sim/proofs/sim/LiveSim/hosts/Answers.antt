use Rattle.std.proofs.Common.{List, ◌∷◌, [], ◌++◌, sym, ◌∙◌, ap}
use Rattle.std.specs.Global.{Vec}
use Rattle.rh_model.specs.ClusterView.{numbered}
use Rattle.rh_model.specs.declared.node.Node.{Node}
use Rattle.rh_otp_dist.proofs.Permitted.{one_more, none_more}
use Rattle.rh_otp_sim.specs.Refusing.{is_host}
use Rattle.rh_otp_sim.proofs.sim.LiveSim.hosts.Goals.{then-is_host+in_ok-push, else-is_host}
use Rattle.rh_otp_sim.proofs.sim.LiveSim.hosts.Goals as goal

pub loop-number-preserved : goal.loop-number-preserved
loop-number-preserved c =
    elim c.if-is_host.branch [
      | then-is_host+in_ok-push w ↦
          ap (λ (v : Vec Node). v.items) w.nodes-is ∙ w.in_ok-push.ensures.items
          ∙ ap (λ (nodes : List Node). nodes ++ numbered c.loop-number.number ∷ []) c.loop-number.invariant
          ∙ sym (one_more numbered (λ n. is_host c.args.self.now c.args.app n) c.loop-number.number (sym c.is_host.ensures ∙ w.if-is_host.true))
      | else-is_host w ↦
          ap (λ (v : Vec Node). v.items) w.nodes-is ∙ c.loop-number.invariant
          ∙ sym (none_more numbered (λ n. is_host c.args.self.now c.args.app n) c.loop-number.number (sym c.is_host.ensures ∙ w.if-is_host.false))
    ]
