use Rattle.std.proofs.Common.{ap, sym, ◌∙◌, arith}
use Rattle.rh_model.specs.ClusterView.{ClusterView, node_count, numbered}
use Rattle.rh_state.specs.Stored.{read}
use Rattle.rh_rules.specs.Course.{Course}
use Rattle.rh_trace.specs.Traces.{course}
use Rattle.rh_trace.proofs.Ways.{goes_more}
use Rattle.rh_rules.specs.Everywhere.{leave_at}
use Rattle.rh_events.proofs.StoppingAll.{left_more, leave_cluster}
use Rattle.rh_events.proofs.everywhere.leave_everywhere.Goals as goal

pub nodes-preserved : goal.nodes-preserved
nodes-preserved c =
    let n = numbered c.nodes.number in
    let made = c.in_ok-leave.ensures.course in
    record {
      same = made ∙ ap (λ p. leave_at c.args.app p n) c.nodes.invariant.same
          ∙ sym (left_more (course (read c.args.state.now) c.args.trace.now) c.args.app c.nodes.number);
      cluster = ap (λ (p : Course). p.state.cluster) made ∙ leave_cluster (course (read c.nodes.state) c.nodes.trace) n c.args.app ∙ c.nodes.invariant.cluster;
      way = goes_more _ _ _ _ _ _ c.nodes.invariant.way c.in_ok-leave.ensures.way;
      few = omega (arith, c.nodes.invariant.few, c.in_ok-leave.ensures.few);
    }

pub returns-in_err-leave-clause-way : goal.returns-in_err-leave-clause-way
returns-in_err-leave-clause-way c = goes_more _ _ _ _ _ _ c.nodes.invariant.way c.in_err-leave.ensures.way

pub returns-clause-few : goal.returns-clause-few
returns-clause-few c =
    let counted = c.node_count-count.ensures.count ∙ ap (λ (v : ClusterView). node_count v) c.cluster.ensures in
    omega (arith, counted, c.nodes.auto, c.nodes.invariant.few)
