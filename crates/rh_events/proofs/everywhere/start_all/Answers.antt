use Rattle.std.proofs.Common.{ap, sym, ◌∙◌, arith}
use Rattle.rh_model.specs.ClusterView.{ClusterView, node_count, numbered}
use Rattle.rh_state.specs.Stored.{read}
use Rattle.rh_rules.specs.Course.{Course}
use Rattle.rh_trace.specs.Traces.{course}
use Rattle.rh_trace.proofs.Ways.{goes_more}
use Rattle.rh_events.specs.Everywhere.{start_if_target}
use Rattle.rh_events.proofs.StartingAll.{start_more, start_below_all, turn_cluster}
use Rattle.rh_events.proofs.everywhere.start_all.Goals as goal

pub nodes-preserved : goal.nodes-preserved
nodes-preserved c =
    let n = numbered c.nodes.number in
    let made = c.in_ok-start_if_target.ensures.course in
    record {
      same = made ∙ ap (λ p. start_if_target c.args.app c.args.restart p n) c.nodes.invariant.same
          ∙ sym (start_more (course (read c.args.state.now) c.args.trace.now) c.args.app c.args.restart c.nodes.number);
      cluster = ap (λ (p : Course). p.state.cluster) made
          ∙ turn_cluster (course (read c.nodes.state) c.nodes.trace) n c.args.app c.args.restart ∙ c.nodes.invariant.cluster;
      way = goes_more _ _ _ _ _ _ c.nodes.invariant.way c.in_ok-start_if_target.ensures.way;
      few = omega (arith, c.nodes.invariant.few, c.in_ok-start_if_target.ensures.few);
    }

pub returns-in_err-start_if_target-clause-way : goal.returns-in_err-start_if_target-clause-way
returns-in_err-start_if_target-clause-way c = goes_more _ _ _ _ _ _ c.nodes.invariant.way c.in_err-start_if_target.ensures.way

pub returns-clause-course : goal.returns-clause-course
returns-clause-course c =
    let counted = c.node_count-count.ensures.count ∙ ap (λ (v : ClusterView). node_count v) c.cluster.ensures in
    c.nodes.invariant.same
    ∙ start_below_all (course (read c.args.state.now) c.args.trace.now) c.args.app c.args.restart c.nodes.number
    (omega (arith, counted, c.nodes-test.false, c.nodes.auto))

pub returns-clause-few : goal.returns-clause-few
returns-clause-few c =
    let counted = c.node_count-count.ensures.count ∙ ap (λ (v : ClusterView). node_count v) c.cluster.ensures in
    omega (arith, counted, c.nodes.auto, c.nodes.invariant.few)
