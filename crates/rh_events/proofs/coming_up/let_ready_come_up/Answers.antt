use Rattle.std.proofs.Common.{ap, sym, ◌∙◌, subst, arith}
use Rattle.rh_model.specs.ClusterView.{ClusterView, node_count, numbered}
use Rattle.rh_state.specs.Shape.{IsNodeOf}
use Rattle.rh_state.specs.Stored.{read}
use Rattle.rh_rules.specs.Course.{Course}
use Rattle.rh_trace.specs.Traces.{course}
use Rattle.rh_trace.specs.Validity.{IsSound}
use Rattle.rh_trace.specs.Counts.{FewWeighed}
use Rattle.rh_trace.proofs.Counts.{weighed_more}
use Rattle.rh_trace.proofs.Ways.{goes_more}
use Rattle.rh_rules.specs.NodesStart.{come_up_if_ready}
use Rattle.rh_events.proofs.SoundComingUp.{come_up_more, come_up_if_ready_cluster, sound_come_up_if_ready}
use Rattle.rh_events.proofs.coming_up.let_ready_come_up.Goals as goal

pub nodes-preserved : goal.nodes-preserved
nodes-preserved c =
    let s = read c.args.state.now in
    let n = numbered c.nodes.number in
    let o = course (read c.nodes.state) c.nodes.trace in
    let made = c.in_ok-let_come_up_if_ready.ensures.course in
    let counted = c.node_count-count.ensures.count ∙ ap (λ (v : ClusterView). node_count v) (c.cluster.ensures ∙ sym c.nodes.invariant.cluster) in
    let is_node : IsNodeOf o.state.cluster n = omega (arith, counted, c.nodes-test.true) in
    record {
      same = made ∙ ap (λ p. come_up_if_ready p n) c.nodes.invariant.same ∙ sym (come_up_more (course s c.args.trace.now) c.nodes.number);
      cluster = ap (λ (p : Course). p.state.cluster) made ∙ come_up_if_ready_cluster o n ∙ c.nodes.invariant.cluster;
      sound = subst (λ (p : Course). IsSound p.state) (sym made) (sound_come_up_if_ready o n c.nodes.invariant.sound is_node);
      way = goes_more _ _ _ _ _ _ c.nodes.invariant.way c.in_ok-let_come_up_if_ready.ensures.way;
      few = weighed_more s.cluster 0 0 c.args.trace.now c.nodes.trace c.let_come_up_if_ready.new.trace c.nodes.invariant.few
          (subst (λ (v : ClusterView). FewWeighed v 0 c.nodes.trace c.let_come_up_if_ready.new.trace) c.nodes.invariant.cluster
          c.in_ok-let_come_up_if_ready.ensures.few);
    }

pub returns-in_err-let_come_up_if_ready-clause-way : goal.returns-in_err-let_come_up_if_ready-clause-way
returns-in_err-let_come_up_if_ready-clause-way c = goes_more _ _ _ _ _ _ c.nodes.invariant.way c.in_err-let_come_up_if_ready.ensures.way
