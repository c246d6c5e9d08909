use Rattle.std.proofs.Common.{sym, ap, ◌∙◌, arith}
use Rattle.rh_model.specs.ClusterView.{ClusterView, node_count, numbered}
use Rattle.rh_state.specs.Numbers.{nodes_of}
use Rattle.rh_state.specs.Stored.{read}
use Rattle.rh_rules.specs.Everywhere.{is_host, has_host}
use Rattle.rh_refusals.proofs.Anywhere.{any_at, none_more}
use Rattle.rh_refusals.proofs.targets.has_host.Goals as goal

pub returns-then-is_host : goal.returns-then-is_host
unfolding has_host nodes_of
returns-then-is_host c =
    let s = read c.args.state.now in
    let count = c.node_count-count.ensures.count ∙ ap (λ (k : ClusterView). node_count k) c.cluster.ensures in
    sym (any_at (is_host s c.args.app) numbered 0 (node_count s.cluster) c.nodes.number (omega arith) (omega (arith, count, c.nodes-test.true))
    (sym c.is_host.ensures ∙ c.if-is_host.true))

pub nodes-preserved : goal.nodes-preserved
nodes-preserved c =
    let s = read c.args.state.now in
    none_more (is_host s c.args.app) numbered c.nodes.number c.nodes.invariant (sym c.is_host.ensures ∙ c.if-is_host.false)
