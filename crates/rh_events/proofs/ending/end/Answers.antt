use Rattle.std.proofs.Common.{◌≡◌, ◌<◌, List, length, IsNone, sym, ap, ◌∙◌, subst, arith}
use Rattle.std.proofs.lemmas.Result.{on_ok_weaker}
use Rattle.rh_model.specs.ClusterView.{ClusterView, node_count, app_count}
use Rattle.rh_model.specs.declared.node.App.{App}
use Rattle.rh_state.specs.declared.status.Standing.TheVariants.{Running}
use Rattle.rh_state.specs.declared.status.Timer.TheVariants.{Failover}
use Rattle.rh_state.specs.StateView.{StateView, standing_of, due_of}
use Rattle.rh_state.specs.Stored.{read}
use Rattle.rh_rules.specs.NodesEnd.{cleared}
use Rattle.rh_rules.specs.declared.notice.Notice.{Notice}
use Rattle.rh_rules.specs.declared.notice.Notice.TheVariants.{Ended}
use Rattle.rh_trace.specs.Traces.{TraceView}
use Rattle.rh_trace.proofs.Ways.{goes_cluster}
use Rattle.rh_events.proofs.Counts.{told_once}
use Rattle.rh_events.proofs.Losing.{unset_cleared}
use Rattle.rh_events.proofs.ending.end.Goals as goal

pub lose_all-requires-clause-node : goal.lose_all-requires-clause-node
unfolding cleared
lose_all-requires-clause-node c =
    subst (λ (s : StateView). c.args.node.0 < node_count s.cluster) (sym c.in_ok-clear.ensures.part) c.requires.node

pub lose_all-requires-clause-unset : goal.lose_all-requires-clause-unset
lose_all-requires-clause-unset c =
    subst (λ (s : StateView). (a : App) → standing_of s a ≡ Running c.args.node → IsNone (due_of s (Failover a))) (sym c.in_ok-clear.ensures.part)
    (unset_cleared (read c.args.state.now) c.args.node c.requires.unset)

pub returns-clause-few : goal.returns-clause-few
returns-clause-few c =
    let told = c.in_ok-tell.ensures.told in
    let apps = ap (λ (v : ClusterView). app_count v) (goes_cluster _ _ _ _ c.in_ok-clear.ensures.way) in
    let edits = ap (λ (t : TraceView). length t.edits) told in
    let before = ap (λ (ns : List Notice). length ns) c.in_ok-clear.ensures.silent.notices in
    let count = ap (λ (ns : List Notice). length ns) c.lose_all.ensures.silent.notices in
    on_ok_weaker c.lose_all.result
    (λ few. told_once (read c.args.state.now).cluster (Ended c.args.node) c.args.trace.now c.lose_all.new.trace
    (c.lose_all.ensures.silent.notices ∙ c.in_ok-clear.ensures.silent.notices ∙ ap (λ (t : TraceView). t.notices) told)
    (omega (arith, apps, edits, before, count, c.in_ok-clear.ensures.few, few)))
    c.lose_all.ensures.few
