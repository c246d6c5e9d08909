use Rattle.std.proofs.Common.{◌+◌, sym, ap, ◌∙◌, subst, arith}
use Rattle.rh_model.specs.ClusterView.{ClusterView, app_count, app_numbered}
use Rattle.rh_state.specs.StateView.{StateView}
use Rattle.rh_state.specs.Stored.{read}
use Rattle.rh_trace.proofs.Ways.{silent_more, goes_more}
use Rattle.rh_rules.specs.NodesEnd.{lost_if_ran}
use Rattle.rh_events.proofs.Losing.{UnsetFrom, lost_more, lost_cluster, unset_later}
use Rattle.rh_events.proofs.ending.lose_all.Goals as goal

pub apps-preserved : goal.apps-preserved
apps-preserved c =
    let s = read c.apps.state in
    let n = c.args.node in
    let i = c.apps.number in
    record {
      lost = c.in_ok-lose_if_ran.ensures.part ∙ ap (λ t. lost_if_ran n t (app_numbered i)) c.apps.invariant.lost ∙ sym (lost_more (read c.args.state.now) n i);
      cluster = ap (λ (t : StateView). t.cluster) c.in_ok-lose_if_ran.ensures.part ∙ lost_cluster s n (app_numbered i) ∙ c.apps.invariant.cluster;
      unset = subst (λ t. UnsetFrom t n (i + 1)) (sym c.in_ok-lose_if_ran.ensures.part) (unset_later s n i c.apps.invariant.unset);
      silent = silent_more _ _ _ c.apps.invariant.silent c.in_ok-lose_if_ran.ensures.silent;
      way = goes_more _ _ _ _ _ _ c.apps.invariant.way c.in_ok-lose_if_ran.ensures.way;
      few = omega (arith, c.apps.invariant.few, c.in_ok-lose_if_ran.ensures.few);
    }

pub returns-clause-few : goal.returns-clause-few
returns-clause-few c =
    let count = c.app_count-count.ensures.count ∙ ap (λ (k : ClusterView). app_count k) c.cluster.ensures in
    omega (arith, count, c.apps.auto.number-end, c.apps.invariant.few)
