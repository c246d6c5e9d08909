use Rattle.std.proofs.Common.{arith}
use Rattle.std.proofs.lemmas.Result.{on_ok_weaker}
use Rattle.rh_state.specs.Stored.{read}
use Rattle.rh_trace.proofs.Counts.{weighed, on_ok_any}
use Rattle.rh_step.proofs.ticks.take_effect.Goals as goal

pub returns-in-Sync-clause-few : goal.returns-in-Sync-clause-few
returns-in-Sync-clause-few c = on_ok_weaker c.end_wait.result (λ few. omega (arith, few)) c.end_wait.ensures.few

pub returns-in-Failover-clause-few : goal.returns-in-Failover-clause-few
returns-in-Failover-clause-few c =
    on_ok_any c.want_if_lost.result
    (weighed (read c.args.state.now).cluster 1 c.args.trace.now c.want_if_lost.new.trace c.want_if_lost.ensures.way.notices c.want_if_lost.ensures.few)
