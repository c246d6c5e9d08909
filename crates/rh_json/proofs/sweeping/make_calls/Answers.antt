use Rattle.std.proofs.Common.{get_or, ◌∙◌, arith}
use Rattle.rh_rules.specs.declared.event.Event.TheVariants.{Boot}
use Rattle.rh_model.specs.ClusterView.{numbered}
use Rattle.rh_calls.specs.declared.call.Call.TheVariants.{Step}
use Rattle.rh_run.proofs.Sweeps.{sim_goes_on, next_call}
use Rattle.rh_json.proofs.sweeping.make_calls.Goals as goal

pub loop-call-preserved : goal.loop-call-preserved
loop-call-preserved c =
    let calls = c.args.calls.now in
    let i = c.loop-call.call-index in
    let first = Step (Boot (numbered 0)) in
    let at = next_call calls i first (omega arith) in
    let before = c.loop-call.invariant in
    record {
      sim = sim_goes_on c.args.sim.now.seen.cluster c.args.sim.now.seen c.loop-call.sim.seen c.make_call.new.sim.seen calls i (get_or calls i first) at
          c.in_ok-make_call.ensures.sim before.sim;
      same = c.in_ok-make_call.ensures.cluster ∙ before.same;
    }
