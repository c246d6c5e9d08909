use Rattle.std.proofs.Common.{◌≡◌, drop}
use Rattle.rh_trail.specs.Lone.{sim_after}
use Rattle.rh_json.proofs.sweeping.make_calls.Given as goal

abbrev pub invariant-loop-call : goal.invariant-loop-call
invariant-loop-call l = record {
  sim : sim_after l.fn.sim.seen l.calls ≡ sim_after l.sim.seen (drop l.call-index l.calls);
  same : l.sim.seen.cluster ≡ l.fn.sim.seen.cluster;
}
