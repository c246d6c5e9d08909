use Rattle.std.proofs.Common.{◌≡◌, ◌++◌, drop}
use Rattle.rh_trail.specs.Lone.{sim_after}
use Rattle.rh_run.specs.RunText.{answers_text}
use Rattle.rh_explore_text.proofs.exploring.answers_to.Given as goal

abbrev pub invariant-calls : goal.invariant-calls
invariant-calls l = record {
  sim : sim_after l.fn.sim.seen l.calls ≡ sim_after l.sim.seen (drop l.call-index l.calls);
  text : answers_text l.fn.sim.seen.cluster l.fn.sim.seen l.calls
      ≡ l.text.items ++ answers_text l.fn.sim.seen.cluster l.sim.seen (drop l.call-index l.calls);
  same : l.sim.seen.cluster ≡ l.fn.sim.seen.cluster;
}
