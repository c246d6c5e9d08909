use Rattle.std.proofs.Common.{◌≡◌, ◌++◌, drop}
use Rattle.rh_otp_run.specs.Laws.{answers_text}
use Rattle.rh_otp_sim.specs.Laws.{behind}
use Rattle.rh_otp_explore_text.proofs.bases.push_answers.Given as goal

abbrev pub invariant-loop-call : goal.invariant-loop-call
invariant-loop-call l = record {
  sim : behind (drop l.call-index l.calls) l.sim ≡ behind l.calls l.fn.sim;
  text : l.text.items ++ answers_text l.sim (drop l.call-index l.calls) ≡ l.fn.text.items ++ answers_text l.fn.sim l.calls;
}
