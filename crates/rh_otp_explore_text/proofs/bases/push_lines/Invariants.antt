use Rattle.std.proofs.Common.{◌≡◌, ◌≤◌, ◌+◌, ◌++◌, length, map}
use Rattle.rh_json.specs.RunJson.{asked_in}
use Rattle.rh_otp_json.specs.LiveJson.{answer_lines}
use Rattle.rh_otp_sim.specs.Laws.{behind}
use Rattle.rh_script.specs.Lines.{raw_lines, content}
use Rattle.rh_otp_explore_text.specs.Bases.{calls_in}
use Rattle.rh_otp_explore_text.proofs.bases.push_lines.Given as goal

abbrev pub invariant-lines : goal.invariant-lines
invariant-lines l = record {
  text : l.out.items ++ answer_lines l.sim (asked_in l.fn.sim.cluster l.number (map content (raw_lines l.rest)))
      ≡ l.fn.out.items ++ answer_lines l.fn.sim (asked_in l.fn.sim.cluster 1 (map content (raw_lines l.script)));
  sim : behind (calls_in (asked_in l.fn.sim.cluster l.number (map content (raw_lines l.rest)))) l.sim
      ≡ behind (calls_in (asked_in l.fn.sim.cluster 1 (map content (raw_lines l.script)))) l.fn.sim;
  same : l.sim.cluster ≡ l.fn.sim.cluster;
  count : l.number + length l.rest ≤ length l.script + 1;
}

abbrev pub decreases-lines : goal.decreases-lines
decreases-lines l = length l.rest
