use Rattle.std.proofs.Common.{codes}
use Rattle.rh_json_text.proofs.Arrays.{rest_behind_front}
use Rattle.rh_json_lines.specs.OutcomeLines.{count_json, counts_json}
use Rattle.rh_json_lines.proofs.outcomes.push_counts.Goals as goal

pub returns : goal.returns
unfolding counts_json
returns c =
    let o = c.args.outcome.now in
    rest_behind_front c.push_count-2.result c.args.out.now.items (count_json (codes ",\"failovers\":") o.failovers)
    (count_json (codes ",\"takeovers\":") o.takeovers) c.push_count.new.out.items c.push_count-2.new.out.items
    c.in_ok-push_count.ensures c.push_count-2.ensures
