use Rattle.rh_model.specs.ClusterView.{numbered}
use Rattle.rh_state.specs.Stored.{read}
use Rattle.rh_json_lines.specs.Reports.{state_json}
use Rattle.rh_json_text.specs.Json.{behind_comma}
use Rattle.rh_json_text.proofs.Arrays.{numbers_more, one_behind}
use Rattle.rh_json_lines.proofs.reports.push_each_state.Goals as goal

pub loop-number-preserved : goal.loop-number-preserved
loop-number-preserved c =
    numbers_more (behind_comma (state_json (read c.args.state.now))) numbered c.args.out.now.items c.loop-number.out.items _ c.loop-number.number c.loop-number.invariant
    (one_behind (state_json (read c.args.state.now)) (numbered c.loop-number.number) c.loop-number.out.items _ _ c.in_ok-push_text.ensures c.in_ok-push_state.ensures)
