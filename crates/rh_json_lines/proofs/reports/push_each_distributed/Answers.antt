use Rattle.std.proofs.Common.{not}
use Rattle.rh_model.specs.ClusterView.{app_numbered}
use Rattle.rh_state.specs.Stored.{read}
use Rattle.rh_state.specs.StateView.{standing_of}
use Rattle.rh_rules.specs.Course.{is_local}
use Rattle.rh_json_lines.specs.Reports.{standing_json}
use Rattle.rh_json_text.specs.Json.{behind_comma}
use Rattle.rh_json_text.proofs.Arrays.{passed_more}
use Rattle.rh_json_lines.proofs.reports.push_each_distributed.Goals as goal

pub loop-number-preserved : goal.loop-number-preserved
loop-number-preserved c =
    let s = read c.args.state.now in
    passed_more (behind_comma (λ a. standing_json s.cluster a (standing_of s a))) (λ a. not (is_local s.cluster a)) app_numbered c.args.out.now.items c.loop-number.out.items _ c.loop-number.number
    c.loop-number.invariant c.in_ok-push_if_distributed.ensures
