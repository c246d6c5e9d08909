use Rattle.std.proofs.Common.{append_assoc, ◌∙◌}
use Rattle.std.specs.Prelude.{codes}
use Rattle.rh_model.specs.ClusterView.{app_numbered}
use Rattle.rh_json_lines.specs.ClusterLines.{settings_json}
use Rattle.rh_json_text.specs.Json.{behind_comma}
use Rattle.rh_json_text.proofs.Arrays.{numbers_more, one_behind}
use Rattle.rh_json_lines.proofs.clusters.push_each_app.Goals as goal

pub loop-number-preserved : goal.loop-number-preserved
loop-number-preserved c =
    numbers_more (behind_comma (settings_json c.args.cluster.now)) app_numbered c.args.out.now.items c.loop-number.out.items _ c.loop-number.number c.loop-number.invariant
    (one_behind (settings_json c.args.cluster.now) (app_numbered c.loop-number.number) c.loop-number.out.items _ _ c.in_ok-push_text.ensures c.in_ok-push_settings.ensures)
