use Rattle.std.proofs.Common.{codes}
use Rattle.rh_json_text.proofs.Arrays.{rest_behind_front}
use Rattle.rh_json_text.specs.Json.{json_array}
use Rattle.rh_otp_plans.specs.OutcomeJson.{hang_json, hangs_list}
use Rattle.rh_otp_plans.proofs.outcome_line.push_hangs_at.Goals as goal

pub returns : goal.returns
unfolding hangs_list
returns c =
    rest_behind_front c.push_all_hangs.result c.args.out.now.items (codes ",\"blocked\":")
    (json_array (hang_json c.args.cluster.now) c.args.hangs.now) c.push_text.new.out.items c.push_all_hangs.new.out.items
    c.in_ok-push_text.ensures c.push_all_hangs.ensures
