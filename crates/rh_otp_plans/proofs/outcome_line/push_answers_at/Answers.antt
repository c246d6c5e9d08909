use Rattle.std.proofs.Common.{codes}
use Rattle.rh_json_text.proofs.Arrays.{rest_behind_front}
use Rattle.rh_json_text.specs.Json.{json_array}
use Rattle.rh_otp_plans.specs.OutcomeJson.{event_json, answers_list}
use Rattle.rh_otp_plans.proofs.outcome_line.push_answers_at.Goals as goal

pub returns : goal.returns
unfolding answers_list
returns c =
    rest_behind_front c.push_all_events.result c.args.out.now.items (codes ",\"answers\":")
    (json_array (event_json c.args.cluster.now) c.args.answers.now) c.push_text.new.out.items c.push_all_events.new.out.items
    c.in_ok-push_text.ensures c.push_all_events.ensures
