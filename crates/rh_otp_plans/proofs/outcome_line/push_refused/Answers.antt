use Rattle.std.proofs.Common.{codes}
use Rattle.rh_json_text.proofs.Arrays.{rest_behind_front}
use Rattle.rh_otp_sim.specs.declared.lines.Answer.TheVariants.{Told}
use Rattle.rh_otp_sim.specs.declared.verdict.Verdict.TheVariants.{Refused}
use Rattle.rh_otp_plans.specs.OutcomeJson.{answered_json, refused_json}
use Rattle.rh_otp_plans.proofs.outcome_line.push_refused.Goals as goal

pub returns : goal.returns
unfolding refused_json
returns c =
    rest_behind_front c.push_answered.result c.args.out.now.items (codes ",\"refused\":")
    (answered_json c.args.cluster.now c.args.number (Told (Refused c.args.refusal))) c.push_text.new.out.items
    c.push_answered.new.out.items c.in_ok-push_text.ensures c.push_answered.ensures
