use Rattle.rh_otp_explore_laws.proofs.OneAnswer.{are_one}
use Rattle.rh_otp_explore_laws.proofs.laws.live_answers_are_one.Goals as goal

pub returns : goal.returns
returns c = are_one
