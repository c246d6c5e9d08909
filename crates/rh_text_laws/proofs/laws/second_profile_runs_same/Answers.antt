use Rattle.rh_text_laws.proofs.ProfileTexts.{second_profile_runs_same}
use Rattle.rh_text_laws.proofs.laws.second_profile_runs_same.Goals as goal

pub returns : goal.returns
returns c = second_profile_runs_same
