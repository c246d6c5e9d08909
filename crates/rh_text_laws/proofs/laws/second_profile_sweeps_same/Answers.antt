use Rattle.rh_text_laws.proofs.ProfileSweeps.{second_profile_sweeps_same}
use Rattle.rh_text_laws.proofs.laws.second_profile_sweeps_same.Goals as goal

pub returns : goal.returns
returns c = second_profile_sweeps_same
