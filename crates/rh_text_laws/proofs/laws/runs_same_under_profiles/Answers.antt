use Rattle.rh_text_laws.proofs.ProfileTexts.{runs_same_under_profiles}
use Rattle.rh_text_laws.proofs.laws.runs_same_under_profiles.Goals as goal

pub returns : goal.returns
returns c = runs_same_under_profiles
