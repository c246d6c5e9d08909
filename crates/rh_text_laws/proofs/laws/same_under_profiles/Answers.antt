use Rattle.rh_text_laws.proofs.Profiles.{same_under_profiles}
use Rattle.rh_text_laws.proofs.laws.same_under_profiles.Goals as goal

pub returns : goal.returns
returns c = same_under_profiles
