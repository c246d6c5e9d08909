use Rattle.rh_text_laws.proofs.ProfileReplies.{replies_same_under_profiles}
use Rattle.rh_text_laws.proofs.laws.replies_same_under_profiles.Goals as goal

pub returns : goal.returns
returns c = replies_same_under_profiles
