use Rattle.rh_text_laws.proofs.ProfileReplies.{none_permits_none_gives_back}
use Rattle.rh_text_laws.proofs.laws.none_permits_none_gives_back.Goals as goal

pub returns : goal.returns
returns c = none_permits_none_gives_back
