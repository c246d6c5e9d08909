use Rattle.rh_text_laws.proofs.ProfileFiles.{second_profile_reads_same}
use Rattle.rh_text_laws.proofs.laws.second_profile_reads_same.Goals as goal

pub returns : goal.returns
returns c = second_profile_reads_same
