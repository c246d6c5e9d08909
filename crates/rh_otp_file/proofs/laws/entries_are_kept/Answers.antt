use Rattle.rh_otp_file.proofs.Kept.{entries_are_kept}
use Rattle.rh_otp_file.proofs.laws.entries_are_kept.Goals as goal

pub returns : goal.returns
returns c = entries_are_kept
