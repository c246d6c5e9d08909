use Rattle.rh_otp_file.proofs.OwnTerms.{each_node_has_its_own}
use Rattle.rh_otp_file.proofs.laws.each_node_has_its_own.Goals as goal

pub returns : goal.returns
returns c = each_node_has_its_own
