use Rattle.rh_otp_laws.proofs.Weighing.{starts_where_it_may}
use Rattle.rh_otp_laws.proofs.laws.dist_ac_starts_where_it_may.Goals as goal

pub returns : goal.returns
returns c = starts_where_it_may
