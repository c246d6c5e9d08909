use Rattle.rh_otp_laws.proofs.Knowing.{stay_at_their_node}
use Rattle.rh_otp_laws.proofs.laws.moves_stay_at_their_node.Goals as goal

pub returns : goal.returns
returns c = stay_at_their_node
