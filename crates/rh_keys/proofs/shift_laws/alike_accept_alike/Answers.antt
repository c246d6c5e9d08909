use Rattle.rh_keys.proofs.Accepting.{alike_accept_alike}
use Rattle.rh_keys.proofs.shift_laws.alike_accept_alike.Goals as goal

pub returns : goal.returns
returns c = alike_accept_alike
