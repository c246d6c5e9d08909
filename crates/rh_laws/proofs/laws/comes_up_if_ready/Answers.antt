use Rattle.rh_laws.proofs.BootsReady.{comes_up_if_ready}
use Rattle.rh_laws.proofs.laws.comes_up_if_ready.Goals as goal

pub returns : goal.returns
returns c = λ s b n shape known. comes_up_if_ready s b shape known n
