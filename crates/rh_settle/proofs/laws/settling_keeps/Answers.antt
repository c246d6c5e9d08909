use Rattle.rh_settle.proofs.Still.{settles_sound}
use Rattle.rh_settle.proofs.laws.settling_keeps.Goals as goal

pub returns : goal.returns
returns c = settles_sound
