use Rattle.rh_laws.proofs.ClockAlone.{only_the_clock_moves}
use Rattle.rh_laws.proofs.laws.only_the_clock_moves.Goals as goal

pub returns : goal.returns
returns c = only_the_clock_moves
