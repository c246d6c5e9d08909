use Rattle.rh_courses.proofs.Lengths.{lengths_add_up}
use Rattle.rh_courses.proofs.laws.lengths_add_up.Goals as goal

pub returns : goal.returns
returns c = lengths_add_up
