use Rattle.rh_line_lint.proofs.Taken.{taken, chosen}
use Rattle.rh_line_lint.proofs.Blamed.{blamed}
use Rattle.rh_line_lint.proofs.laws.blame_is_as_read.Goals as goal

pub returns : goal.returns
returns c = record { taken = taken; choices = chosen; told = blamed }
