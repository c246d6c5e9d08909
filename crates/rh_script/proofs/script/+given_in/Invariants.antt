use Rattle.std.proofs.Common.{length}
use Rattle.rh_script.proofs.script.+given_in.Given as goal

abbrev pub decreases-given_in : goal.decreases-given_in
decreases-given_in l = length l.arguments.now
