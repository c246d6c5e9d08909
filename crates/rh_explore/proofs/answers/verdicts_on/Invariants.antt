use Rattle.std.proofs.Common.{take}
use Rattle.std.specs.List.{AllZip}
use Rattle.rh_explore.specs.Tellings.{IsTold}
use Rattle.rh_explore.proofs.answers.verdicts_on.Given as goal

abbrev pub invariant-firsts : goal.invariant-firsts
invariant-firsts l = AllZip (IsTold l.found) (take l.first-index l.firsts) l.verdicts.items
