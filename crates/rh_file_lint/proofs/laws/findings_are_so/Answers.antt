use Rattle.rh_file_lint.proofs.Listed.{findings_are_so}
use Rattle.rh_file_lint.proofs.laws.findings_are_so.Goals as goal

pub returns : goal.returns
returns c = findings_are_so
