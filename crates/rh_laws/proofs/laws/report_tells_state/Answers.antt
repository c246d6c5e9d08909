use Rattle.rh_laws.proofs.ReportTells.{report_tells_state}
use Rattle.rh_laws.proofs.laws.report_tells_state.Goals as goal

pub returns : goal.returns
returns c = report_tells_state
