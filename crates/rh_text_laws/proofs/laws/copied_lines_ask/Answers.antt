use Rattle.rh_text_laws.proofs.PlanLines.{copied_lines_ask}
use Rattle.rh_text_laws.proofs.laws.copied_lines_ask.Goals as goal

pub returns : goal.returns
returns c = copied_lines_ask
