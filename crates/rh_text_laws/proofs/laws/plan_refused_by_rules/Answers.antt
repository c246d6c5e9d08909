use Rattle.rh_text_laws.proofs.PlanRefusals.{plan_refused_by_rules}
use Rattle.rh_text_laws.proofs.laws.plan_refused_by_rules.Goals as goal

pub returns : goal.returns
returns c = plan_refused_by_rules
