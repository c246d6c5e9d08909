use Rattle.rh_text_laws.proofs.PlanTexts.{plan_text_is_run}
use Rattle.rh_text_laws.proofs.laws.plan_text_is_run.Goals as goal

pub returns : goal.returns
returns c = plan_text_is_run
