use Rattle.rh_text_laws.proofs.PlanReplies.{plan_is_run}
use Rattle.rh_text_laws.proofs.laws.plan_is_run.Goals as goal

pub returns : goal.returns
returns c = plan_is_run
