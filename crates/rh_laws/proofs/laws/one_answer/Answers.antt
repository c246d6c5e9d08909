use Rattle.rh_laws.proofs.OneAnswer.{one_answer}
use Rattle.rh_laws.proofs.laws.one_answer.Goals as goal

pub returns : goal.returns
returns c = one_answer
