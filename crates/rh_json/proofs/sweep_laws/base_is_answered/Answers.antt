use Rattle.rh_json.proofs.SweepLines.{base_is_answered}
use Rattle.rh_json.proofs.sweep_laws.base_is_answered.Goals as goal

pub returns : goal.returns
returns c = base_is_answered
