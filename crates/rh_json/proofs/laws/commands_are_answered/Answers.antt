use Rattle.rh_json.proofs.Lines.{commands_are_answered}
use Rattle.rh_json.proofs.laws.commands_are_answered.Goals as goal

pub returns : goal.returns
returns c = commands_are_answered
