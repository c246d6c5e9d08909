use Rattle.std.proofs.Common.{arith}
use Rattle.rh_json_text.proofs.Looks.{plain_from_lanes}
use Rattle.rh_json_text.proofs.plain.plain_8.Goals as goal

pub returns : goal.returns
returns c = plain_from_lanes c.args.text.now c.args.at 8 c.requires (omega arith)
