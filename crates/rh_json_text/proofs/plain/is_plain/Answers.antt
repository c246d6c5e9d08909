use Rattle.rh_json_text.proofs.Looks.{stands_on_plain}
use Rattle.rh_json_text.proofs.plain.is_plain.Goals as goal

pub returns : goal.returns
returns c = stands_on_plain c.plain_bytes.result c.args.text.now c.plain_bytes.ensures
