use Rattle.rh_settle.proofs.SettlingLaws.{settles_by_pick}
use Rattle.rh_settle.proofs.laws.settles_by_pick.Goals as goal

pub returns : goal.returns
returns c = settles_by_pick
