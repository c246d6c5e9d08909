-- A start at all nodes is a start at each of them.
use Rattle.std.proofs.Common.{refl}
use Rattle.rh_rules.specs.Everywhere.{start_all}
use Rattle.rh_rules.specs.Steps.{followed, next}
use Rattle.rh_laws.specs.Laws.{StartAllIsStarts}

pub start_all_is_starts : StartAllIsStarts
unfolding next followed start_all
start_all_is_starts s a r pick = refl
