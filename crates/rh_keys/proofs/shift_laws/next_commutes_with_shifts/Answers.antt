use Rattle.rh_keys.proofs.GoingOn.{next_commutes_with_shifts}
use Rattle.rh_keys.proofs.shift_laws.next_commutes_with_shifts.Goals as goal

pub returns : goal.returns
returns c = next_commutes_with_shifts
