use Rattle.rh_model.proofs.Prefix.{symbols_told, same_front, all_told}
use Rattle.rh_model.proofs.laws.symbols_tell_terms.Goals as goal

pub returns-clause-terms : goal.returns-clause-terms
returns-clause-terms c = symbols_told

pub returns-clause-fronts : goal.returns-clause-fronts
returns-clause-fronts c = λ t u r s e. (same_front t u r s e).0

pub returns-clause-lists : goal.returns-clause-lists
returns-clause-lists c = all_told
