use Rattle.rh_terms.proofs.Enough.{some_enough, dotted_enough}
use Rattle.rh_terms.proofs.laws.bounds_are_never_met.Goals as goal

pub returns-clause-elements : goal.returns-clause-elements
returns-clause-elements c = λ room close n m bs h k. some_enough room close n m bs h k

pub returns-clause-terms : goal.returns-clause-terms
returns-clause-terms c = λ n m bs h k. dotted_enough n m bs h k
