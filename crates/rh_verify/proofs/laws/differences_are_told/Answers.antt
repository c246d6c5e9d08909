use Rattle.rh_verify.proofs.Agreeing.{agrees, quiet}
use Rattle.rh_verify.proofs.laws.differences_are_told.Goals as goal

pub returns-clause-told : goal.returns-clause-told
returns-clause-told _ = λ bytes c pick is. agrees bytes c pick is

pub returns-clause-nothing : goal.returns-clause-nothing
returns-clause-nothing _ = λ bytes c pick is none. quiet bytes c pick is none
