use Rattle.rh_terms.proofs.Read
use Rattle.rh_terms.proofs.laws.one_reading.Goals as goal

pub returns : goal.returns
returns c = λ ts us bytes h k. Read.one_reading ts us bytes h k
