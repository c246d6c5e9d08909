use Rattle.std.proofs.Common.{inl, inr, refl, arith}
use Rattle.std.proofs.lemmas.Bool.Decides.{nat_tests}
use Rattle.rh_programs.proofs.status.flush_and_answer.Goals as goal

pub returns-in-Ok : goal.returns-in-Ok
returns-in-Ok g c = inl (c.in-Ok.ensures.flushes, grind (arith, nat_tests, c.in-Ok.ensures.failed), c.status_of.ensures)

pub returns : goal.returns
returns g c = inr (c.in-Err.ensures.fails, grind (arith, nat_tests, c.in-Err.ensures.failed), refl)
