use Rattle.std.proofs.Common.{sym, subst}
use Rattle.rh_trace.specs.Validity.{IsValid}
use Rattle.rh_tests.proofs.steps.first_state_of.Goals as goal

pub returns : goal.returns
returns g c = subst IsValid (sym c.in-Ok.ensures.state) (c.first_is_valid.ensures c.args.cluster.now c.is_within.ensures)
