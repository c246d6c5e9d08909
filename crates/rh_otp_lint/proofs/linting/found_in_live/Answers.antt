use Rattle.std.proofs.Common.{ap, length, arith}
use Rattle.rh_lint.proofs.Lengths.{text_within}
use Rattle.rh_otp_lint.proofs.linting.found_in_live.Goals as goal

pub of_fault-requires : goal.of_fault-requires
of_fault-requires c = omega (arith, c.requires, text_within c.args.input.now, ap length c.cut.ensures.cluster)

pub of_script-requires-clause-text : goal.of_script-requires-clause-text
of_script-requires-clause-text c = omega (arith, c.requires, text_within c.args.input.now, ap length c.cut.ensures.cluster)
