use Rattle.std.proofs.Common.{arith}
use Rattle.std.proofs.lemmas.Grind.{common_steps}
use Rattle.std.proofs.lemmas.List.Elements.{filter_map-append}
use Rattle.rh_otp_file.proofs.distributed.entries_of.Goals as goal

pub loop-term-preserved : goal.loop-term-preserved
loop-term-preserved c = grind (arith, common_steps, filter_map-append)
