use Rattle.std.proofs.Common.{map}
use Rattle.std.specs.String.{string_bytes}
use Rattle.rh_command_line.proofs.Asking.{refused}
use Rattle.rh_command_line.proofs.command_line.asked_by.Goals as goal

pub returns-in-Err : goal.returns-in-Err
returns-in-Err c = refused (map string_bytes c.args.words.now) c.in-Err.error c.refused_by.result c.refused_by.ensures c.in-Err.ensures.err
