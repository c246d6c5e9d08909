use Rattle.std.proofs.Common.{take}
use Rattle.clap.specs.Words.{App}
use Rattle.rh_command_line.specs.CommandLine.{IsCommand, with_subcommands}
use Rattle.rh_command_line.proofs.building.add_subcommands.Given as goal

abbrev pub invariant-loop-subcommand : goal.invariant-loop-subcommand
invariant-loop-subcommand l = (app : App) → IsCommand app l.fn.bare → IsCommand (with_subcommands l.parts.names app (take l.subcommand-index l.subcommands)) l.command
