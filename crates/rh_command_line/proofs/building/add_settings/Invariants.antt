use Rattle.std.proofs.Common.{take}
use Rattle.clap.specs.Words.{App}
use Rattle.rh_command_line.specs.CommandLine.{IsCommand, with_settings}
use Rattle.rh_command_line.proofs.building.add_settings.Given as goal

abbrev pub invariant-loop-setting : goal.invariant-loop-setting
invariant-loop-setting l = (app : App) → IsCommand app l.fn.bare → IsCommand (with_settings l.parts.names app (take l.setting-index l.settings)) l.command
