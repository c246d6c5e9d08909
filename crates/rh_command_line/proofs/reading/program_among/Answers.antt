use Rattle.std.proofs.Common.{◌≡◌, ◌∙◌, ap, Some, None}
use Rattle.rh_command_line.specs.Asking.{program_among}
use Rattle.rh_command_line.proofs.Matches.{subcommand_is}
use Rattle.rh_command_line.proofs.reading.program_among.Goals as goal

pub returns-in_err-name-clause-named : goal.returns-in_err-name-clause-named
returns-in_err-name-clause-named c =
    c.from_residual.ensures ∙ ap program_among (subcommand_is c.args.matches.now None c.in_err-name.ensures.name c.in_err-name.ensures.rows)

pub returns-clause-named : goal.returns-clause-named
returns-clause-named c =
    let met = Some (c.in_ok-name.name, c.in_ok-name.matches) in
    c.program_in.ensures.named ∙ ap program_among (subcommand_is c.args.matches.now met c.in_ok-name.ensures.name c.in_ok-name.ensures.rows)
