use Rattle.std.proofs.Common.{◌≡◌, List, rules, subst}
use Rattle.clap.specs.Simple.{app_of}
use Rattle.rh_command_line.specs.declared.table.Subcommand.{Subcommand}
use Rattle.rh_command_line.specs.Table.{subcommands}
use Rattle.rh_command_line.specs.CommandLine.{bare_line, with_subcommands}
use Rattle.rh_command_line.proofs.Commands.{about_set, after_help_set, subcommand_wanted, version_set}
use Rattle.rh_command_line.proofs.building.whole_command.Goals as goal

pub returns-clause-ok : goal.returns-clause-ok
returns-clause-ok c =
    let named = version_set _ _ _ _ c.version.ensures (c.new.ensures.app, c.new.ensures.local) in
    let told = after_help_set _ _ _ _ c.after_help.ensures (about_set _ _ _ _ c.about.ensures named) in
    let bare = subcommand_wanted _ _ _ c.subcommand_required-bare.ensures told in
    let all : c.as_slice.result.now ≡ subcommands = search rules in
    subst (λ (ss : List Subcommand). app_of c.in_ok-command.command ≡ with_subcommands c.args.names bare_line ss) all (c.in_ok-command.ensures.ok _ bare).0
