use Rattle.std.proofs.Common.{◌≡◌, ℕ, List, IfOk, subst}
use Rattle.clap.specs.Simple.{new_app}
use Rattle.rh_command_line.specs.declared.table.Setting.{Setting}
use Rattle.rh_command_line.specs.Table.{settings_of}
use Rattle.rh_command_line.specs.CommandLine.{IsCommand, with_settings}
use Rattle.rh_command_line.proofs.Commands.{about_set, after_help_set}
use Rattle.rh_command_line.proofs.building.subcommand_command.Goals as goal

pub returns-clause-ok : goal.returns-clause-ok
returns-clause-ok c =
    let names = c.args.parts.names in
    let bare = after_help_set _ _ _ _ c.after_help-bare.ensures (about_set _ _ _ _ c.about.ensures (c.new.ensures.app, c.new.ensures.local)) in
    subst (λ (word : List ℕ). IfOk c.add_settings.result (IsCommand (with_settings names (new_app word) (settings_of c.args.subcommand))))
    c.entry-entry.ensures.word
    (subst (λ (settings : List Setting). IfOk c.add_settings.result (IsCommand (with_settings names (new_app c.entry-entry.result.word.now) settings)))
    c.entry-entry.ensures.settings (c.add_settings.ensures.ok _ bare))
