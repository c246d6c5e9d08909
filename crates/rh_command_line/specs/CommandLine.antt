-- The command line: what its parser reads of it (ours).
use Rattle.std.specs.Prelude.{◌≡◌, List, [], ◌∷◌, fold, false, true, Some, codes}
use Rattle.clap.specs.Walk.{Rule, Text, texts}
use Rattle.clap.specs.Simple.{App, app_of, new_app, new_rule, new_shape, with_rule, with_subcommand}
use Rattle.clap.specs.declared.builder.action.ArgAction.TheVariants.{Set, SetTrue}
use Rattle.clap.specs.declared.builder.command.Command.{Command}
use Rattle.clap.specs.declared.builder.command.Command.TheViews.{out-Command as fields_of}
use Rattle.clap.specs.declared.builder.value_parser.ValueParser.TheVariants as parser
use Rattle.rh_plans.specs.declared.workers.TheConstants.{MAX_WORKERS}
use Rattle.rh_command_line.specs.declared.building.Names.{Names}
use Rattle.rh_command_line.specs.declared.table.TheConstants.{MOST_MEBIBYTES, MOST_STATES}
use Rattle.rh_command_line.specs.declared.table.Setting.{Setting}
use Rattle.rh_command_line.specs.declared.table.Setting.TheVariants as setting
use Rattle.rh_command_line.specs.declared.table.Subcommand.{Subcommand}
use Rattle.rh_command_line.specs.Table.{flag_word, settings_of, subcommands, word_of}

-- these are the names of the choices at a tie and of the rules, wherever they lie in memory
abbrev pub AreNames : Names → Type 0
AreNames names = (texts names.picks.now ≡ codes "first" ∷ codes "last" ∷ []) × (texts names.rules.now ≡ codes "manual" ∷ codes "otp25" ∷ [])

-- `--pick NAME`, one of these names, and `first` where it isn't given
abbrev pub pick_option : Names → Rule
pick_option names = record (new_rule (codes "pick")) {
  long = Some (codes "pick");
  action = Some Set;
  defaults = codes "first" ∷ [];
  parser = Some (parser.Names names.picks);
}

-- `--pick WORD`, any word, and `first` where it isn't given: which words mean something is asked behind the parser
abbrev pub word_option : Rule
word_option = record (new_rule (codes "pick")) {
  long = Some (codes "pick");
  action = Some Set;
  defaults = codes "first" ∷ [];
  parser = Some parser.String;
}

-- `--rules NAME`, one of these names, and `manual` where it isn't given
abbrev pub rules_option : Names → Rule
rules_option names = record (new_rule (codes "rules")) {
  long = Some (codes "rules");
  action = Some Set;
  defaults = codes "manual" ∷ [];
  parser = Some (parser.Names names.rules);
}

-- `--workers K`, a number from 1 to 16, and 1 where it isn't given
abbrev pub workers_option : Rule
workers_option = record (new_rule (codes "workers")) {
  long = Some (codes "workers");
  action = Some Set;
  defaults = codes "1" ∷ [];
  parser = Some (parser.Unsigned 1 MAX_WORKERS);
}

-- `--states K`, a number from 1 to 2^32 - 1, and 1,000,000 where it isn't given
abbrev pub states_option : Rule
states_option = record (new_rule (codes "states")) {
  long = Some (codes "states");
  action = Some Set;
  defaults = codes "1000000" ∷ [];
  parser = Some (parser.Unsigned 1 MOST_STATES);
}

-- `--memory K`, a number from 1 to 2^20, and 1,024 where it isn't given
abbrev pub memory_option : Rule
memory_option = record (new_rule (codes "memory")) {
  long = Some (codes "memory");
  action = Some Set;
  defaults = codes "1024" ∷ [];
  parser = Some (parser.Unsigned 1 MOST_MEBIBYTES);
}

-- `--WORD`, which takes no value
abbrev pub flag_option : Text → Rule
flag_option word = record (new_rule word) { long = Some word; action = Some SetTrue }

-- what each option of the table is read as
abbrev pub setting_option : Names → Setting → Rule
setting_option names setting.Pick = pick_option names
setting_option names setting.PickOrNumber = word_option
setting_option names setting.Rules = rules_option names
setting_option names setting.Workers = workers_option
setting_option names setting.States = states_option
setting_option names setting.Memory = memory_option
setting_option names (setting.Flag flag) = flag_option (flag_word flag)

-- a command with more options
abbrev pub with_settings : Names → App → List Setting → App
with_settings names app settings = fold (λ a s. with_rule a (setting_option names s)) app settings

-- a subcommand, with its options
abbrev pub subcommand_line : Names → Subcommand → App
subcommand_line names s = with_settings names (new_app (word_of s)) (settings_of s)

-- a command with more subcommands
abbrev pub with_subcommands : Names → App → List Subcommand → App
with_subcommands names app subcommands = fold (λ a s. with_subcommand a (subcommand_line names s).top) app subcommands

-- the line before its subcommands: it has a version, and wants one of them
abbrev pub bare_line : App
bare_line = record {
  top = record (new_shape (codes "rehearse")) { has_version = true; subcommand_required = true };
  subs = [];
}

-- the whole line
abbrev pub line : Names → App
line names = with_subcommands names bare_line subcommands

-- a command is read as this, and no argument of it is for other commands too
abbrev pub IsCommand : App → Command → Type 0
IsCommand app command = (app_of command ≡ app) × ((fields_of command).has_globals ≡ false)
