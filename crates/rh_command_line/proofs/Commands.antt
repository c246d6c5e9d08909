-- What the builders make of the command line.
use Rattle.std.proofs.Common.{◌≡◌, ◌∙◌, ◌||◌, Bool, Option, Some, List, false, true, ap, ap₂}
use Rattle.std.specs.Borrow.{Bor}
use Rattle.clap.specs.Built.{AddsArg, AddsSubcommand}
use Rattle.clap.specs.Walk.{Rule, Text, rule_of}
use Rattle.clap.specs.Simple.{App, app_of, app_of_fields, with_rule, with_subcommand}
use Rattle.clap.specs.declared.builder.arg.Arg.{Arg}
use Rattle.clap.specs.declared.builder.command.Command.{Command}
use Rattle.clap.specs.declared.builder.command.Command.TheOpen.{Command-F}
use Rattle.clap.specs.declared.builder.command.Command.TheViews.{out-Command as fields_of}
use Rattle.rh_command_line.specs.CommandLine.{IsCommand}

abbrev globals_of : Command-F Command → Bool
globals_of fields = fields.has_globals

-- the texts of help have no part in what is read
pub about_set : (old new : Command) (app : App) (text : Option (Bor Text)) → fields_of new ≡ record (fields_of old) { about = text }
    → IsCommand app old → IsCommand app new
about_set old new app text is was = (ap app_of_fields is ∙ was.0, ap globals_of is ∙ was.1)

pub after_help_set : (old new : Command) (app : App) (text : Option (Bor Text)) → fields_of new ≡ record (fields_of old) { after_help = text }
    → IsCommand app old → IsCommand app new
after_help_set old new app text is was = (ap app_of_fields is ∙ was.0, ap globals_of is ∙ was.1)

pub version_set : (old new : Command) (app : App) (text : Bor Text) → fields_of new ≡ record (fields_of old) { version = Some text }
    → IsCommand app old → IsCommand (record app { top = record app.top { has_version = true } }) new
version_set old new app text is was =
    (ap app_of_fields is ∙ ap (λ (a : App). record a { top = record a.top { has_version = true } }) was.0, ap globals_of is ∙ was.1)

pub subcommand_wanted : (old new : Command) (app : App) → fields_of new ≡ record (fields_of old) { subcommand_required = true }
    → IsCommand app old → IsCommand (record app { top = record app.top { subcommand_required = true } }) new
subcommand_wanted old new app is was =
    (ap app_of_fields is ∙ ap (λ (a : App). record a { top = record a.top { subcommand_required = true } }) was.0, ap globals_of is ∙ was.1)

-- one more argument, which isn't for other commands too
pub argument_added : (old new : Command) (arg : Arg) (app : App) (rule : Rule) → AddsArg old arg new → IsCommand app old
    → rule_of arg ≡ rule → arg.global ≡ false → IsCommand (with_rule app rule) new
argument_added old new arg app rule added was is local =
    (added.shape local ∙ ap₂ with_rule was.0 is, added.globals ∙ ap₂ (λ a b. a || b) was.1 local)

-- one more subcommand
pub subcommand_added : (old sub new : Command) (app below : App) → AddsSubcommand old sub new → IsCommand app old → IsCommand below sub
    → IsCommand (with_subcommand app below.top) new
subcommand_added old sub new app below added was is =
    (added.shape is.1 ∙ ap₂ with_subcommand was.0 (ap (λ (a : App). a.top) is.0), added.globals ∙ ap₂ (λ a b. a || b) was.1 is.1)
