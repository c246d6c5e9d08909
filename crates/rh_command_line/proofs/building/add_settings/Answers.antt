use Rattle.std.proofs.Common.{◌≡◌, take, sym, subst, arith}
use Rattle.std.proofs.lemmas.List.{take_all}
use Rattle.std.proofs.lemmas.List.Sums.{fold_more}
use Rattle.std.specs.Prelude.{List}
use Rattle.clap.specs.Simple.{App, with_rule}
use Rattle.rh_command_line.specs.declared.table.Setting.{Setting}
use Rattle.rh_command_line.specs.CommandLine.{IsCommand, setting_option, with_settings}
use Rattle.rh_command_line.proofs.Commands.{argument_added}
use Rattle.rh_command_line.proofs.building.add_settings.Goals as goal

pub loop-setting-preserved : goal.loop-setting-preserved
loop-setting-preserved c = λ app is.
    let names = c.args.parts.names in
    let before = c.loop-setting.invariant app is in
    let more = argument_added _ _ _ _ _ c.in_ok-command.ensures before c.argument.ensures.rule c.argument.ensures.local in
    subst (λ (a : App). IsCommand a c.in_ok-command.command)
    (sym (fold_more (λ (a : App) (s : Setting). with_rule a (setting_option names s)) app c.args.settings.now c.loop-setting.setting-index _ (omega arith)))
    more

pub returns-clause-ok : goal.returns-clause-ok
returns-clause-ok c = λ app is.
    let all = take_all c.loop-setting.setting-index c.args.settings.now (omega arith) in
    subst (λ (ss : List Setting). IsCommand (with_settings c.args.parts.names app ss) c.loop-setting.command) all (c.loop-setting.invariant app is)
