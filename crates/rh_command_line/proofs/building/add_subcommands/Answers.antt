use Rattle.std.proofs.Common.{◌≡◌, take, sym, subst, arith}
use Rattle.std.proofs.lemmas.List.{take_all}
use Rattle.std.proofs.lemmas.List.Sums.{fold_more}
use Rattle.std.specs.Prelude.{List}
use Rattle.clap.specs.Simple.{App, with_subcommand}
use Rattle.rh_command_line.specs.declared.table.Subcommand.{Subcommand}
use Rattle.rh_command_line.specs.CommandLine.{IsCommand, subcommand_line, with_subcommands}
use Rattle.rh_command_line.proofs.Commands.{subcommand_added}
use Rattle.rh_command_line.proofs.building.add_subcommands.Goals as goal

pub loop-subcommand-preserved : goal.loop-subcommand-preserved
loop-subcommand-preserved c = λ app is.
    let names = c.args.parts.names in
    let before = c.loop-subcommand.invariant app is in
    let more = subcommand_added _ _ _ _ _ c.in_ok-command.ensures before c.in_ok-added.ensures.ok in
    subst (λ (a : App). IsCommand a c.in_ok-command.command)
    (sym (fold_more (λ (a : App) (s : Subcommand). with_subcommand a (subcommand_line names s).top) app c.args.subcommands.now c.loop-subcommand.subcommand-index _ (omega arith)))
    more

pub returns-clause-ok : goal.returns-clause-ok
returns-clause-ok c = λ app is.
    let all = take_all c.loop-subcommand.subcommand-index c.args.subcommands.now (omega arith) in
    subst (λ (ss : List Subcommand). IsCommand (with_subcommands c.args.parts.names app ss) c.loop-subcommand.command) all (c.loop-subcommand.invariant app is)
