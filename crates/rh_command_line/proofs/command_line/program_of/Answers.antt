use Rattle.std.proofs.Common.{◌≡◌, ◌∙◌, ◌⊎◌, ap, map, sym, inl, inr}
use Rattle.std.specs.String.{string_bytes}
use Rattle.clap.specs.Words.{kind_of}
use Rattle.clap.specs.declared.error.kind.ErrorKind.TheVariants as kind
use Rattle.rh_command_line.specs.Asking.{Refuses, program_among}
use Rattle.rh_command_line.proofs.Asking.{faulty, handed_on, no_fault, some_fault, subcommand_met}
use Rattle.rh_command_line.proofs.command_line.program_of.Goals as goal

pub returns-in_err-matches-clause-err : goal.returns-in_err-matches-clause-err
returns-in_err-matches-clause-err c =
    let words = map string_bytes c.args.words.now in
    let found = some_fault _ c.names.result words c.in_ok-command.ensures.ok c.in_err-matches.field-0.0 c.in_err-matches.ensures.kinds in
    handed_on c.from_residual-in_err-matches.result c.in_err-matches.field-0.0 (λ error. (kind_of error ≡ kind.OutOfMemory) ⊎ Refuses words error)
    c.from_residual-in_err-matches.ensures.1 (faulty c.names.result words c.in_err-matches.field-0.0 c.names.ensures found)

pub returns-in-Some-clause-ok : goal.returns-in-Some-clause-ok
returns-in-Some-clause-ok c = (
  c.names.result,
  c.names.ensures,
  no_fault _ _ _ c.in_ok-command.ensures.ok c.in_ok-matches.ensures.kinds,
  ap program_among (sym (subcommand_met _ _ _ c.in_ok-command.ensures.ok _ c.in_ok-matches.ensures.matches)) ∙ sym c.in-Some.ensures.named,
  c.in-Some.ensures.staffed,
)

pub returns-clause-err : goal.returns-clause-err
returns-clause-err c =
    let none = ap program_among (sym (subcommand_met _ _ _ c.in_ok-command.ensures.ok _ c.in_ok-matches.ensures.matches)) ∙ sym c.in-None.ensures.named in
    inr (c.names.result, c.names.ensures, inr none)
