use Rattle.std.proofs.Common.{◌≡◌, ◌∙◌, ap, codes}
use Rattle.std.specs.Prelude.{option_and_then}
use Rattle.std.specs.Str.Parse.{ExplainsUnsignedError, HasUnsignedDigitsIfOk, ParsesUnsigned}
use Rattle.clap.proofs.WalkLemmas.{one_text-rows}
use Rattle.clap.specs.Words.{found_of}
use Rattle.rh_command_line.specs.Asking.{number_of}
use Rattle.rh_command_line.specs.declared.table.TheConstants.{MOST_NUMBER}
use Rattle.rh_command_line.proofs.Matches.{number_read}
use Rattle.rh_command_line.proofs.reading.number_in.Goals as goal

pub returns-in-Some : goal.returns-in-Some
returns-in-Some c =
    let text = ap (option_and_then number_of) (one_text-rows (found_of c.args.matches.now) (codes "pick")) in
    c.allowed_number.ensures
    ∙ number_read (λ bs r. ParsesUnsigned 64 10 bs r × ExplainsUnsignedError 10 bs r × HasUnsignedDigitsIfOk bs r) (λ u x g. g.0) MOST_NUMBER _ _
    c.in-Some.ensures.none c.in-Some.ensures.value
    ∙ text

pub returns-in-None : goal.returns-in-None
returns-in-None c =
    let text = ap (option_and_then number_of) (one_text-rows (found_of c.args.matches.now) (codes "pick")) in
    number_read (λ bs r. ParsesUnsigned 64 10 bs r × ExplainsUnsignedError 10 bs r × HasUnsignedDigitsIfOk bs r) (λ u x g. g.0) MOST_NUMBER _ _
    c.in-None.ensures.none c.in-None.ensures.value
    ∙ text
