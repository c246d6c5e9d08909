use Rattle.std.proofs.Common.{◌≡◌, ◌∙◌, ap, codes}
use Rattle.std.specs.Prelude.{option_and_then}
use Rattle.std.specs.Str.Parse.{ExplainsUnsignedError, HasUnsignedDigitsIfOk, ParsesUnsigned}
use Rattle.clap.proofs.WalkLemmas.{one_text-rows}
use Rattle.clap.specs.Words.{found_of}
use Rattle.rh_command_line.specs.Asking.{workers_of}
use Rattle.rh_plans.specs.declared.workers.TheConstants.{MAX_WORKERS}
use Rattle.rh_command_line.proofs.Matches.{number_read}
use Rattle.rh_command_line.proofs.reading.workers_in.Goals as goal

pub returns-in-Some-clause-number : goal.returns-in-Some-clause-number
returns-in-Some-clause-number c =
    let text = ap (option_and_then workers_of) (one_text-rows (found_of c.args.matches.now) (codes "workers")) in
    c.allowed_workers.ensures.number
    ∙ number_read (λ bs r. ParsesUnsigned 64 10 bs r × ExplainsUnsignedError 10 bs r × HasUnsignedDigitsIfOk bs r) (λ u x g. g.0) MAX_WORKERS _ _
    c.in-Some.ensures.none c.in-Some.ensures.value
    ∙ text

pub returns-in-None-clause-number : goal.returns-in-None-clause-number
returns-in-None-clause-number c =
    let text = ap (option_and_then workers_of) (one_text-rows (found_of c.args.matches.now) (codes "workers")) in
    number_read (λ bs r. ParsesUnsigned 64 10 bs r × ExplainsUnsignedError 10 bs r × HasUnsignedDigitsIfOk bs r) (λ u x g. g.0) MAX_WORKERS _ _
    c.in-None.ensures.none c.in-None.ensures.value
    ∙ text
