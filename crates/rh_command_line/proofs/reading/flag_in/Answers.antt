use Rattle.std.proofs.Common.{◌≡◌, ◌∙◌, ℕ, List, ap}
use Rattle.clap.proofs.WalkLemmas.{first_value-rows}
use Rattle.clap.specs.Words.{first_of, found_of, rows_of}
use Rattle.rh_command_line.specs.Asking.{is_given}
use Rattle.rh_command_line.proofs.reading.flag_in.Goals as goal

pub returns : goal.returns
returns c =
    let found = found_of c.args.matches.now in
    c.is_given.ensures
    ∙ ap is_given
    (c.get_str.ensures ∙ first_value-rows found c.word.result.now ∙ ap (λ (id : List ℕ). first_of id (rows_of found)) c.word.ensures)
