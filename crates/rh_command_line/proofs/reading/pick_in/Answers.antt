use Rattle.std.proofs.Common.{◌≡◌, ◌∙◌, sym, codes}
use Rattle.clap.proofs.WalkLemmas.{first_value-rows}
use Rattle.clap.specs.Words.{found_of}
use Rattle.rh_command_line.proofs.Matches.{pick_is}
use Rattle.rh_command_line.proofs.reading.pick_in.Goals as goal

pub returns : goal.returns
returns c =
    let word = c.get_str.ensures ∙ first_value-rows (found_of c.args.matches.now) (codes "pick") in
    pick_is _ _ (λ is. c.pick_of.ensures.last (word ∙ is)) (λ other. c.pick_of.ensures.first (λ is. other (sym word ∙ is)))
