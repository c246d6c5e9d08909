use Rattle.std.proofs.Common.{List, ℕ, map, ap, ◌∙◌}
use Rattle.std.specs.Borrow.{Bor}
use Rattle.rh_script.specs.Commands.{words_of, command_of}
use Rattle.rh_script.proofs.FirstWords.{command_of_six}
use Rattle.rh_script.proofs.script.command_in.Goals as goal

pub returns : goal.returns
returns c =
    let cluster = c.args.cluster.now in
    c.command_of.ensures
    ∙ ap (λ (words : List (Bor (List ℕ))). command_of cluster (map (λ (w : Bor (List ℕ)). w.now) words)) c.as_slice.ensures.value
    ∙ ap (command_of cluster) c.first_words.ensures
    ∙ command_of_six cluster (words_of c.args.line.now)
