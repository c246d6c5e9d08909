use Rattle.std.proofs.Common.{List, ℕ, map, ap, ◌∙◌}
use Rattle.std.specs.Borrow.{Bor}
use Rattle.rh_script.specs.Commands.{words_of}
use Rattle.rh_script.proofs.FirstWords.{session_of_six}
use Rattle.rh_script.specs.SessionLines.{session_command}
use Rattle.rh_script.proofs.session_lines.session_command_in.Goals as goal

pub returns : goal.returns
returns c =
    let cluster = c.args.cluster.now in
    c.session_command.ensures
    ∙ ap (λ (words : List (Bor (List ℕ))). session_command cluster (map (λ (w : Bor (List ℕ)). w.now) words)) c.as_slice.ensures.value
    ∙ ap (session_command cluster) c.first_words.ensures
    ∙ session_of_six cluster (words_of c.args.line.now)
