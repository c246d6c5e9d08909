use Rattle.std.proofs.Common.{◌≡◌, List, ℕ, IfOk, map, subst, ap, ◌∙◌}
use Rattle.std.specs.Borrow.{Bor}
use Rattle.rh_script.specs.Commands.{words_of}
use Rattle.rh_script.specs.SweepLines.{sweep_command}
use Rattle.rh_script.specs.declared.sweep_lines.SweepLine.{SweepLine}
use Rattle.rh_script.proofs.FirstWords.{sweep_of_six}
use Rattle.rh_script.proofs.sweep_lines.sweep_command_in.Goals as goal

pub returns : goal.returns
returns c =
    let cluster = c.args.cluster.now in
    let same =
    ap (λ (words : List (Bor (List ℕ))). sweep_command cluster (map (λ (w : Bor (List ℕ)). w.now) words)) c.as_slice.ensures.value
    ∙ ap (sweep_command cluster) c.first_words.ensures
    ∙ sweep_of_six cluster (words_of c.args.line.now) in
    subst (λ (asks : SweepLine). IfOk c.sweep_command.result (λ asked. asked ≡ asks)) same c.sweep_command.ensures
