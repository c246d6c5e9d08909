-- The commands that have lines.
use Rattle.std.proofs.Common.{◌≡◌, ◌+◌, ℕ, List, [], ◌∷◌, map, refl, ap}
use Rattle.rh_model.specs.ClusterView.{ClusterView}
use Rattle.rh_calls.specs.declared.call.Call.{Call}
use Rattle.rh_script.specs.declared.script.Line.{Line}
use Rattle.rh_script.specs.declared.script.Line.TheVariants.{Nothing, Asks, Bad}
use Rattle.rh_script.specs.Commands.{line_of, calls_of}
use Rattle.rh_run.specs.RunText.{lines_asked}
use Rattle.rh_json.specs.RunJson.{Asked, asked_in, before}
use Rattle.rh_json.specs.Laws.{CommandsAreAnswered}

one_line : (number : ℕ) (line : List ℕ) (asked : Line) (others : List Asked) (lines : List Line)
    → map (λ (a : Asked). a.call) others ≡ calls_of lines → map (λ (a : Asked). a.call) (before number line asked others) ≡ calls_of (asked ∷ lines)
one_line number line Nothing others lines same = same
one_line number line (Asks call) others lines same = ap (λ (calls : List Call). call ∷ calls) same
one_line number line Bad others lines same = refl

pub commands_are_answered : CommandsAreAnswered
commands_are_answered c number [] = refl
commands_are_answered c number (line ∷ lines) =
    one_line number line (line_of c line) (asked_in c (number + 1) lines) (lines_asked c lines) (commands_are_answered c (number + 1) lines)
