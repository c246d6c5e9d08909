-- What ties the lines of a sweep to what a sweep prints (ours).
use Rattle.std.specs.Prelude.{◌≡◌, ℕ, List, map, None}
use Rattle.rh_model.specs.ClusterView.{ClusterView}
use Rattle.rh_script.specs.Commands.{calls_of}
use Rattle.rh_script.specs.SweepLines.{sweep_lines_asked, bad_sweep_line, base_lines}
use Rattle.rh_json.specs.RunJson.{Asked, asked_in}

-- where no line is bad, the commands that have lines are those of the base: so the answers that the lines tell are the first lines of
-- those that a sweep prints, one for each
abbrev pub BaseIsAnswered : Type 0
BaseIsAnswered =
    (c : ClusterView) (number : ℕ) (lines : List (List ℕ)) → bad_sweep_line (sweep_lines_asked c lines) ≡ None
    → map (λ (a : Asked). a.call) (asked_in c number lines) ≡ calls_of (base_lines (sweep_lines_asked c lines))
