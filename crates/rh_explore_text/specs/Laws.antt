-- What ties the lines of a search to what a search prints (ours).
use Rattle.std.specs.Prelude.{◌≡◌, ℕ, List, map, None}
use Rattle.rh_model.specs.ClusterView.{ClusterView}
use Rattle.rh_json.specs.RunJson.{Asked, asked_in}
use Rattle.rh_explore_text.specs.SearchLines.{search_lines_asked, bad_search_line, search_of}

-- where no line is bad, the commands that have lines are those of the base: so the answers that the lines tell are the first lines of
-- those that a search prints, one for each
abbrev pub SearchBaseIsAnswered : Type 0
SearchBaseIsAnswered =
    (c : ClusterView) (number : ℕ) (lines : List (List ℕ)) → bad_search_line (search_lines_asked c lines) ≡ None
    → map (λ (a : Asked). a.call) (asked_in c number lines) ≡ (search_of c (search_lines_asked c lines)).base
