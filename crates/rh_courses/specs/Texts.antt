-- The line of a course (ours).
use Rattle.std.specs.Prelude.{ℕ, ◌==◌, List, [], ◌∷◌, ◌++◌, codes, Option, Some, None, if◌then◌else◌}
use Rattle.std.specs.List.{flat_map}
use Rattle.std.specs.Fmt.{decimal}
use Rattle.rh_model.specs.ClusterView.{ClusterView}
use Rattle.rh_model.specs.declared.node.Node.{Node}
use Rattle.rh_calls.specs.Report.{node_word, app_word, no_name}
use Rattle.rh_courses.specs.declared.course.Stay.{Stay}
use Rattle.rh_courses.specs.Courses.{CourseView, runs, away, pieces}

-- where a run was
abbrev pub place_words : ClusterView → Option Node → List ℕ
place_words c (Some n) = node_word c n
place_words c None = no_name

-- when it ended
abbrev pub end_words : Option ℕ → List ℕ
end_words (Some time) = decimal time
end_words None = codes "now"

-- a run, as "at cp1@cave 0 to 6000", or "to now" if it lasts
unfoldable pub run_words : ClusterView → Stay → List ℕ
run_words c st = codes "at " ++ place_words c st.place ++ codes " " ++ decimal st.start ++ codes " to " ++ end_words st.end

-- all of them
unfoldable pub runs_words : ClusterView → List Stay → List ℕ
runs_words c [] = codes " never ran"
runs_words c (st ∷ sts) = codes " ran " ++ run_words c st ++ flat_map (λ (later : Stay). codes ", " ++ run_words c later) sts

-- for how long it ran nowhere
unfoldable pub away_words : ℕ → List ℕ
away_words length = codes "; nowhere for " ++ decimal length ++ codes " ms"

-- in how many pieces
abbrev pub piece_words : ℕ → List ℕ
piece_words count = if count == 1 then codes "piece" else codes "pieces"

unfoldable pub pieces_words : ℕ → List ℕ
pieces_words count = codes " in " ++ decimal count ++ codes " " ++ piece_words count

abbrev pub gap_words : ℕ → ℕ → List ℕ
gap_words length count = away_words length ++ pieces_words count

-- nothing where there is no gap
abbrev pub gaps_words : ℕ → ℕ → List ℕ
gaps_words length count = if count == 0 then [] else gap_words length count

-- as "myapp ran at cp1@cave 0 to 6000, at cp2@cave 8000 to now; nowhere for 2000 ms in 1 piece"; without an end of line
abbrev pub course_text : ClusterView → CourseView → List ℕ
course_text cluster c = app_word cluster c.app ++ runs_words cluster (runs c) ++ gaps_words (away c) (pieces c)
