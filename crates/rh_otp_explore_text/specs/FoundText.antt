-- What a search on live nodes found, as text (ours; in the words of a search by the manual's rules).
use Rattle.std.specs.Prelude.{ℕ, List, [], ◌++◌, length, Bool, ◌&&◌, is_none, if◌then◌else◌, codes, Option, Some, None}
use Rattle.std.specs.List.{flat_map, list_any, list_all}
use Rattle.std.specs.Fmt.{decimal}
use Rattle.rh_model.specs.ClusterView.{ClusterView}
use Rattle.rh_run.specs.declared.fault.Told.{Told}
use Rattle.rh_run.specs.declared.fault.Told.TheVariants as told
use Rattle.rh_explore_text.specs.FoundText.{steps_words, down_words, event_line, is_unfinished}
use Rattle.rh_otp_explore.specs.Searching.{LiveExploredView}
use Rattle.rh_otp_explore.specs.Tallying.{AskedView, FailureView}
use Rattle.rh_otp_text.specs.ReportText.{report_text}

-- how many lists were tried, and within which bounds
unfoldable pub head_line : ClusterView → ℕ → LiveExploredView → List ℕ
head_line c down x = codes "explored " ++ decimal x.lists ++ codes " lists" ++ steps_words x.covered ++ down_words c down ++ codes "\n"

-- behind these events what is asked doesn't hold: each as a command, and the report of the live nodes behind them
abbrev pub fails_text : ClusterView → FailureView → List ℕ
fails_text c f = codes "fails in " ++ decimal (length f.events) ++ codes "\n" ++ flat_map (event_line c) f.events ++ report_text c f.report

abbrev pub first_text : ClusterView → Option FailureView → List ℕ
first_text c None = codes "holds\n"
first_text c (Some f) = fails_text c f

abbrev pub asked_text : ClusterView → AskedView → List ℕ
asked_text c q = first_text c q.first

-- it held behind all lists that were tried
abbrev pub is_held : AskedView → Bool
is_held q = is_none q.first

-- an ask is left of which it can't be said whether it holds behind all lists of at most so many events
abbrev pub is_left : ℕ → LiveExploredView → Bool
is_left steps x = is_unfinished steps x.covered && list_any is_held x.asked

abbrev pub last_line : ℕ → LiveExploredView → List ℕ
last_line steps x = if is_left steps x then codes "unfinished\n" else []

-- within these bounds
abbrev pub found_text : ClusterView → ℕ → ℕ → LiveExploredView → List ℕ
found_text c down steps x = head_line c down x ++ flat_map (asked_text c) x.asked ++ last_line steps x

-- the fault that this tells: something that is asked fails, or else an ask is left
abbrev pub found_end : ℕ → LiveExploredView → Option Told
found_end steps x =
    if list_all is_held x.asked then (if is_left steps x then Some told.Unfinished else None) else Some told.Differs
