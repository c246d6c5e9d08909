-- What a search found, as text (ours).
use Rattle.std.specs.Prelude.{◌≡◌, ℕ, List, [], ◌∷◌, ◌++◌, length, fold, Bool, true, false, nat_lt, if◌then◌else◌, codes, Option, Some, None}
use Rattle.std.specs.List.{flat_map, list_any}
use Rattle.std.specs.Fmt.{decimal}
use Rattle.rh_model.specs.ClusterView.{ClusterView, node_count}
use Rattle.rh_state.specs.StateView.{StateView}
use Rattle.rh_rules.specs.declared.event.Event.{Event}
use Rattle.rh_rules.specs.declared.pick.Pick.{Pick}
use Rattle.rh_rules.specs.Refusals.{refused}
use Rattle.rh_step.specs.Runs.{step}
use Rattle.rh_calls.specs.Report.{report_text}
use Rattle.rh_calls.specs.declared.call.Call.TheVariants as call
use Rattle.rh_script.specs.CommandWords.{command_words}
use Rattle.rh_run.specs.declared.fault.Told.{Told}
use Rattle.rh_run.specs.declared.fault.Told.TheVariants as told
use Rattle.rh_explore.specs.declared.answers.Explored.{Explored}
use Rattle.rh_explore.specs.declared.answers.Verdict.{Verdict}
use Rattle.rh_explore.specs.declared.answers.Verdict.TheVariants.{Holds, Fails}
use Rattle.rh_explore.specs.declared.bounds.Covered.{Covered}
use Rattle.rh_explore.specs.declared.bounds.Covered.TheVariants as covered

-- ---- the first line

-- the lists of events of which all were looked at, unless they are all
abbrev pub steps_words : Covered → List ℕ
steps_words covered.All = []
steps_words (covered.UpTo n) = codes " up to " ++ decimal n ++ codes " steps"

-- how many nodes are not up at most, unless all may be
abbrev pub down_words : ClusterView → ℕ → List ℕ
down_words c down = if nat_lt down (node_count c) then codes " up to " ++ decimal down ++ codes " down" else []

unfoldable pub head_line : ClusterView → ℕ → Explored → List ℕ
head_line c down x = codes "explored " ++ decimal x.states ++ codes " states deepest " ++ decimal x.deepest ++ steps_words x.covered ++ down_words c down
    ++ codes "\n"

-- ---- the verdicts

-- an event as the command that asks it
unfoldable pub event_line : ClusterView → Event → List ℕ
event_line c e = command_words c (call.Step e) ++ codes "\n"

-- these events lead from the base to a state in which what is asked doesn't hold: each as a command, and the report of that state
abbrev pub fails_text : ClusterView → Pick → StateView → List Event → List ℕ
fails_text c pick base es =
    codes "fails in " ++ decimal (length es) ++ codes "\n" ++ flat_map (event_line c) es ++ report_text (fold (step pick) base es)

abbrev pub verdict_text : ClusterView → Pick → StateView → Verdict → List ℕ
verdict_text c pick base Holds = codes "holds\n"
verdict_text c pick base (Fails es) = fails_text c pick base es.items

-- ---- the whole

-- the search ended before all lists of at most so many events were looked at
abbrev pub is_unfinished : ℕ → Covered → Bool
is_unfinished steps covered.All = false
is_unfinished steps (covered.UpTo n) = nat_lt n steps

abbrev pub last_line : ℕ → Covered → List ℕ
last_line steps covered = if is_unfinished steps covered then codes "unfinished\n" else []

-- within these bounds
abbrev pub found_text : ClusterView → Pick → StateView → ℕ → ℕ → Explored → List ℕ
found_text c pick base down steps x =
    head_line c down x ++ flat_map (verdict_text c pick base) x.verdicts.items ++ last_line steps x.covered

abbrev pub is_failure : Verdict → Bool
is_failure Holds = false
is_failure (Fails es) = true

-- the fault that this tells: something that is asked fails, or else it can't be said of all lists of at most so many events
abbrev pub found_end : ℕ → Explored → Option Told
found_end steps x =
    if list_any is_failure x.verdicts.items then Some told.Differs
    else if is_unfinished steps x.covered then Some told.Unfinished
    else None

-- ---- what a verdict is told of

-- none of these events is refused where it comes
abbrev pub AllAccepted : Pick → StateView → List Event → Type 0
AllAccepted pick s [] = Unit {0}
AllAccepted pick s (e ∷ es) = (refused s e ≡ None) × AllAccepted pick (step pick s e) es

abbrev pub CanCome : Pick → StateView → Verdict → Type 0
CanCome pick s Holds = Unit {0}
CanCome pick s (Fails es) = AllAccepted pick s es.items
