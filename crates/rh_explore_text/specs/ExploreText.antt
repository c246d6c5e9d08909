-- What a search writes for the bytes that it reads, and how it ends (ours).
use Rattle.std.specs.Prelude.{◌≡◌, ℕ, List, ◌++◌, map, Option, Some, None, Result, Ok, Err}
use Rattle.rh_model.specs.ClusterView.{ClusterView}
use Rattle.rh_cluster.specs.ClusterOf.{cluster_of}
use Rattle.rh_cluster.specs.declared.fault.ClusterFault.{ClusterFault}
use Rattle.rh_state.specs.StateView.{StateView}
use Rattle.rh_rules.specs.declared.pick.Pick.{Pick}
use Rattle.rh_trail.specs.SimView.{SimView, state_of}
use Rattle.rh_trail.specs.Lone.{opened, sim_after}
use Rattle.rh_script.specs.Lines.{cluster_text, script_lines}
use Rattle.rh_script.specs.Answers.{fault_text, bad_text}
use Rattle.rh_asked.specs.declared.manner.SearchRoom.{SearchRoom}
use Rattle.rh_run.specs.declared.fault.Told.{Told}
use Rattle.rh_run.specs.declared.fault.Told.TheVariants as told
use Rattle.rh_run.specs.RunText.{answers_text}
use Rattle.rh_explore.specs.declared.answers.Explored.{Explored}
use Rattle.rh_explore.specs.declared.asking.Ask.{Ask}
use Rattle.rh_explore.specs.Reaching.{Scope}
use Rattle.rh_explore.specs.Exploring.{IsAnswer}
use Rattle.rh_explore_text.specs.declared.lines.SearchLine.{SearchLine}
use Rattle.rh_explore_text.specs.Asks.{ask_view}
use Rattle.rh_explore_text.specs.SearchLines.{SearchView, search_lines_asked, bad_search_line, search_of}
use Rattle.rh_explore_text.specs.FoundText.{found_text, found_end}

-- ---- what a search finds

-- what a search answers in so much room
abbrev pub IsFound : Scope → ℕ → SearchRoom → List Ask → Explored → Type 0
IsFound w steps room asks x =
    IsAnswer w (record { down = w.down; steps = steps; states = room.states; mebibytes = room.mebibytes }) asks x

-- the simulation behind the commands of the base, and the scope of the search from there
abbrev pub base_of : ClusterView → Pick → SearchView → SimView
base_of c pick q = sim_after (opened c pick) q.base

abbrev pub scope_from : StateView → Pick → SearchView → Scope
scope_from s pick q = record { base = s; pick = pick; moves = q.moves; down = q.down }

abbrev pub scope_in : ClusterView → Pick → SearchView → Scope
scope_in c pick q = scope_from (state_of (base_of c pick q)) pick q

-- a search may find something of which this text is told in this way, and with which it ends so
abbrev pub MayFind : ClusterView → Pick → SearchRoom → SearchView → (Explored → List ℕ) → List ℕ → Option Told → Type 0
MayFind c pick room q told_of text owed =
    (asks : List Ask) × (x : Explored) × (map ask_view asks ≡ q.asks) × IsFound (scope_in c pick q) q.steps room asks x
    × (text ≡ told_of x) × (owed ≡ found_end q.steps x)

-- ---- the text

-- the answers to the base's commands, as in a run, and then what was found
abbrev pub explored_text : ClusterView → Pick → SearchView → Explored → List ℕ
explored_text c pick q x =
    answers_text c (opened c pick) q.base ++ found_text c pick (state_of (base_of c pick q)) q.down q.steps x

-- a bad line alone is told
abbrev pub MayTellLines : ClusterView → Pick → SearchRoom → List SearchLine → Option ℕ → List ℕ → Option Told → Type 0
MayTellLines c pick room lines (Some k) text owed = (text ≡ bad_text k) × (owed ≡ Some (told.BadLine k))
MayTellLines c pick room lines None text owed =
    MayFind c pick room (search_of c lines) (explored_text c pick (search_of c lines)) text owed

-- for a cluster and a script, or for the fault of a text that is no cluster
abbrev pub MayExploreOver : Pick → SearchRoom → List (List ℕ) → Result ClusterView ClusterFault → List ℕ → Option Told → Type 0
MayExploreOver pick room lines (Ok c) text owed =
    MayTellLines c pick room (search_lines_asked c lines) (bad_search_line (search_lines_asked c lines)) text owed
MayExploreOver pick room lines (Err f) text owed = (text ≡ fault_text f) × (owed ≡ Some (told.Cluster f))

-- for these bytes, in so much room, this text may be written, which tells this fault at its end, or none
unfoldable pub MayExplore : Pick → SearchRoom → List ℕ → List ℕ → Option Told → Type 0
MayExplore pick room bytes text owed = MayExploreOver pick room (script_lines bytes) (cluster_of (cluster_text bytes)) text owed

-- what a search owes
abbrev pub OwesExplore : Pick → SearchRoom → List ℕ → List ℕ → Option Told → Type 0
OwesExplore pick room bytes text owed = MayExplore pick room bytes text owed
