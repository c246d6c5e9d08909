-- What a search on live nodes writes for the bytes that it reads, and how it ends (ours).
use Rattle.std.specs.Prelude.{◌≡◌, ℕ, min, List, [], ◌++◌, Bool, true, false, Option, Some, None, Result, Ok, Err}
use Rattle.rh_model.specs.ClusterView.{ClusterView}
use Rattle.rh_cluster.specs.ClusterOf.{cluster_of}
use Rattle.rh_cluster.specs.declared.fault.ClusterFault.{ClusterFault}
use Rattle.rh_calls.specs.declared.call.Call.{Call}
use Rattle.rh_script.specs.Lines.{cluster_text, script_lines}
use Rattle.rh_script.specs.Answers.{fault_text, bad_text}
use Rattle.rh_json_lines.specs.ClusterLines.{cluster_line, fault_line}
use Rattle.rh_json_lines.specs.AnswerLines.{bad_json}
use Rattle.rh_run.specs.declared.fault.Told.{Told}
use Rattle.rh_run.specs.declared.fault.Told.TheVariants as told
use Rattle.rh_otp_file.specs.Files.{own_files}
use Rattle.rh_otp_net.specs.declared.order.Order.{Order}
use Rattle.rh_otp_run.specs.Laws.{answers_text}
use Rattle.rh_otp_sim.specs.Laws.{behind}
use Rattle.rh_otp_sim.specs.Sim.{LiveSimView, opened}
use Rattle.rh_explore_text.specs.SearchLines.{SearchView, search_lines_asked, bad_search_line, search_of}
use Rattle.rh_otp_explore.specs.declared.search.TheConstants.{MOST_EVENTS}
use Rattle.rh_otp_explore.specs.Searching.{LiveExploredView, IsLiveAnswer}
use Rattle.rh_otp_explore_text.specs.Bases.{base_json}
use Rattle.rh_otp_explore_text.specs.FoundText.{found_text, found_end}
use Rattle.rh_otp_explore_text.specs.FoundLines.{found_json}

-- ---- as text, or as lines of JSON

-- before anything else the cluster, as JSON
abbrev pub cluster_told : Bool → ClusterView → List ℕ
cluster_told true c = cluster_line c
cluster_told false c = []

abbrev pub fault_told : Bool → ClusterFault → List ℕ
fault_told true f = fault_line f
fault_told false f = fault_text f

abbrev pub bad_told : Bool → ℕ → List ℕ
bad_told true k = bad_json k
bad_told false k = bad_text k

-- the answers to the commands of the base, which has these lines
abbrev pub base_told : Bool → LiveSimView → List (List ℕ) → List Call → List ℕ
base_told true sim lines calls = base_json sim lines
base_told false sim lines calls = answers_text sim calls

abbrev pub found_told : Bool → ClusterView → ℕ → ℕ → LiveExploredView → List ℕ
found_told true c down steps x = found_json c down steps x
found_told false c down steps x = found_text c down steps x

-- ---- what a search finds

-- what one finds that begins at these live nodes, of so many lists at most, each of at most 255 events
abbrev pub IsFound : ℕ → LiveSimView → SearchView → LiveExploredView → Type 0
IsFound lists base q x = IsLiveAnswer (record { moves = q.moves; down = q.down }) base (min q.steps MOST_EVENTS) lists q.asks x

-- it may find something of which this text is told behind another, and with which it ends so
abbrev pub MayFind : Bool → ℕ → LiveSimView → SearchView → List ℕ → List ℕ → Option Told → Type 0
MayFind json lists base q before text owed =
    (x : LiveExploredView) × IsFound lists base q x × (text ≡ before ++ found_told json base.cluster q.down q.steps x)
    × (owed ≡ found_end q.steps x)

-- ---- the whole

-- the answers to the base's commands, as in a run, and then what was found behind them
abbrev pub MayTellSearch : Bool → ℕ → LiveSimView → List (List ℕ) → SearchView → List ℕ → Option Told → Type 0
MayTellSearch json lists sim lines q text owed =
    MayFind json lists (behind q.base sim) q (cluster_told json sim.cluster ++ base_told json sim lines q.base) text owed

-- a bad line is told alone, as JSON behind the cluster
abbrev pub MayTellLines : Bool → ℕ → LiveSimView → List (List ℕ) → Option ℕ → List ℕ → Option Told → Type 0
MayTellLines json lists sim lines (Some k) text owed =
    (text ≡ cluster_told json sim.cluster ++ bad_told json k) × (owed ≡ Some (told.BadLine k))
MayTellLines json lists sim lines None text owed =
    MayTellSearch json lists sim lines (search_of sim.cluster (search_lines_asked sim.cluster lines)) text owed

-- for a cluster of this text and a script, or for the fault of a text that is no cluster
abbrev pub MayExploreOver : Order → ℕ → Bool → List ℕ → List (List ℕ) → Result ClusterView ClusterFault → List ℕ → Option Told → Type 0
MayExploreOver order lists json file lines (Ok c) text owed =
    MayTellLines json lists (opened c (own_files c file) order) lines (bad_search_line (search_lines_asked c lines)) text owed
MayExploreOver order lists json file lines (Err f) text owed = (text ≡ fault_told json f) × (owed ≡ Some (told.Cluster f))

-- for these bytes, where messages are taken in this order, this text may be written, which tells this fault at its end, or none
unfoldable pub MayExploreLive : Order → ℕ → Bool → List ℕ → List ℕ → Option Told → Type 0
MayExploreLive order lists json bytes text owed =
    MayExploreOver order lists json (cluster_text bytes) (script_lines bytes) (cluster_of (cluster_text bytes)) text owed

-- what a search on live nodes owes
abbrev pub OwesLiveExplore : Order → ℕ → Bool → List ℕ → List ℕ → Option Told → Type 0
OwesLiveExplore order lists json bytes text owed = MayExploreLive order lists json bytes text owed
