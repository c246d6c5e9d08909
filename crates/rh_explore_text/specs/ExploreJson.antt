-- What a search writes as JSON for the bytes that it reads, and how it ends (ours). What it may find is what one finds that writes text.
use Rattle.std.specs.Prelude.{◌≡◌, ℕ, List, ◌++◌, Option, Some, None, Result, Ok, Err}
use Rattle.rh_model.specs.ClusterView.{ClusterView}
use Rattle.rh_cluster.specs.ClusterOf.{cluster_of}
use Rattle.rh_cluster.specs.declared.fault.ClusterFault.{ClusterFault}
use Rattle.rh_rules.specs.declared.pick.Pick.{Pick}
use Rattle.rh_trail.specs.SimView.{state_of}
use Rattle.rh_script.specs.Lines.{cluster_text, script_lines}
use Rattle.rh_asked.specs.declared.manner.SearchRoom.{SearchRoom}
use Rattle.rh_run.specs.declared.fault.Told.{Told}
use Rattle.rh_run.specs.declared.fault.Told.TheVariants as told
use Rattle.rh_explore.specs.declared.answers.Explored.{Explored}
use Rattle.rh_json_lines.specs.ClusterLines.{cluster_line, fault_line}
use Rattle.rh_json_lines.specs.AnswerLines.{bad_json}
use Rattle.rh_json.specs.SweepJson.{base_json}
use Rattle.rh_explore_text.specs.SearchLines.{SearchView, search_lines_asked, bad_search_line, search_of}
use Rattle.rh_explore_text.specs.FoundLines.{found_json}
use Rattle.rh_explore_text.specs.ExploreText.{MayFind, base_of}

-- the cluster and the answers to the base's commands, as a run tells them, and then what was found
abbrev pub explored_json : ClusterView → Pick → List (List ℕ) → SearchView → Explored → List ℕ
explored_json c pick lines q x = base_json c pick lines ++ found_json c pick (state_of (base_of c pick q)) q.down q.steps x

-- behind the cluster a bad line alone is told
abbrev pub MayTellJson : ClusterView → Pick → SearchRoom → List (List ℕ) → Option ℕ → List ℕ → Option Told → Type 0
MayTellJson c pick room lines (Some k) text owed = (text ≡ cluster_line c ++ bad_json k) × (owed ≡ Some (told.BadLine k))
MayTellJson c pick room lines None text owed =
    MayFind c pick room (search_of c (search_lines_asked c lines)) (explored_json c pick lines (search_of c (search_lines_asked c lines))) text owed

-- for a cluster and a script, or for the fault of a text that is no cluster
abbrev pub MayExploreJsonOver : Pick → SearchRoom → List (List ℕ) → Result ClusterView ClusterFault → List ℕ → Option Told → Type 0
MayExploreJsonOver pick room lines (Ok c) text owed = MayTellJson c pick room lines (bad_search_line (search_lines_asked c lines)) text owed
MayExploreJsonOver pick room lines (Err f) text owed = (text ≡ fault_line f) × (owed ≡ Some (told.Cluster f))

-- for these bytes, in so much room, these lines may be written, which tell this fault at their end, or none
unfoldable pub MayExploreJson : Pick → SearchRoom → List ℕ → List ℕ → Option Told → Type 0
MayExploreJson pick room bytes text owed = MayExploreJsonOver pick room (script_lines bytes) (cluster_of (cluster_text bytes)) text owed

-- what a search owes as JSON
abbrev pub OwesExploreJson : Pick → SearchRoom → List ℕ → List ℕ → Option Told → Type 0
OwesExploreJson pick room bytes text owed = MayExploreJson pick room bytes text owed
