-- What is known of an input before anything is written of it as JSON (ours).
use Rattle.std.specs.Prelude.{◌≡◌, ℕ, List, ◌++◌, Option, Some, Ok, All}
use Rattle.rh_cluster.specs.ClusterOf.{cluster_of}
use Rattle.rh_rules.specs.declared.pick.Pick.{Pick}
use Rattle.rh_trail.specs.SimView.{state_of}
use Rattle.rh_script.specs.Lines.{cluster_text, script_lines}
use Rattle.rh_run.specs.declared.fault.Told.{Told}
use Rattle.rh_run.specs.declared.fault.Told.TheVariants as told
use Rattle.rh_json_lines.specs.AnswerLines.{bad_json}
use Rattle.rh_json.specs.CheckJson.{check_json}
use Rattle.rh_json.specs.SweepJson.{base_json}
use Rattle.rh_explore_text.specs.declared.searching.Searched.{Searched}
use Rattle.rh_explore_text.specs.declared.searching.Finding.{Finding}
use Rattle.rh_explore_text.specs.declared.searching.Finding.TheVariants as finding
use Rattle.rh_explore_text.specs.FoundText.{CanCome, found_end}
use Rattle.rh_explore_text.specs.FoundLines.{found_json}

-- the lines of a search that was made
abbrev pub searched_json : Searched → Pick → List ℕ
searched_json it pick = found_json it.sim.seen.cluster pick (state_of it.sim.seen) it.search.down it.search.steps it.found

-- the lines that tell it of these bytes
abbrev pub finding_json : Pick → List ℕ → Finding → List ℕ
finding_json pick bytes (finding.NoCluster f) = check_json bytes
finding_json pick bytes (finding.BadLine k) = check_json bytes ++ bad_json k
finding_json pick bytes (finding.Search it) = base_json it.sim.seen.cluster pick (script_lines bytes) ++ searched_json it pick

-- the fault that they tell at their end
abbrev pub finding_end : Finding → Option Told
finding_end (finding.NoCluster f) = Some (told.Cluster f)
finding_end (finding.BadLine k) = Some (told.BadLine k)
finding_end (finding.Search it) = found_end it.search.steps it.found

-- a search was made in the cluster of these bytes, and the events of its verdicts can come behind its base
abbrev pub IsOf : Searched → Pick → List ℕ → Type 0
IsOf it pick bytes = (cluster_of (cluster_text bytes) ≡ Ok it.sim.seen.cluster) × All (CanCome pick (state_of it.sim.seen)) it.found.verdicts.items

-- so of a finding, where a search was made
abbrev pub CanBeTold : Pick → List ℕ → Finding → Type 0
CanBeTold pick bytes (finding.NoCluster f) = Unit {0}
CanBeTold pick bytes (finding.BadLine k) = Unit {0}
CanBeTold pick bytes (finding.Search it) = IsOf it pick bytes
