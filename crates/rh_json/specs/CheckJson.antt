-- What a check writes as JSON for the bytes that it reads, and how it ends (ours).
use Rattle.std.specs.Prelude.{◌≡◌, ℕ, List, Option, Result, Ok, Err}
use Rattle.rh_model.specs.ClusterView.{ClusterView}
use Rattle.rh_cluster.specs.ClusterOf.{cluster_of}
use Rattle.rh_cluster.specs.declared.fault.ClusterFault.{ClusterFault}
use Rattle.rh_script.specs.Lines.{cluster_text}
use Rattle.rh_run.specs.declared.fault.Told.{Told}
use Rattle.rh_run.specs.CheckText.{check_end}
use Rattle.rh_json_lines.specs.ClusterLines.{cluster_line, fault_line}

-- the line for a cluster, or for the fault of a text that is none
abbrev pub checked_json : Result ClusterView ClusterFault → List ℕ
checked_json (Ok c) = cluster_line c
checked_json (Err f) = fault_line f

-- what is written for an input, whose script is ignored
unfoldable pub check_json : List ℕ → List ℕ
check_json bytes = checked_json (cluster_of (cluster_text bytes))

-- what a check owes: how it ends is how one ends that writes lines
abbrev pub OwesCheckJson : List ℕ → List ℕ → Option Told → Type 0
OwesCheckJson bytes text owed = (text ≡ check_json bytes) × (owed ≡ check_end bytes)
