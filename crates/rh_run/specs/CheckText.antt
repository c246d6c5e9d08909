-- What a check writes for the bytes that it reads, and how it ends (ours).
use Rattle.std.specs.Prelude.{◌≡◌, ℕ, List, ◌++◌, codes, Option, Some, None, Result, Ok, Err}
use Rattle.std.specs.Fmt.{decimal}
use Rattle.rh_model.specs.ClusterView.{ClusterView, node_count, app_count}
use Rattle.rh_cluster.specs.ClusterOf.{cluster_of}
use Rattle.rh_cluster.specs.declared.fault.ClusterFault.{ClusterFault}
use Rattle.rh_run.specs.declared.fault.Told.{Told}
use Rattle.rh_run.specs.declared.fault.Told.TheVariants as told
use Rattle.rh_script.specs.Lines.{cluster_text}
use Rattle.rh_script.specs.Answers.{fault_text}

-- how many nodes and applications a cluster has
unfoldable pub count_text : ClusterView → List ℕ
count_text c = codes "ok " ++ decimal (node_count c) ++ codes " nodes " ++ decimal (app_count c) ++ codes " applications\n"

-- what is written for a cluster, or for the fault of a text that is none
abbrev pub checked_text : Result ClusterView ClusterFault → List ℕ
checked_text (Ok c) = count_text c
checked_text (Err f) = fault_text f

-- and the fault at the end, if there is one
abbrev pub checked_end : Result ClusterView ClusterFault → Option Told
checked_end (Ok c) = None
checked_end (Err f) = Some (told.Cluster f)

-- what is written for an input, whose script is ignored
unfoldable pub check_text : List ℕ → List ℕ
check_text bytes = checked_text (cluster_of (cluster_text bytes))

-- and the fault at the end, if there is one
unfoldable pub check_end : List ℕ → Option Told
check_end bytes = checked_end (cluster_of (cluster_text bytes))

-- what a check owes
abbrev pub OwesCheck : List ℕ → List ℕ → Option Told → Type 0
OwesCheck bytes text owed = (text ≡ check_text bytes) × (owed ≡ check_end bytes)
