-- How a fault of a cluster is shown: its code and its name, with what it names (ours).
use Rattle.std.specs.Prelude.{ℕ, List, ◌++◌, codes, Bool, true, false}
use Rattle.rh_cluster.specs.TermMemory.{is_term_memory}
use Rattle.rh_terms.specs.FaultTexts.{term_fault_text}
use Rattle.rh_cluster.specs.declared.fault.ClusterFault.{ClusterFault}
use Rattle.rh_cluster.specs.declared.fault.ClusterFault.TheVariants as fault

abbrev pub cluster_fault_text : ClusterFault → List ℕ
cluster_fault_text (fault.Term f) = codes "C1 " ++ term_fault_text f
cluster_fault_text fault.NoNodes = codes "C2 no_nodes"
cluster_fault_text fault.TooMany = codes "C3 too_many"
cluster_fault_text fault.DuplicateName = codes "C4 duplicate_name"
cluster_fault_text fault.UnknownName = codes "C5 unknown_name"
cluster_fault_text fault.DuplicateInList = codes "C6 duplicate_in_list"
cluster_fault_text fault.DuplicateParameter = codes "C7 duplicate_parameter"
cluster_fault_text (fault.Mismatch node) = codes "C8 mismatch " ++ node
cluster_fault_text fault.BootNotListed = codes "C9 boot_not_listed"
cluster_fault_text fault.BadValue = codes "C10 bad_value"
cluster_fault_text fault.BadName = codes "C11 bad_name"
cluster_fault_text fault.OutOfMemory = codes "C12 out_of_memory"

-- a growth was refused
abbrev pub is_memory : ClusterFault → Bool
is_memory fault.OutOfMemory = true
is_memory (fault.Term f) = is_term_memory f
is_memory f = false
