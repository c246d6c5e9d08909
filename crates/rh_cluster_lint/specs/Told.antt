-- The fault of a refused file as it is told (ours).
use Rattle.std.specs.Prelude.{ℕ, List, Option, Some, None}
use Rattle.rh_cluster.specs.declared.fault.ClusterFault.{ClusterFault}
use Rattle.rh_cluster.specs.declared.fault.ClusterFault.TheVariants as fault
use Rattle.rh_findings.specs.declared.finding.Finding.{Finding}
use Rattle.rh_cluster_lint.specs.Blame.{blamed}
use Rattle.rh_cluster_lint.specs.Faults.{fault_finding}
use Rattle.rh_cluster_lint.specs.Sides.{with_sides}
use Rattle.rh_cluster_lint.specs.Telling.{hinted, placed}

-- with the parameter in which a node differs, or with the part that is at fault
abbrev pub told_at : List ℕ → ClusterFault → Finding → Finding
told_at text (fault.Mismatch node) f = with_sides text node f
told_at text fault f = placed text fault f (blamed text fault)

-- the fault itself, where it names its line; else with its place
abbrev pub told_in : List ℕ → ClusterFault → Finding → Option ℕ → Finding
told_in text fault f (Some line) = f
told_in text fault f None = told_at text fault f

unfoldable pub fault_in : List ℕ → ClusterFault → Finding
fault_in text fault = told_in text fault (hinted text fault (fault_finding fault)) (hinted text fault (fault_finding fault)).line
