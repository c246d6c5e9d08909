-- What holds of the cluster of every text (ours).
use Rattle.std.specs.Prelude.{◌≡◌, ℕ, List, Ok}
use Rattle.rh_model.specs.ClusterView.{ClusterView, IsWithin}
use Rattle.rh_base.specs.Tree.{Trees, list_of_trees}
use Rattle.rh_cluster.specs.ClusterOf.{cluster_of, cluster_of_terms}
use Rattle.rh_cluster.specs.Kept.{kept_terms}

-- its lists fit together, and each number in them is one of the cluster's
abbrev pub ClustersAreWithin : Type 0
ClustersAreWithin = (bytes : List ℕ) (c : ClusterView) → cluster_of bytes ≡ Ok c → IsWithin c

-- what is skipped tells nothing: the cluster of a file's terms, or their first fault, is that of what is kept of them
abbrev pub SkippedTellsNothing : Type 0
SkippedTellsNothing = (ts : Trees) → cluster_of_terms (list_of_trees (kept_terms ts)) ≡ cluster_of_terms (list_of_trees ts)
