-- The `distributed` that most files give to all their nodes, and what is left to test where it has passed.
use Rattle.std.specs.Prelude.{◌≡◌, ℕ, List, [], map, take, Bool, true, false, ◌&&◌, Option, Some, None, All, if◌then◌else◌}
use Rattle.rh_base.specs.declared.term.Term.{Term}
use Rattle.rh_base.specs.Tree.{Tree, tree_of}
use Rattle.rh_model.specs.Names.{NamesView}
use Rattle.rh_cluster.specs.declared.fault.ClusterFault.{ClusterFault}
use Rattle.rh_cluster.specs.declared.kernel.KernelKey.{KernelKey}
use Rattle.rh_cluster.specs.declared.kernel.KernelKey.TheVariants.{Distributed}
use Rattle.rh_cluster.specs.declared.sections.SectionKey.{SectionKey}
use Rattle.rh_cluster.specs.declared.sections.SectionKey.TheVariants.{Kernel}
use Rattle.rh_cluster.specs.Sections.{kernel_key, kernel_faults, section_faults, entries_faults}
use Rattle.rh_cluster.specs.Values.{distributed_of, first_filled}

-- ---- the same value

-- a value is the common one, if there is a value
abbrev pub IsNoOther : Option Tree → Option Tree → Type 0
IsNoOther common None = Unit {0}
IsNoOther common (Some v) = common ≡ Some v

-- two values are the same, if there are two
abbrev pub NeverDiffer : Option Tree → Option Tree → Type 0
NeverDiffer (Some v) (Some w) = v ≡ w
NeverDiffer (Some v) None = Unit {0}
NeverDiffer None o = Unit {0}

-- the first n of these terms have no other `distributed` than the first one that has an entry
abbrev pub AreAlike : ℕ → List Term → Type 0
AreAlike n ts = All (λ t. IsNoOther (first_filled (map tree_of ts)) (distributed_of (tree_of t))) (take n ts)

-- ---- what is left to test

-- is it the key of `distributed`?
abbrev pub is_distributed : Option KernelKey → Bool
is_distributed (Some Distributed) = true
is_distributed o = false

-- the value of a kernel parameter, where `distributed` may have passed
unfoldable pub kernel_faults_left : Bool → NamesView → Option KernelKey → Tree → List ClusterFault
kernel_faults_left has_passed names key v = if is_distributed key && has_passed then [] else kernel_faults names key v

-- the list of a section, where `distributed` may have passed
unfoldable pub section_faults_left : Bool → NamesView → Option SectionKey → Tree → List ClusterFault
section_faults_left has_passed names (Some Kernel) v = entries_faults kernel_key (kernel_faults_left has_passed names) v
section_faults_left has_passed names key v = section_faults names key v
