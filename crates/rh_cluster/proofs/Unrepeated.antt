-- What follows from the faults of the name of a value, and where it has none.
use Rattle.std.proofs.Common.{◌≡◌, ◌≢◌, [], ◌++◌, not, ℕ, List, Bool, true, false, Some, refl}
use Rattle.rh_cluster.specs.declared.fault.ClusterFault.TheVariants as fault
use Rattle.rh_cluster.specs.Faults.{first, when}
use Rattle.rh_cluster.specs.NameRule.{is_name}
use Rattle.rh_cluster.specs.Sections.{word_faults}
use Rattle.rh_base.proofs.Elements.{append-cons_not_empty}

pub not_repeated : (name : List ℕ) (known repeated : Bool) → word_faults name known repeated ≡ [] → repeated ≡ false
unfolding word_faults
not_repeated name known false h = refl
not_repeated name known true h = append-cons_not_empty _ _ h

not_memory : (named known repeated : Bool)
    → first (when (not named) fault.BadName ++ when (not known) fault.UnknownName ++ when repeated fault.DuplicateInList) ≢ Some fault.OutOfMemory
not_memory false known repeated h = cc
not_memory true false repeated h = cc
not_memory true true true h = cc
not_memory true true false h = cc

pub word_not_memory : (name : List ℕ) (known repeated : Bool) → first (word_faults name known repeated) ≢ Some fault.OutOfMemory
unfolding word_faults
word_not_memory name known repeated h = not_memory (is_name name) known repeated h
