-- Faults in the order in which they are met; the first counts (ours).
use Rattle.std.specs.Prelude.{◌≡◌, ◌≢◌, List, [], ◌∷◌, ◌++◌, Bool, true, false}
use Rattle.std.specs.Prelude.{Option, Some, None, Result, Ok, Err}
use Rattle.rh_base.specs.Tree.{Tree}
use Rattle.rh_terms.specs.declared.fault.TermFault.TheVariants as terms
use Rattle.rh_cluster.specs.declared.fault.ClusterFault.{ClusterFault}
use Rattle.rh_cluster.specs.declared.fault.ClusterFault.TheVariants as fault
use Rattle.rh_cluster.specs.Shapes.{as_list}

-- this fault, where the test applies
abbrev pub when : Bool → ClusterFault → List ClusterFault
when true f = f ∷ []
when false f = []

-- the faults of each term in turn, which may depend on the earlier terms
abbrev pub in_turn : (List Tree → Tree → List ClusterFault) → List Tree → List Tree → List ClusterFault
in_turn faults earlier [] = []
in_turn faults earlier (t ∷ ts) = faults earlier t ++ in_turn faults (earlier ++ t ∷ []) ts

-- the faults of a list: those of its elements in turn, or that it is none
abbrev pub in_turn_if_list : (List Tree → Tree → List ClusterFault) → Option (List Tree) → List ClusterFault
in_turn_if_list faults None = fault.BadValue ∷ []
in_turn_if_list faults (Some ts) = in_turn faults [] ts

unfoldable pub list_faults : (List Tree → Tree → List ClusterFault) → Tree → List ClusterFault
list_faults faults t = in_turn_if_list faults (as_list t)

-- the first fault, if there is one, else the value
abbrev pub unless : {A : Type 0} → List ClusterFault → A → Result A ClusterFault
unless [] x = Ok x
unless (f ∷ fs) x = Err f

-- the first fault, if there is one
abbrev pub first : List ClusterFault → Option ClusterFault
first [] = None
first (f ∷ fs) = Some f

-- What a test that takes no memory returned is the first of these faults.
abbrev pub FindsFirst : {X : Type 0} → Result X ClusterFault → List ClusterFault → Type 0
FindsFirst (Ok x) faults = faults ≡ []
FindsFirst (Err f) faults = first faults ≡ Some f

-- What a test returned is the first of these faults, unless memory ran out.
abbrev pub Finds : {X : Type 0} → Result X ClusterFault → List ClusterFault → Type 0
Finds (Ok x) faults = faults ≡ []
Finds (Err f) faults = f ≢ fault.OutOfMemory → first faults ≡ Some f

-- Want of memory is told only where there is none of these faults.
abbrev pub WantsLast : {X : Type 0} → Result X ClusterFault → List ClusterFault → Type 0
WantsLast (Ok x) faults = Unit {0}
WantsLast (Err f) faults = f ≡ fault.OutOfMemory → faults ≡ []

-- What a reader returned, seen by view, is this, unless memory ran out.
abbrev pub Gives : {X Y : Type 0} → (X → Y) → Result X ClusterFault → Result Y ClusterFault → Type 0
Gives view (Ok x) read = read ≡ Ok (view x)
Gives view (Err f) read = f ≢ fault.OutOfMemory → f ≢ fault.Term terms.OutOfMemory → read ≡ Err f
