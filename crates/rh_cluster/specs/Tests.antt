-- What a test that is passed on finds (ours).
use Rattle.std.specs.Prelude.{◌≡◌, ℕ, List, map, Bool, Option, Result}
use Rattle.std.specs.Borrow.{Bor}
use Rattle.std.specs.Fn.{Shared}
use Rattle.rh_base.specs.declared.term.Term.{Term}
use Rattle.rh_base.specs.Tree.{Tree, tree_of}
use Rattle.rh_cluster.specs.declared.fault.ClusterFault.{ClusterFault}
use Rattle.rh_cluster.specs.Faults.{Finds, FindsFirst}

-- what a test returns
abbrev pub Found : Type 0
Found = Result (Unit {0}) ClusterFault

-- the test finds the first of the faults that a term has behind earlier ones, unless memory runs out
abbrev pub FindsOfEach : {F : Type 0} → Shared F (Bor (List Term) × (Bor Term × Unit {0})) Found
    → F → (List Tree → Tree → List ClusterFault) → Type 0
FindsOfEach calls test faults =
    (earlier : Bor (List Term)) (t : Bor Term) (r : Found) → calls.post test (earlier, (t, tt)) r
    → Finds r (faults (map tree_of earlier.now) (tree_of t.now))

-- the same of a test that takes no memory
abbrev pub FindsFirstOfEach : {F : Type 0} → Shared F (Bor (List Term) × (Bor Term × Unit {0})) Found
    → F → (List Tree → Tree → List ClusterFault) → Type 0
FindsFirstOfEach calls test faults =
    (earlier : Bor (List Term)) (t : Bor Term) (r : Found) → calls.post test (earlier, (t, tt)) r
    → FindsFirst r (faults (map tree_of earlier.now) (tree_of t.now))

-- the test finds the first of the faults that the value has which stands under a key, unless memory runs out
abbrev pub FindsOfValues : {F K : Type 0} → Shared F (Option K × (Bor Term × Unit {0})) Found
    → F → (Option K → Tree → List ClusterFault) → Type 0
FindsOfValues calls test faults =
    (key : Option _) (v : Bor Term) (r : Found) → calls.post test (key, (v, tt)) r → Finds r (faults key (tree_of v.now))

-- the same of a test that takes no memory
abbrev pub FindsFirstOfValues : {F K : Type 0} → Shared F (Option K × (Bor Term × Unit {0})) Found
    → F → (Option K → Tree → List ClusterFault) → Type 0
FindsFirstOfValues calls test faults =
    (key : Option _) (v : Bor Term) (r : Found) → calls.post test (key, (v, tt)) r → FindsFirst r (faults key (tree_of v.now))

-- the table tells what stands under a key, if it is read
abbrev pub TellsKeys : {F K : Type 0} → Shared F (Bor (List ℕ) × Unit {0}) (Option K) → F → (List ℕ → Option K) → Type 0
TellsKeys calls table key_of = (key : Bor (List ℕ)) (r : Option _) → calls.post table (key, tt) r → r ≡ key_of key.now

-- the test tells whether a term is such a value
abbrev pub TellsValues : {F : Type 0} → Shared F (Bor Term × Unit {0}) Bool → F → (Tree → Bool) → Type 0
TellsValues calls test is_value = (v : Bor Term) (r : Bool) → calls.post test (v, tt) r → r ≡ is_value (tree_of v.now)
