-- Groups and nodes, one after the other.
use Rattle.std.proofs.Common.{◌≡◌, ◌≢◌, ℕ, suc, ◌+◌, ◌-◌, ◌<◌, List, [], ◌∷◌, ◌++◌, ◌||◌, Bool, true, false, length, Some, Result, Ok, Err, drop, get_or, refl, sym, ap, ◌∙◌}
use Rattle.std.specs.List.{list_any, range_with_len}
use Rattle.std.proofs.lemmas.List.{drop_more}
use Rattle.std.proofs.lemmas.Option.{unwrap_or-slice_get}
use Rattle.std.specs.Option.{option_map, unwrap_or}
use Rattle.std.specs.Prelude.{flat_map}
use Rattle.rh_cluster.specs.declared.fault.ClusterFault.{ClusterFault}
use Rattle.rh_cluster.specs.declared.fault.ClusterFault.TheVariants as fault
use Rattle.rh_cluster.specs.Faults.{first, when, FindsFirst}
use Rattle.rh_cluster.proofs.InTurn.{first-append}
use Rattle.rh_model.specs.declared.node.Node.{Node}
use Rattle.rh_cluster.specs.declared.shares.Share.{Share}
use Rattle.rh_model.specs.declared.node.App.{App}
use Rattle.rh_model.specs.declared.settings.Restart.{Restart}
use Rattle.rh_cluster.specs.Agreement.{same_group, same_groups, first_involved, mismatch_faults, mismatches, mismatches_with, numbers_below}
use Rattle.rh_cluster.specs.Agreement.{has_name, boot_at, is_elsewhere, boot_entry_faults, boot_list_faults, shares_at, names_node, WantsForName}
use Rattle.rh_cluster.specs.Values.{spread_for}
use Rattle.rh_model.specs.ClusterView.{NodeView}
use Rattle.rh_base.proofs.Elements.{and_false, range_more}

-- lists of other lengths aren't the same
pub other_lengths : (gs hs : List (List Node)) → (length gs ≡ length hs → ⊥) → false ≡ same_groups gs hs
other_lengths [] [] n = absurd (n refl)
other_lengths [] (h ∷ hs) n = refl
other_lengths (g ∷ gs) [] n = refl
other_lengths (g ∷ gs) (h ∷ hs) n = and_false (same_group g h) (same_groups gs hs) (other_lengths gs hs (λ e. n (ap suc e)))

-- numbers that are tested one after the other
module _ (f : ℕ → List ClusterFault) (n m : ℕ) where
  pub number_fails : (x : ClusterFault) (all : List ClusterFault) → n < m → first (f n) ≡ Some x → flat_map f (range_with_len n (m - n)) ≡ all
      → first all ≡ Some x
  number_fails x all h here so_far =
      ap first (sym so_far ∙ ap (flat_map f) (range_more n m h)) ∙ first-append (f n) (flat_map f (range_with_len (n + 1) (m - (n + 1)))) x here

-- an item of a list that is tested item by item
pub item_fails : {A : Type 0} (f : A → List ClusterFault) (xs : List A) (i : ℕ) (a : A) (x : ClusterFault) (all : List ClusterFault) → i < length xs
    → first (f (get_or xs i a)) ≡ Some x
    → flat_map f (drop i xs) ≡ all → first all ≡ Some x
item_fails f xs i a x all inside here so_far =
    ap first (sym so_far ∙ ap (flat_map f) (drop_more xs i a inside)) ∙ first-append (f (get_or xs i a)) (flat_map f (drop (i + 1) xs)) x here

pub mismatches_are : (names : List (List ℕ)) (nodes : List NodeView) (all : List (List Share)) (m : ℕ) → Some m ≡ first_involved all
    → mismatches names nodes all ≡ flat_map (mismatch_faults names nodes all m) (numbers_below (length all))
unfolding mismatches
mismatches_are names nodes all m e = ap (λ o. unwrap_or (option_map (mismatches_with names nodes all) o) []) (sym e)

-- ---- want of memory

-- the first of a list and more has a name where that of the list has one
pub has_name-append : (fs gs : List ClusterFault) → has_name (first fs) ≡ true → has_name (first (fs ++ gs)) ≡ true
has_name-append [] gs h = cc
has_name-append (f ∷ fs) gs h = h

-- a number whose first fault has a name, behind numbers without a fault
pub number_wants : (f : ℕ → List ClusterFault) (n m : ℕ) (all : List ClusterFault) → n < m → has_name (first (f n)) ≡ true
    → flat_map f (range_with_len n (m - n)) ≡ all → has_name (first all) ≡ true
number_wants f n m all h here so_far =
    ap (λ fs. has_name (first fs)) (sym so_far ∙ ap (flat_map f) (range_more n m h))
    ∙ has_name-append (f n) (flat_map f (range_with_len (n + 1) (m - (n + 1)))) here

not_memory-append : (fs gs : List ClusterFault) → first fs ≢ Some fault.OutOfMemory → first gs ≢ Some fault.OutOfMemory
    → first (fs ++ gs) ≢ Some fault.OutOfMemory
not_memory-append [] gs here behind = behind
not_memory-append (f ∷ fs) gs here behind = here

not_memory-flat_map : {A : Type 0} (f : A → List ClusterFault) (xs : List A) → ((x : A) → first (f x) ≢ Some fault.OutOfMemory)
    → first (flat_map f xs) ≢ Some fault.OutOfMemory
not_memory-flat_map f [] each h = cc
not_memory-flat_map f (x ∷ xs) each h = not_memory-append (f x) (flat_map f xs) (each x) (not_memory-flat_map f xs each) h

entry_not_memory : (elsewhere : Bool) → first (when elsewhere fault.BootNotListed) ≢ Some fault.OutOfMemory
entry_not_memory true h = cc
entry_not_memory false h = cc

list_not_memory : (shares : List Share) (nodes : List NodeView) (n : ℕ) → first (boot_list_faults shares nodes n) ≢ Some fault.OutOfMemory
unfolding boot_list_faults boot_entry_faults
list_not_memory shares nodes n =
    not_memory-flat_map (λ (e : App × Restart). boot_entry_faults shares n e.0) (boot_at nodes n)
    (λ e. entry_not_memory (is_elsewhere n (spread_for shares e.0)))

-- no fault of a boot list is want of memory
pub lists_not_memory : (shares : List Share) (nodes : List NodeView) (ns : List ℕ)
    → first (flat_map (boot_list_faults shares nodes) ns) ≢ Some fault.OutOfMemory
lists_not_memory shares nodes ns = not_memory-flat_map (boot_list_faults shares nodes) ns (list_not_memory shares nodes)

-- a test that finds the first of faults among which there is no want of memory doesn't tell it
pub wants_nothing : {X : Type 0} (r : Result X ClusterFault) (earlier faults : List ClusterFault) → FindsFirst r faults
    → first faults ≢ Some fault.OutOfMemory → WantsForName r (earlier ++ faults)
wants_nothing (Ok x) earlier faults h not_memory = tt
wants_nothing (Err f) earlier faults h not_memory = λ e. absurd (not_memory (h ∙ ap Some e))

-- ---- the nodes' `distributed`, one after the other

pub named_from : (n : Node) (all : List (List Share)) (i : ℕ) → i < length all
    → list_any (names_node n) (drop i all) ≡ (names_node n (shares_at all i) || list_any (names_node n) (drop (i + 1) all))
named_from n all i inside =
    ap (list_any (names_node n)) (drop_more all i [] inside)
    ∙ ap (λ shares. names_node n shares || list_any (names_node n) (drop (i + 1) all)) (sym (unwrap_or-slice_get all i []))
