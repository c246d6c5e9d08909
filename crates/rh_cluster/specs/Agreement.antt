-- The fourth stage: what the nodes must agree on (kernel(6), `distributed` and `sync_nodes_timeout`).
use Rattle.std.specs.Prelude.{◌≡◌, ℕ, List, [], ◌∷◌, ◌++◌, length, flat_map, slice_get}
use Rattle.std.specs.Prelude.{Bool, true, false, not, ◌&&◌, ◌||◌, ◌==◌, Option, Some, None, unwrap_or, Result, Ok, Err}
use Rattle.std.specs.List.{list_any, list_all, find, range_with_len}
use Rattle.std.specs.Option.{option_map}
use Rattle.rh_cluster.specs.declared.fault.ClusterFault.{ClusterFault}
use Rattle.rh_cluster.specs.declared.fault.ClusterFault.TheVariants as fault
use Rattle.rh_model.specs.declared.node.Node.{Node}
use Rattle.rh_model.specs.declared.node.App.{App}
use Rattle.rh_model.specs.declared.settings.Restart.{Restart}
use Rattle.rh_model.specs.declared.settings.Spread.{Spread}
use Rattle.rh_model.specs.declared.settings.SyncWait.{SyncWait}
use Rattle.rh_model.specs.declared.settings.SyncWait.TheVariants.{Unset, After, Forever}
use Rattle.rh_cluster.specs.declared.shares.Share.{Share}
use Rattle.rh_model.specs.ClusterView.{NodeView, numbered, is_in}
use Rattle.rh_cluster.specs.Faults.{when, first}
use Rattle.rh_cluster.specs.Values.{spread_for}

-- ---- equal `distributed`

-- the same nodes, in any order
unfoldable pub same_group : List Node → List Node → Bool
same_group g h = list_all (λ (n : Node). is_in n h) g && list_all (λ (n : Node). is_in n g) h

-- the same groups in the same order
abbrev pub same_groups : List (List Node) → List (List Node) → Bool
same_groups [] [] = true
same_groups [] (h ∷ hs) = false
same_groups (g ∷ gs) [] = false
same_groups (g ∷ gs) (h ∷ hs) = same_group g h && same_groups gs hs

-- the same entry: its application, its timeout, its groups
unfoldable pub same_share : Share → Share → Bool
same_share s t =
    s.app.0 == t.app.0 && s.spread.timeout == t.spread.timeout && same_groups s.spread.groups t.spread.groups

-- the same entries, in any order
unfoldable pub same_shares : List Share → List Share → Bool
same_shares xs ys =
    list_all (λ (s : Share). list_any (same_share s) ys) xs && list_all (λ (s : Share). list_any (same_share s) xs) ys

-- the same `sync_nodes_timeout`
abbrev pub same_wait : SyncWait → SyncWait → Bool
same_wait Unset Unset = true
same_wait (After m) (After n) = m == n
same_wait Forever Forever = true
same_wait v w = false

-- ---- involved nodes

-- the `distributed` of a node
abbrev pub shares_at : List (List Share) → ℕ → List Share
shares_at all n = unwrap_or (slice_get all n) []

-- how long a node waits
abbrev pub wait_at : List NodeView → ℕ → SyncWait
wait_at nodes n = unwrap_or (option_map (λ (v : NodeView). v.sync_wait) (slice_get nodes n)) Unset

-- what a node starts
abbrev pub boot_at : List NodeView → ℕ → List (App × Restart)
boot_at nodes n = unwrap_or (option_map (λ (v : NodeView). v.boot) (slice_get nodes n)) []

-- does the entry's list of groups name the node?
abbrev pub lists_node : Node → Spread → Bool
lists_node n s = list_any (is_in n) s.groups

-- does one of these entries name the node?
abbrev pub names_node : Node → List Share → Bool
names_node n shares = list_any (λ (s : Share). lists_node n s.spread) shares

-- A node is involved if its `distributed` has an entry, or if some node's names it.
unfoldable pub is_involved : List (List Share) → ℕ → Bool
is_involved all n = not (length (shares_at all n) == 0) || list_any (names_node (numbered n)) all

-- 0, 1 and so on, below n
abbrev pub numbers_below : ℕ → List ℕ
numbers_below n = range_with_len 0 n

-- the first involved node
unfoldable pub first_involved : List (List Share) → Option ℕ
first_involved all = find (is_involved all) (numbers_below (length all))

-- the `distributed` of the first involved node, which is that of all of them
unfoldable pub agreed_shares : List (List Share) → List Share
agreed_shares all = unwrap_or (option_map (shares_at all) (first_involved all)) []

-- ---- the faults

-- do they agree?
unfoldable pub agree : List NodeView → List (List Share) → ℕ → ℕ → Bool
agree nodes all m n =
    same_wait (wait_at nodes m) (wait_at nodes n) && same_shares (shares_at all m) (shares_at all n)

-- the name of a node
abbrev pub name_at : List (List ℕ) → ℕ → List ℕ
name_at names n = unwrap_or (slice_get names n) []

-- an involved node that differs from the first one
unfoldable pub mismatch_faults : List (List ℕ) → List NodeView → List (List Share) → ℕ → ℕ → List ClusterFault
mismatch_faults names nodes all m n =
    when (is_involved all n && not (agree nodes all m n)) (fault.Mismatch (name_at names n))

-- the involved nodes that differ from this one, in node order
abbrev pub mismatches_with : List (List ℕ) → List NodeView → List (List Share) → ℕ → List ClusterFault
mismatches_with names nodes all m = flat_map (mismatch_faults names nodes all m) (numbers_below (length all))

-- the involved nodes that differ from the first one, in node order
unfoldable pub mismatches : List (List ℕ) → List NodeView → List (List Share) → List ClusterFault
mismatches names nodes all = unwrap_or (option_map (mismatches_with names nodes all) (first_involved all)) []

-- is the application distributed, and its list without the node?
abbrev pub is_elsewhere : ℕ → Option Spread → Bool
is_elsewhere n None = false
is_elsewhere n (Some s) = not (lists_node (numbered n) s)

-- a boot entry of a distributed application that doesn't list the node
unfoldable pub boot_entry_faults : List Share → ℕ → App → List ClusterFault
boot_entry_faults shares n app = when (is_elsewhere n (spread_for shares app)) fault.BootNotListed

-- the entries of a node's boot list, in order
unfoldable pub boot_list_faults : List Share → List NodeView → ℕ → List ClusterFault
boot_list_faults shares nodes n = flat_map (λ (e : App × Restart). boot_entry_faults shares n e.0) (boot_at nodes n)

-- The fourth stage: the involved nodes agree; then, by node, each boot entry is listed.
unfoldable pub agreement_stage : List (List ℕ) → List NodeView → List (List Share) → List ClusterFault
agreement_stage names nodes all =
    mismatches names nodes all
    ++ flat_map (boot_list_faults (agreed_shares all) nodes) (numbers_below (length nodes))

-- ---- want of memory

-- is it the fault that has the name of a node, of which a copy is made?
abbrev pub has_name : Option ClusterFault → Bool
has_name (Some (fault.Mismatch name)) = true
has_name f = false

-- Want of memory is told only in place of a first fault that has the name of a node: never where there is no fault,
-- and never for another fault.
abbrev pub WantsForName : {X : Type 0} → Result X ClusterFault → List ClusterFault → Type 0
WantsForName (Ok x) faults = Unit {0}
WantsForName (Err f) faults = f ≡ fault.OutOfMemory → has_name (first faults) ≡ true
