-- Worked rows: names, numbers, the faults of one part of a term in their order, and how a fault is shown.
use Rattle.std.proofs.Common.{◌≡◌, [], ◌∷◌, ◌++◌, true, false, Some, None, pos, negsuc, codes, map, filter, replicate, refl}
use Rattle.std.specs.Fmt.{digits}
use Rattle.std.specs.List.{range_with_len}
use Rattle.rh_base.specs.Tree.{atom, int, text, list, tuple, none, more}
use Rattle.rh_terms.specs.declared.fault.TermFault.TheVariants as terms
use Rattle.rh_model.specs.declared.settings.SyncWait.TheVariants.{Unset, After, Forever}
use Rattle.rh_cluster.specs.declared.fault.ClusterFault.TheVariants.{Term, NoNodes, TooMany, DuplicateName, UnknownName, DuplicateInList}
use Rattle.rh_cluster.specs.declared.fault.ClusterFault.TheVariants.{DuplicateParameter, Mismatch, BootNotListed, BadValue, BadName, OutOfMemory}
use Rattle.rh_cluster.specs.FaultTexts.{cluster_fault_text}
use Rattle.rh_cluster.specs.NameRule.{is_name, is_name_byte}
use Rattle.rh_cluster.specs.Shapes.{as_atom, as_tuple, as_int, as_pair, as_entry, as_time}
use Rattle.rh_cluster.specs.Sections.{has_key, entry_faults, word_faults, name_faults, app_in, app_name_faults, boot_faults, as_restart, dep_faults}
use Rattle.rh_cluster.specs.Sections.{platform_faults, as_sync_wait}

-- 1 to 255 bytes
name_lengths_row : map is_name ([] ∷ codes "x" ∷ replicate 255 120 ∷ replicate 256 120 ∷ []) ≡ false ∷ true ∷ true ∷ false ∷ []
unfolding is_name
name_lengths_row = refl

-- neither a control byte nor a space
name_bytes_row : filter is_name_byte (range_with_len 0 256) ≡ range_with_len 33 94 ++ range_with_len 128 128
name_bytes_row = refl

-- 0 to 10^12
times_row : map as_time (int (pos 0) ∷ int (pos 1000000000000) ∷ int (pos 1000000000001) ∷ int (negsuc 0) ∷ atom (codes "infinity") ∷ [])
    ≡ Some 0 ∷ Some 1000000000000 ∷ None ∷ None ∷ None ∷ []
unfolding as_time as_int
times_row = refl

waits_row : map as_sync_wait (atom (codes "undefined") ∷ atom (codes "infinity") ∷ int (pos 5) ∷ atom (codes "soon") ∷ text (codes "5") ∷ [])
    ≡ Some Unset ∷ Some Forever ∷ Some (After 5) ∷ None ∷ None ∷ []
unfolding as_sync_wait as_atom as_time as_int
waits_row = refl

-- ---- which fault comes first

-- a name that breaks the rule, is unknown and was there before
name_order_row : word_faults (codes "x y") false true ≡ BadName ∷ UnknownName ∷ DuplicateInList ∷ []
unfolding word_faults is_name
name_order_row = refl

-- a platform name that was there before, is an application's, and is one too many
platform_order_row :
    platform_faults (record { nodes = []; apps = codes "p" ∷ []; platforms = [] }) (atom (codes "p") ∷ []) (atom (codes "p"))
    ≡ DuplicateInList ∷ DuplicateName ∷ TooMany ∷ []
unfolding platform_faults name_faults word_faults as_atom is_name
platform_order_row = refl

-- a name of `applications`: as any name, and then that it is not the application itself
dependency_order_row :
    dep_faults (record { nodes = []; apps = []; platforms = [] }) [] (codes "p") (codes "p" ∷ []) (atom (codes "p"))
    ≡ UnknownName ∷ DuplicateInList ∷ BadValue ∷ []
unfolding dep_faults name_faults word_faults as_atom is_name
dependency_order_row = refl

-- an entry of `boot`: its name, and then what follows the name
entry_order_row :
    boot_faults (record { nodes = []; apps = []; platforms = [] }) [] (tuple (more (atom (codes "p")) (more (atom (codes "x")) none)))
    ≡ UnknownName ∷ BadValue ∷ []
unfolding boot_faults as_pair as_tuple as_restart as_atom app_name_faults app_in name_faults word_faults is_name
entry_order_row = refl

-- a parameter that came before, with a value that it can't have
parameter_order_row :
    entry_faults (λ key. Some key) (λ key value. BadValue ∷ []) (tuple (more (atom (codes "boot")) (more (list none) none)) ∷ [])
    (tuple (more (atom (codes "boot")) (more (atom (codes "x")) none)))
    ≡ DuplicateParameter ∷ []
unfolding entry_faults has_key as_entry as_pair as_tuple as_atom
parameter_order_row = refl

-- ---- how a fault is shown

fault_texts_row : map cluster_fault_text (Term (terms.Syntax 12) ∷ NoNodes ∷ TooMany ∷ DuplicateName ∷ UnknownName ∷ DuplicateInList ∷ DuplicateParameter
    ∷ Mismatch (codes "n@x") ∷ BootNotListed ∷ BadValue ∷ BadName ∷ OutOfMemory ∷ [])
    ≡ codes "C1 T1 syntax line 12" ∷ codes "C2 no_nodes" ∷ codes "C3 too_many" ∷ codes "C4 duplicate_name" ∷ codes "C5 unknown_name"
    ∷ codes "C6 duplicate_in_list" ∷ codes "C7 duplicate_parameter" ∷ codes "C8 mismatch n@x" ∷ codes "C9 boot_not_listed" ∷ codes "C10 bad_value"
    ∷ codes "C11 bad_name" ∷ codes "C12 out_of_memory" ∷ []
unfolding digits
fault_texts_row = refl
