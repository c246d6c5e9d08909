-- Worked rows: which nodes take part, and where two differ.
use Rattle.std.proofs.Common.{◌≡◌, ℕ, pos, List, [], ◌∷◌, codes, refl, true, false, Some}
use Rattle.rh_base.specs.Tree.{Tree, Trees, atom, int, list, tuple, none, more}
use Rattle.rh_cluster.specs.Sections.{as_sync_wait}
use Rattle.rh_cluster.specs.Shapes.{as_atom, as_list, as_tuple, as_int, as_pair, as_triple, as_entry, as_headed, as_time}
use Rattle.rh_cluster.specs.Values.{elements, elements_under, value_if}
use Rattle.rh_cluster_lint.specs.declared.waits.Differing.TheVariants.{Distributed, SyncTimeout}
use Rattle.rh_cluster_lint.specs.Differing.{group_has, entry_lists, term_lists, takes_part, part_config, node_config, differing_in, sides_of}

abbrev pair : Tree → Tree → Tree
pair a b = tuple (more a (more b none))

abbrev kernel : Trees → Tree
kernel parameters = list (more (pair (atom (codes "kernel")) (list parameters)) none)

abbrev node : List ℕ → Tree → Tree
node name config = tuple (more (atom (codes "node")) (more (atom name) (more config none)))

-- {distributed, [{w, [a, {b, c}]}]}
abbrev shared : Tree
shared = pair (atom (codes "distributed"))
    (list (more (pair (atom (codes "w")) (list (more (atom (codes "a")) (more (pair (atom (codes "b")) (atom (codes "c"))) none)))) none))

abbrev timed : ℕ → Tree
timed n = pair (atom (codes "sync_nodes_timeout")) (int (pos n))

abbrev file : List Tree
file = node (codes "m") (kernel none) ∷ node (codes "a") (kernel none) ∷ node (codes "b") (kernel (more shared none)) ∷ []

takes_part_row : (takes_part file (codes "m", kernel none) ≡ false) × (takes_part file (codes "a", kernel none) ≡ true)
    × (takes_part file (codes "c", kernel none) ≡ true) × (takes_part file (codes "w", kernel none) ≡ false)
    × (takes_part file (codes "w", kernel (more shared none)) ≡ true)
unfolding group_has entry_lists term_lists takes_part as_atom as_list as_tuple as_pair as_triple as_entry as_headed elements elements_under value_if
takes_part_row = (refl, refl, refl, refl, refl)

sides_row : (sides_of (codes "b") file ≡ Some (record { own = 2; first = 1; parameter = Distributed }))
    × (differing_in (kernel (more (timed 5) none)) (kernel (more (timed 6) none)) ≡ SyncTimeout)
unfolding group_has entry_lists term_lists takes_part part_config node_config differing_in sides_of as_atom as_list as_tuple as_int as_pair as_triple as_entry as_headed as_time as_sync_wait elements elements_under value_if
sides_row = (refl, refl)
