-- Worked rows: what a node's own file says, as kernel(6) has it and a live node takes it. The cluster has the nodes a, b and c, and
-- the applications v and w; no node is called z.
use Rattle.std.proofs.Common.{◌≡◌, ℕ, pos, negsuc, List, [], ◌∷◌, codes, refl, true, false, Some, None}
use Rattle.rh_base.specs.Tree.{Tree, Trees, atom, int, list, tuple, none, more}
use Rattle.rh_model.specs.ClusterView.{ClusterView, numbered, app_numbered}
use Rattle.rh_model.specs.declared.node.Node.{Node}
use Rattle.rh_cluster.specs.Sections.{as_share}
use Rattle.rh_cluster.specs.Shapes.{as_atom, as_list, as_tuple, as_int, as_pair, as_triple, as_entry, as_headed, as_time}
use Rattle.rh_cluster.specs.Values.{elements, elements_under, value_if}
use Rattle.rh_otp_model.specs.Own.{WrittenView, OwnView}
use Rattle.rh_otp_model.specs.declared.wait.Wait.TheVariants.{Unset, Refused, After, Forever}
use Rattle.rh_otp_file.specs.Distributed.{node_by_name, app_by_name, place_of, entry_of, own_in}
use Rattle.rh_otp_file.specs.Files.{config_if, file_in, files_of}
use Rattle.rh_otp_file.specs.Waits.{wait_of, wait_in}

abbrev cluster : ClusterView
cluster = record {
  profile = 2;
  node_names = codes "a" ∷ codes "b" ∷ codes "c" ∷ [];
  app_names = codes "v" ∷ codes "w" ∷ [];
  platform_names = [];
  nodes = [];
  apps = [];
}

abbrev n : ℕ → Node
n = numbered

-- ---- terms

abbrev one : Tree → Trees
one t = more t none

abbrev two : Tree → Tree → Trees
two t u = more t (one u)

abbrev a : Tree
a = atom (codes "a")

abbrev b : Tree
b = atom (codes "b")

abbrev c : Tree
c = atom (codes "c")

abbrev z : Tree
z = atom (codes "z")

abbrev node : Tree → Trees → Tree
node name sections = tuple (more (atom (codes "node")) (two name (list sections)))

abbrev kernel : Trees → Tree
kernel parameters = tuple (two (atom (codes "kernel")) (list parameters))

abbrev timeout : Tree → Tree
timeout value = tuple (two (atom (codes "sync_nodes_timeout")) value)

-- [{w, [{a}, b]}, {v, 5000, [c, {b, a}]}]
abbrev written : Tree
written = list (two
    (tuple (two (atom (codes "w")) (list (two (tuple (one a)) b))))
    (tuple (more (atom (codes "v")) (two (int (pos 5000)) (list (two c (tuple (two b a))))))))

-- ---- what they say

abbrev alone : Node → WrittenView
alone m = record { is_tuple = false; nodes = m ∷ [] }

abbrev tupled : List Node → WrittenView
tupled ms = record { is_tuple = true; nodes = ms }

-- what is written, in its order: w, which the cluster has behind v, comes first
abbrev own : OwnView
own = record {
  has_dist = true;
  entries = record { app = app_numbered 1; timeout = 0; places = tupled (n 0 ∷ []) ∷ alone (n 1) ∷ [] }
      ∷ record { app = app_numbered 0; timeout = 5000; places = alone (n 2) ∷ tupled (n 1 ∷ n 0 ∷ []) ∷ [] } ∷ [];
}

abbrev without : OwnView
without = record { has_dist = false; entries = [] }

-- `{a}` isn't `a`; in a tuple the order is kept, and a name that no node has is left out
place_row : (place_of cluster a ≡ alone (n 0)) × (place_of cluster (tuple (one a)) ≡ tupled (n 0 ∷ []))
    × (place_of cluster (tuple (two b a)) ≡ tupled (n 1 ∷ n 0 ∷ [])) × (place_of cluster (tuple (two z c)) ≡ tupled (n 2 ∷ []))
    × (place_of cluster z ≡ record { is_tuple = false; nodes = [] })
unfolding node_by_name place_of as_atom as_tuple
place_row = (refl, refl, refl, refl, refl)

-- the order of entries, places and nodes is kept; an empty list is one, and none isn't
own_row : (own_in cluster (Some written) ≡ own) × (own_in cluster (Some (list none)) ≡ record without { has_dist = true })
    × (own_in cluster None ≡ without)
unfolding node_by_name app_by_name place_of entry_of as_share as_atom as_list as_tuple as_int as_time elements
own_row = (refl, refl, refl)

-- without it a node waits for nobody; 0 and a written `undefined` are refused, as all that is no time
wait_row : (wait_in None ≡ Unset) × (wait_in (Some (int (pos 0))) ≡ Refused) × (wait_in (Some (atom (codes "undefined"))) ≡ Refused)
    × (wait_in (Some (int (pos 5000))) ≡ After 5000) × (wait_in (Some (atom (codes "infinity"))) ≡ Forever)
    × (wait_in (Some (int (negsuc 0))) ≡ Refused) × (wait_in (Some (list none)) ≡ Refused)
unfolding wait_of
wait_row = (refl, refl, refl, refl, refl, refl, refl)

-- the file's terms stand in another order than the cluster's nodes, z is no node of it, and b isn't in the file; in another section the
-- parameters say nothing
files_row : files_of cluster
    (node z (one (kernel (one (timeout (int (pos 1))))))
    ∷ node c (two (tuple (two (atom (codes "sasl")) (list (one (timeout (int (pos 0))))))) (kernel (two (timeout (int (pos 5000)))
    (tuple (two (atom (codes "distributed")) written)))))
    ∷ node a (one (kernel (one (timeout (int (pos 0))))))
    ∷ [])
    ≡ record { own = without; wait = Refused } ∷ record { own = without; wait = Unset } ∷ record { own = own; wait = After 5000 } ∷ []
unfolding files_of file_in config_if node_by_name app_by_name place_of entry_of wait_of as_share as_atom as_list as_tuple as_int as_time as_pair as_triple as_entry as_headed elements elements_under value_if
files_row = refl
