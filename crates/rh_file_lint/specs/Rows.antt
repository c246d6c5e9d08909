-- What is asked of a distributed application at each node, asked once: a row for each application, with a place for each node.
use Rattle.std.specs.Prelude.{ℕ, Bool, ◌&&◌, is_some, List, [], map, Option, None, unwrap_or, slice_get, if◌then◌else◌}
use Rattle.rh_model.specs.ClusterView.{ClusterView, group_of}
use Rattle.rh_model.specs.declared.node.Node.{Node}
use Rattle.rh_model.specs.declared.node.App.{App}
use Rattle.rh_state.specs.Numbers.{nodes_of}
use Rattle.rh_file_lint.specs.declared.rows.RowKind.{RowKind}
use Rattle.rh_file_lint.specs.declared.rows.RowKind.TheVariants.{BootPlaces, Groups}
use Rattle.rh_file_lint.specs.declared.losses.Place.{Place}
use Rattle.rh_file_lint.specs.Cluster.{is_distributed, boot_place}

-- the place of an application in what a node boots, or the group of its list that has the node
abbrev pub place_in : ClusterView → RowKind → App → Node → Option ℕ
place_in c BootPlaces a n = boot_place c n a
place_in c Groups a n = group_of c a n

-- that at all nodes
abbrev pub places_in : ClusterView → RowKind → App → List (Option ℕ)
places_in c kind a = map (place_in c kind a) (nodes_of c)

-- and nothing for an application that isn't distributed
unfoldable pub row_of : ClusterView → RowKind → App → List (Option ℕ)
row_of c kind a = if is_distributed c a then places_in c kind a else []

-- the row of an application among all rows
unfoldable pub row_at : List (List (Option ℕ)) → App → List (Option ℕ)
row_at rows a = unwrap_or (slice_get rows a.0) []

-- what stands in a row for a node
abbrev pub place_at : List (Option ℕ) → Node → Option ℕ
place_at row n = unwrap_or (slice_get row n.0) None

-- the place of a node by the rows of two applications
abbrev pub place_by : List (Option ℕ) → List (Option ℕ) → Node → Place
place_by firsts seconds n = record { node = n; first = place_at firsts n; second = place_at seconds n }

-- is a node in both lists?
abbrev pub is_in_both : Place → Bool
is_in_both n = is_some n.first && is_some n.second
