-- The lists of nodes that may run an application (kernel(6), distributed).
use Rattle.std.specs.Prelude.{Bool, true, not, ◌&&◌, List, [], ◌∷◌, length, filter, nat_le}
use Rattle.std.specs.List.{list_any, list_all}
use Rattle.std.specs.Ordering.{is_lt}
use Rattle.std.specs.Cmp.Lexicographic.{slice_cmp}
use Rattle.std.specs.Ordering.{nat_cmp}
use Rattle.rh_model.specs.ClusterView.{ClusterView, name_of}
use Rattle.rh_model.specs.declared.node.Node.{Node}
use Rattle.rh_model.specs.declared.node.App.{App}
use Rattle.rh_file_lint.specs.Cluster.{groups_of}

-- does the name of a node come before that of the other one, byte by byte?
abbrev pub sorts_before : ClusterView → Node → Node → Bool
sorts_before c n m = is_lt (slice_cmp nat_cmp (name_of c n) (name_of c m))

-- are the nodes written in the order of their names?
abbrev pub is_sorted : ClusterView → List Node → Bool
is_sorted c [] = true
is_sorted c (n ∷ later) = list_all (λ (m : Node). not (sorts_before c m n)) later && is_sorted c later

-- a group of an application isn't in that order: of equally good nodes a live OTP takes the one whose name sorts first, and not
-- the one that is written first
unfoldable pub has_unsorted_tuple : ClusterView → App → Bool
has_unsorted_tuple c a = list_any (λ (group : List Node). not (is_sorted c group)) (groups_of c a)

-- a group of two nodes or more is written as a tuple (kernel(6), distributed)
abbrev pub is_tuple : List Node → Bool
is_tuple group = nat_le 2 (length group)

-- an application has two of them: live nodes of the second one can send each other their weights for ever
unfoldable pub has_two_tuples : ClusterView → App → Bool
has_two_tuples c a = nat_le 2 (length (filter is_tuple (groups_of c a)))
