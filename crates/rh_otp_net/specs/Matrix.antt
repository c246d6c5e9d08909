-- Which of a cluster's nodes aren't connected, as an adjacency matrix whose rows are sets (ours).
use Rattle.std.specs.Prelude.{◌≡◌, ◌==◌, ◌&&◌, Bool, true, not, nat_lt, List, slice_index_or}
use Rattle.rh_model.specs.declared.limits.TheConstants.{MAX_NODES}
use Rattle.rh_model.specs.declared.node.Node.{Node}
use Rattle.rh_place.specs.Sets.{NodeBits, has}
use Rattle.rh_otp_net.specs.declared.links.Link.{Link}
use Rattle.rh_otp_net.specs.Links.{are_linked}

-- can nodes of a cluster have these numbers?
abbrev pub is_inside : Node → Node → Bool
is_inside a b = nat_lt a.0 MAX_NODES && nat_lt b.0 MAX_NODES

-- are the last two these two, in this order?
abbrev pub is_pair : Node → Node → Node → Node → Bool
is_pair one two a b = a.0 == one.0 && b.0 == two.0

-- is the one node in the other's row, of those that it isn't connected with?
abbrev pub is_apart : List NodeBits → Node → Node → Bool
is_apart rows a b = has (slice_index_or rows a.0 (record { bits = 0 })) b

-- is the node in the set, and one that a cluster can have?
abbrev pub is_held : NodeBits → Node → Bool
is_held set n = has set n && nat_lt n.0 MAX_NODES

-- the matrix of these connections: of each two nodes that a cluster can have it says whether they are connected
abbrev pub IsMatrixOf : List Link → List NodeBits → Type 0
IsMatrixOf links rows = (a b : Node) → is_inside a b ≡ true → is_apart rows a b ≡ not (are_linked a b links)
