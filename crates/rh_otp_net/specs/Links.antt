-- Nodes that are connected.
use Rattle.std.specs.Prelude.{◌==◌, ◌&&◌, ◌||◌, not, Bool, List, ◌∷◌, map, filter, Option, Some, None, if◌then◌else◌}
use Rattle.std.specs.List.{list_any, filter_map, flat_map}
use Rattle.rh_model.specs.declared.node.Node.{Node}
use Rattle.rh_otp_net.specs.declared.links.Link.{Link}

abbrev pub link : Node → Node → Link
link a b = record { 0 = a; 1 = b }

-- does the link join these two, either way round?
abbrev pub is_between : Node → Node → Link → Bool
is_between a b l = (l.0.0 == a.0 && l.1.0 == b.0) || (l.0.0 == b.0 && l.1.0 == a.0)

-- is the node at an end of the link?
abbrev pub is_at : Node → Link → Bool
is_at n l = l.0.0 == n.0 || l.1.0 == n.0

-- the node at the other end, where this one is at an end of the link
abbrev pub other_end : Node → Link → Option Node
other_end n l = if l.0.0 == n.0 then Some l.1 else if l.1.0 == n.0 then Some l.0 else None

-- are the two connected, either way round?
abbrev pub are_linked : Node → Node → List Link → Bool
are_linked a b links = list_any (is_between a b) links

-- nodes(): the others that a node sees, that with which it was connected first in front
abbrev pub linked_with : Node → List Link → List Node
linked_with n links = filter_map (other_end n) links

-- without the links of a node
abbrev pub without_node : Node → List Link → List Link
without_node n links = filter (λ l. not (is_at n l)) links

-- the node itself, and those that it sees
abbrev pub around : Node → List Link → List Node
around n links = n ∷ linked_with n links

-- does global connect the last two when the first two are?
abbrev pub is_to_connect : Node → Node → List Link → Node → Node → Bool
is_to_connect one two links a b = not (a.0 == b.0) && not (are_linked a b links) && not (is_between one two (link a b))

-- a node with each of these that global connects with it, when a pair is connected
abbrev pub joined : Link → List Link → Node → List Node → List Link
joined pair links a others = map (link a) (filter (is_to_connect pair.0 pair.1 links a) others)

-- what global connects when these two are: what either of them sees with the other, and with what that sees
unfoldable pub to_connect : Node → Node → List Link → List Link
to_connect one two links = flat_map (λ a. joined (link one two) links a (around two links)) (around one links)
