-- Connections of nodes (net_kernel, global).
use Rattle.std.specs.Prelude.{List, [], ◌∷◌, ◌++◌, ◌==◌, Bool, true, false, if◌then◌else◌}
use Rattle.rh_model.specs.declared.node.Node.{Node}
use Rattle.rh_otp_model.specs.declared.message.Message.{Message}
use Rattle.rh_otp_model.specs.declared.message.Message.TheVariants as message
use Rattle.rh_otp_model.specs.declared.process.Role.TheVariants as role
use Rattle.rh_otp_net.specs.declared.links.Link.{Link}
use Rattle.rh_otp_net.specs.Links as links
use Rattle.rh_otp_node.specs.declared.node.Phase.{Phase}
use Rattle.rh_otp_node.specs.declared.node.Phase.TheVariants as phase
use Rattle.rh_otp_node.specs.Remote.{monitored}
use Rattle.rh_otp_system.specs.declared.slow.Slow.{Slow}
use Rattle.rh_otp_system.specs.declared.slow.Slow.TheVariants.{Connect}
use Rattle.rh_otp_system.specs.State.{SystemView, node_at, with_node, is_alive_at, has_dist_at, process_in}
use Rattle.rh_otp_system.specs.Sending.{sent}

-- net_kernel tells the node's kernel_config that it sees another one
abbrev pub with_up : Node → Node → SystemView → SystemView
with_up n other s = sent (process_in s n role.NetKernel) (process_in s n role.KernelConfig) (message.NodeUp other) s

abbrev pub waits_in : Phase → Bool
waits_in phase.Waiting = true
waits_in p = false

-- the same, where it waits for others
abbrev pub tell_up : Node → Node → SystemView → SystemView
tell_up n other s = if waits_in (node_at s n).phase then with_up n other s else s

-- a connection is there, and both nodes are told
abbrev pub link : Node → Node → SystemView → SystemView
link one two s = tell_up two one (tell_up one two (record s { links = s.links ++ links.link one two ∷ [] }))

-- what takes longer than messages do, behind all else of that kind
abbrev pub with_slow : Slow → SystemView → SystemView
with_slow what s = record s { slow = s.slow ++ what ∷ [] }

-- global is to connect these, a little later
abbrev pub with_slow_links : List Link → SystemView → SystemView
with_slow_links [] s = s
with_slow_links (l ∷ more) s = with_slow_links more (with_slow (Connect l.0 l.1) s)

-- two nodes see one another; what either of them sees already global connects with the other
unfoldable pub connect : Node → Node → SystemView → SystemView
connect one two s =
    if links.are_linked one two s.links then s
    else with_slow_links (links.to_connect one two s.links) (link one two s)

-- a node tries to reach another one that is alive
abbrev pub reach : Node → Node → SystemView → SystemView
reach n other s = if n.0 == other.0 then s else connect n other s

-- {dist_ac, Node} ! Message, behind the try to reach the node
abbrev pub send_reached : Node → Node → Message → SystemView → SystemView
send_reached n to m s = if has_dist_at s to then sent (process_in s n role.DistAc) (process_in s to role.DistAc) m s else s

-- {dist_ac, Node} ! Message, which is lost where there is none
abbrev pub send_to_dist : Node → Node → Message → SystemView → SystemView
send_to_dist n to m s = if is_alive_at s to then send_reached n to m (reach n to s) else s

-- a monitor of a node that is alive
abbrev pub with_monitor : Node → Node → SystemView → SystemView
with_monitor n other s = with_node n (monitored other (node_at s n)) s

-- monitor_node(Node, true), of the node's dist_ac: where the other one isn't alive it is told so at once
abbrev pub monitor : Node → Node → SystemView → SystemView
monitor n other s =
    if is_alive_at s other then with_monitor n other (reach n other s)
    else sent (process_in s other role.DistAc) (process_in s n role.DistAc) (message.NodeDown other) s
