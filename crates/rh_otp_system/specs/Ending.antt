-- The end of a node (ours: what the emulators, global and net_kernel do).
use Rattle.std.specs.Prelude.{ℕ, List, [], ◌∷◌, ◌++◌, ◌+◌, ◌-◌, ◌^◌, min, ◌&&◌, replicate, if◌then◌else◌}
use Rattle.rh_model.specs.declared.node.Node.{Node}
use Rattle.rh_otp_model.specs.declared.message.Message.TheVariants as message
use Rattle.rh_otp_model.specs.declared.output.Envelope.{Envelope}
use Rattle.rh_otp_model.specs.declared.output.Event.TheVariants as event
use Rattle.rh_otp_model.specs.declared.process.Role.TheVariants as role
use Rattle.rh_otp_net.specs.Links as links
use Rattle.rh_otp_net.specs.Locks as locks
use Rattle.rh_otp_node.specs.declared.node.Phase.TheVariants as phase
use Rattle.rh_otp_node.specs.Kernel.{without_node}
use Rattle.rh_otp_node.specs.Remote as remote
use Rattle.rh_otp_node.specs.Turns.{terminated_by}
use Rattle.rh_otp_system.specs.State.{SystemView, node_at, with_node, own_at, is_up_at, has_dist_at, process_in}
use Rattle.rh_otp_system.specs.Sending.{told, after}
use Rattle.rh_otp_system.specs.Working.{behind}

-- how often the node's dist_ac is told of the end of another one: once where its own wait is over, and once for each monitor
abbrev pub downs_at : Node → Node → SystemView → ℕ
downs_at n gone s =
    if is_up_at s n then min (remote.monitor_count gone (node_at s n) + 1) (2 ^ 64 - 1)
    else remote.monitor_count gone (node_at s n)

-- what tells a node's dist_ac of the end of another one
abbrev pub down : Node → Node → SystemView → Envelope
down n gone s = record { from = process_in s gone role.DistAc; to = process_in s n role.DistAc; message = message.NodeDown gone }

-- so many messages tell it so
abbrev pub with_downs : ℕ → Node → Node → SystemView → SystemView
with_downs count n gone s = record s { messages = s.messages ++ replicate count (down n gone s) }

-- it is told, and its monitors of the node are over
abbrev pub told_down : Node → Node → SystemView → SystemView
told_down gone n s =
    with_downs (downs_at n gone s) n gone (with_node n (remote.without_monitors gone (node_at s n)) s)

-- a node that saw it is told, if it has a dist_ac
unfoldable pub down_told : Node → Node → SystemView → SystemView
down_told gone n s = if has_dist_at s n && links.are_linked gone n s.links then told_down gone n s else s

-- all of these are told, in this order
abbrev pub downs_told : Node → List Node → SystemView → SystemView
downs_told gone [] s = s
downs_told gone (n ∷ nodes) s = downs_told gone nodes (down_told gone n s)

-- it is alive no more, and nobody has a lock there; its own locks are free
unfoldable pub taken_down : Node → SystemView → SystemView
taken_down n s = told (event.Ended n) (record (with_node n (record (node_at s n) { phase = phase.Down }) s) {
  alive = without_node n s.alive;
  locks = locks.without_node n s.locks;
})

abbrev pub unlinked : Node → SystemView → SystemView
unlinked n s = record s { links = links.without_node n s.links }

-- a node ends, and all that were connected with it are told, in the order in which they began, behind all that it has sent
unfoldable pub ended : Node → SystemView → SystemView
ended n s =
    let gone : SystemView = taken_down n s in
    unlinked n (downs_told n gone.alive gone)

-- application_controller:terminate/2: all that runs here stops, and the node ends a little later
unfoldable pub stopped : Node → SystemView → SystemView
stopped n s =
    let over : SystemView = behind n (terminated_by s.cluster (own_at s n) n (node_at s n)) s in
    after 1500 (process_in over n role.System) message.Ends over
