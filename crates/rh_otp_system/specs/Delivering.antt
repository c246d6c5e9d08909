-- Messages that arrive.
use Rattle.std.specs.Prelude.{ℕ, ◌&&◌, Option, Some, None, slice_get, if◌then◌else◌}
use Rattle.std.specs.List.{remove}
use Rattle.rh_model.specs.declared.node.Node.{Node}
use Rattle.rh_otp_model.specs.declared.message.Message.{Message}
use Rattle.rh_otp_model.specs.declared.output.Envelope.{Envelope}
use Rattle.rh_otp_model.specs.declared.process.Process.{Process}
use Rattle.rh_otp_model.specs.declared.process.Role.{Role}
use Rattle.rh_otp_model.specs.declared.process.Role.TheVariants as role
use Rattle.rh_otp_net.specs.Queue.{first_of_pair}
use Rattle.rh_otp_node.specs.Turns.{controlled_by}
use Rattle.rh_otp_system.specs.declared.slow.Slow.{Slow}
use Rattle.rh_otp_system.specs.declared.slow.Slow.TheVariants as slow
use Rattle.rh_otp_system.specs.State.{SystemView, node_at, own_at, is_alive_at, lives}
use Rattle.rh_otp_system.specs.Connecting.{connect}
use Rattle.rh_otp_system.specs.Working.{behind, mailed}
use Rattle.rh_otp_system.specs.Joining.{kernel_received, boot_received, boot_next}
use Rattle.rh_otp_system.specs.Ending.{ended}
use Rattle.rh_otp_system.specs.Calling.{call_received}

-- the controller of a node handles a message
abbrev pub controlled : Node → Message → SystemView → SystemView
controlled n m s = behind n (controlled_by s.cluster (own_at s n) n m (node_at s n)) s

abbrev pub received_in : Role → Node → Message → SystemView → SystemView
received_in role.Controller n m s = controlled n m s
received_in role.DistAc n m s = mailed n m s
received_in role.KernelConfig n m s = kernel_received n m s
received_in role.Boot n m s = boot_received n m s
received_in role.System n m s = ended n s
received_in (role.Call number) n m s = call_received number m s
received_in r n m s = s

-- a process that is there still receives a message
abbrev pub received : Process → Message → SystemView → SystemView
received to m s = received_in to.role to.node m s

-- a message arrives: it is lost where the process isn't there any more
abbrev pub arrived : Process → Message → SystemView → SystemView
arrived to m s = if lives s to then received to m s else s

-- the message at this place arrives, if there is one
abbrev pub arrived_at : ℕ → Option Envelope → SystemView → SystemView
arrived_at place None s = s
arrived_at place (Some e) s = arrived e.to e.message (record s { messages = remove s.messages place })

-- The message at this place arrives; behind others of its pair of processes, the first of these does: between two processes messages
-- keep their order.
unfoldable pub delivered : ℕ → SystemView → SystemView
delivered place s = arrived_at (first_of_pair s.messages place) (slice_get s.messages (first_of_pair s.messages place)) s

-- global connects two nodes that are still alive, or a boot script begins
unfoldable pub slowed : Slow → SystemView → SystemView
slowed (slow.Connect one two) s = if is_alive_at s one && is_alive_at s two then connect one two s else s
slowed (slow.Boot n) s = if is_alive_at s n then boot_next n None s else s
