-- Whose turn a move is.
use Rattle.std.specs.Prelude.{ℕ, Option, Some, None, slice_get}
use Rattle.std.specs.Option.{option_map, option_and_then}
use Rattle.rh_model.specs.declared.node.Node.{Node}
use Rattle.rh_otp_model.specs.declared.output.Envelope.{Envelope}
use Rattle.rh_otp_net.specs.Queue.{first_of_pair}
use Rattle.rh_otp_system.specs.declared.moves.Move.{Move}
use Rattle.rh_otp_system.specs.declared.moves.Move.TheVariants as move
use Rattle.rh_otp_system.specs.declared.slow.Slow.{Slow}
use Rattle.rh_otp_system.specs.declared.slow.Slow.TheVariants as slow
use Rattle.rh_otp_system.specs.State.{SystemView}

-- the message that arrives where the one at this place is to: the first of its pair of processes
abbrev pub arriving : ℕ → SystemView → Option Envelope
arriving place s = slice_get s.messages (first_of_pair s.messages place)

abbrev pub node_of_slow : Slow → Option Node
node_of_slow (slow.Connect one two) = None
node_of_slow (slow.Boot n) = Some n

-- The node at which something moves: the one at which a message arrives, whose boot script begins, whose dist_ac goes on with a lock, or
-- which goes on to its end. A connection is nobody's, and a call that goes on only sends.
abbrev pub node_of : Move → SystemView → Option Node
node_of (move.Deliver place) s = option_map (λ (e : Envelope). e.to.node) (arriving place s)
node_of (move.Slow place) s = option_and_then node_of_slow (slice_get s.slow place)
node_of (move.Lock n) s = Some n
node_of (move.Call place) s = None
node_of (move.End n) s = Some n
