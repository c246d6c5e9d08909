-- The order of messages (erlang: signals between two processes keep their order).
use Rattle.std.specs.Prelude.{◌≡◌, ◌<◌, ◌++◌, ℕ, false, List, ◌∷◌, filter, length, Some}
use Rattle.std.specs.List.{remove}
use Rattle.rh_otp_model.specs.declared.output.Envelope.{Envelope}
use Rattle.rh_otp_net.specs.Queue.{is_of_pair, first_of_pair}
use Rattle.rh_otp_system.specs.declared.moves.Move.TheVariants as move
use Rattle.rh_otp_system.specs.State.{SystemView}
use Rattle.rh_otp_system.specs.Delivering.{arrived}
use Rattle.rh_otp_system.specs.Moves.{made}
use Rattle.rh_otp_laws.specs.Turns.{arriving}

-- those of the messages that go from the same process to the same process as this one, in their order
abbrev pub of_pair : Envelope → List Envelope → List Envelope
of_pair e messages = filter (is_of_pair e) messages

-- the system without it
abbrev pub without_arriving : ℕ → SystemView → SystemView
without_arriving place s = record s { messages = remove s.messages (first_of_pair s.messages place) }

-- A message is taken out of these, and those are left: it was the first of its pair, and the others stand as they stood.
pub record IsTakenInOrder (e : Envelope) (messages left : List Envelope) : Type 0 where
  pub first : of_pair e messages ≡ e ∷ of_pair e left
  pub others : (f : Envelope) → is_of_pair e f ≡ false → of_pair f messages ≡ of_pair f left

-- A message arrives (`arrived`), the first of its pair, and what is sent meanwhile stands behind what is left.
pub record ArrivesInOrder (place : ℕ) (s t : SystemView) : Type 0 where
  pub message : Envelope
  pub is_there : arriving place s ≡ Some message
  pub in_order : IsTakenInOrder message s.messages (without_arriving place s).messages
  pub received : t ≡ arrived message.to message.message (without_arriving place s)
  pub more : List Envelope
  pub behind : t.messages ≡ (without_arriving place s).messages ++ more

abbrev pub MessagesKeepTheirOrder : Type 0
MessagesKeepTheirOrder = (s : SystemView) (place : ℕ) → place < length s.messages
    → ArrivesInOrder place s (made (move.Deliver place) s)
