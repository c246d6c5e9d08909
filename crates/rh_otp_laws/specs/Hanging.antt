-- What is settled.
use Rattle.std.specs.Prelude.{◌≡◌, ℕ, []}
use Rattle.rh_otp_system.specs.State.{SystemView}
use Rattle.rh_otp_net.specs.declared.order.Order.{Order}
use Rattle.rh_otp_system.specs.Moves.{IsQuiet, IsSettled, Reaches, settled}

-- Where nothing can move nothing is on its way, and all stays as it is until a command begins: a call that is open, and a dist_ac that
-- stands in the middle of something, stay so. A hang is a fact of the state.
abbrev pub SettledStays : Type 0
SettledStays = (s t : SystemView) → IsSettled s → Reaches s t → IsQuiet s × (t ≡ s)

-- Where nothing can move `settle` changes nothing but that it forgets how often nodes have answered one another.
abbrev pub SettlingAgainChangesNothing : Type 0
SettlingAgainChangesNothing = (most : ℕ) (order : Order) (s : SystemView) → IsSettled s → settled most order s ≡ record s { answers = [] }
