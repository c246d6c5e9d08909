-- Messages on their way (ours: erlang keeps the order of the messages from one process to another).
use Rattle.std.specs.Prelude.{ℕ, ◌&&◌, Bool, List, Option, Some, None, position, slice_get, take, unwrap_or}
use Rattle.rh_otp_model.specs.declared.output.Envelope.{Envelope}
use Rattle.rh_otp_net.specs.Alike.{is_process}

-- does the second message go from the same process to the same process as the first?
abbrev pub is_of_pair : Envelope → Envelope → Bool
is_of_pair e f = is_process e.from f.from && is_process e.to f.to

-- the first of these of the same pair as a message, else this place
abbrev pub first_like : Option Envelope → ℕ → List Envelope → ℕ
first_like None place messages = place
first_like (Some e) place messages = unwrap_or (position (is_of_pair e) messages) place

-- the first message of the same pair as the one at this place
abbrev pub first_of_pair : List Envelope → ℕ → ℕ
first_of_pair messages place = first_like (slice_get messages place) place (take place messages)
