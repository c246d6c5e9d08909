-- What there is on its way behind the end of an application that an operator has called for.
use Rattle.std.proofs.Common.{◌≡◌, ◌≢◌, ℕ, Bool, true, false}
use Rattle.rh_model.specs.declared.node.Node.{Node}
use Rattle.rh_otp_model.specs.declared.fault.Outcome.{Outcome}
use Rattle.rh_otp_model.specs.declared.message.Message.TheVariants as message
use Rattle.rh_otp_model.specs.declared.output.Envelope.{Envelope}
use Rattle.rh_otp_system.specs.declared.calls.Call.{Call}
use Rattle.rh_otp_system.specs.Calling.{is_known}
use Rattle.rh_otp_crashes.proofs.Peace.{here_in}
use Rattle.rh_otp_crashes.proofs.Posting.{posted_to}
use Rattle.rh_otp_stops.proofs.Saying.{it_ended, its_answer}

-- the node's own dist_ac is told by its controller
abbrev pub own_news : (Node → ℕ) → Call → Envelope
own_news lives c = it_ended (here_in lives c.node) c

-- the caller is answered
abbrev pub answer_of : (Node → ℕ) → Call → Outcome → Envelope
answer_of lives c o = its_answer (here_in lives c.node) c o

-- another node's dist_ac is told by this one
abbrev pub news : (Node → ℕ) → Call → Node → Envelope
news lives c m = posted_to lives c.node (message.AppStopped c.app) m

-- all messages are such; the node's own dist_ac is told where it controls the application (`told`)
pub data IsNews (lives : Node → ℕ) (c : Call) (told : Bool) : Envelope → Type 0 where
  ends : told ≡ true → IsNews lives c told (own_news lives c)
  answers : (o : Outcome) → is_known o ≡ false → IsNews lives c told (answer_of lives c o)
  tells : (m : Node) → m.0 ≢ c.node.0 → IsNews lives c told (news lives c m)
