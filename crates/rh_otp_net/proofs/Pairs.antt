-- The first message of a pair, from what a search among those in front has found.
use Rattle.std.proofs.Common.{◌≡◌, ◌∙◌, ℕ, List, Option, Some, ap, sym, take, slice_get, position, unwrap_or}
use Rattle.rh_otp_model.specs.declared.output.Envelope.{Envelope}
use Rattle.rh_otp_net.specs.Queue.{is_of_pair, first_like, first_of_pair}

pub first_is : (messages : List Envelope) (place : ℕ) (e : Envelope) (found : Option ℕ)
    → slice_get messages place ≡ Some e → position (is_of_pair e) (take place messages) ≡ found
    → unwrap_or found place ≡ first_of_pair messages place
first_is messages place e found there is =
    sym (ap (λ (o : Option Envelope). first_like o place (take place messages)) there ∙ ap (λ (o : Option ℕ). unwrap_or o place) is)
