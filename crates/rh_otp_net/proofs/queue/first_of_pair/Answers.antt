use Rattle.std.proofs.Common.{◌∙◌, refl, sym}
use Rattle.std.proofs.lemmas.Option.{slice_get_read}
use Rattle.rh_otp_net.proofs.Pairs.{first_is}
use Rattle.rh_otp_net.proofs.queue.first_of_pair.Goals as goal

pub returns-in-Some-place_like-clause-first : goal.returns-in-Some-place_like-clause-first
returns-in-Some-place_like-clause-first c =
    first_is c.args.messages.now c.args.place c.in-Some.message.now _
    (slice_get_read c.args.messages.now _ c.args.place c.in-Some.message.now refl c.in-Some.ensures.lookup.3.0 c.in-Some.ensures.lookup.1)
    (sym c.place_like.ensures.place ∙ c.in-Some-place_like.is)

pub returns-in-None-clause-first : goal.returns-in-None-clause-first
returns-in-None-clause-first c =
    first_is c.args.messages.now c.args.place c.in-Some.message.now _
    (slice_get_read c.args.messages.now _ c.args.place c.in-Some.message.now refl c.in-Some.ensures.lookup.3.0 c.in-Some.ensures.lookup.1)
    (sym c.place_like.ensures.place ∙ c.in-None.is)
