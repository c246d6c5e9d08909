use Rattle.std.proofs.Common.{ap, sym, ◌∙◌, position}
use Rattle.rh_otp_model.specs.Rows.{is_of}
use Rattle.rh_otp_model.proofs.Places.{stored_there, stored_in_front}
use Rattle.rh_otp_model.proofs.rows.key_store.Goals as goal

pub returns-in-Some : goal.returns-in-Some
returns-in-Some g c =
    stored_there c.args.app c.args.value c.args.rows.now.items c.in-Some.place
    (ap (position (is_of c.args.app)) (sym c.as_slice.ensures.value) ∙ sym c.place_of.ensures ∙ c.in-Some.is)

pub returns-in_ok-insert-in-None : goal.returns-in_ok-insert-in-None
returns-in_ok-insert-in-None g c =
    c.in_ok-insert-in-None.ensures.items
    ∙ stored_in_front c.args.app c.args.value c.args.rows.now.items
    (ap (position (is_of c.args.app)) (sym c.as_slice.ensures.value) ∙ sym c.place_of.ensures ∙ c.in-None.is)
