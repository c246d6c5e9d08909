use Rattle.std.proofs.Common.{ap, sym, ◌∙◌}
use Rattle.std.specs.Option.{option_map}
use Rattle.rh_otp_model.specs.Rows.{is_of}
use Rattle.rh_otp_model.proofs.Places.{found, not_found}
use Rattle.rh_otp_model.proofs.rows.key_find.Goals as goal

pub returns-in_err-place : goal.returns-in_err-place
returns-in_err-place g c = c.from_residual.ensures
    ∙ sym (ap (option_map (λ row. row.1)) (not_found (is_of c.args.app) c.args.rows.now (sym c.place_of.ensures ∙ c.in_err-place.was)))

pub returns : goal.returns
returns g c =
    let found = found (is_of c.args.app) c.args.rows.now c.in_ok-place.place c.index-rows-place.result (sym c.place_of.ensures ∙ c.in_ok-place.was) in
    sym (ap (option_map (λ row. row.1)) found)
