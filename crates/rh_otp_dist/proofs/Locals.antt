-- What runs here, told by a test of all applications, or by their flags.
use Rattle.std.proofs.Common.{◌≡◌, ◌||◌, List, [], ◌∷◌, map, refl, ap}
use Rattle.std.specs.List.{list_any}
use Rattle.rh_otp_model.specs.Flags.{has_any}
use Rattle.rh_otp_dist.specs.declared.state.Appl.{Appl}
use Rattle.rh_otp_dist.specs.Told.{is_local}

pub locals_told : (appls : List Appl)
    → has_any (map (λ (appl : Appl). is_local appl.standing) appls) ≡ list_any (λ (appl : Appl). is_local appl.standing) appls
locals_told [] = refl
locals_told (appl ∷ appls) = ap (λ b. is_local appl.standing || b) (locals_told appls)
