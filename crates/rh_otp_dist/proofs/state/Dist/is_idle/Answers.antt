use Rattle.std.proofs.Common.{◌≡◌, List, not, ap, sym, ◌∙◌}
use Rattle.std.specs.List.{list_any}
use Rattle.rh_otp_dist.specs.declared.state.Appl.{Appl}
use Rattle.rh_otp_dist.specs.State.{DistView}
use Rattle.rh_otp_dist.specs.Told.{is_local}
use Rattle.rh_otp_dist.proofs.Locals.{locals_told}
use Rattle.rh_otp_dist.proofs.state.Dist.is_idle.Goals as goal

pub returns : goal.returns
returns c =
    let appls : c.as_slice.result.now ≡ c.args.self.now.appls = c.as_slice.ensures.value ∙ ap (λ (d : DistView). d.appls) c.self.view_is in
    ap not
    (c.has_local.ensures ∙ ap (λ (xs : List Appl). list_any (λ (appl : Appl). is_local appl.standing) xs) appls
    ∙ sym (locals_told c.args.self.now.appls))
