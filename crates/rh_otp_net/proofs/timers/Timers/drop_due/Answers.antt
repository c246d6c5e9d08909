use Rattle.std.proofs.Common.{◌≡◌, ◌∙◌, ap, rules}
use Rattle.std.proofs.lemmas.Fn.{filter_same}
use Rattle.rh_otp_net.specs.Timers.{without_due}
use Rattle.rh_otp_net.proofs.timers.Timers.drop_due.Goals as goal

pub returns : goal.returns
returns c =
    let kept : c.retain.new.self.items ≡ without_due c.args.time c.self.inside.timers.items =
    filter_same _ _ _ (λ x b f' k. search rules) _ _ c.retain.ensures.filtered in
    kept ∙ ap (without_due c.args.time) c.self.view_is
