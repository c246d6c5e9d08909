use Rattle.std.proofs.Common.{◌≡◌, ◌∙◌, ap, rules}
use Rattle.std.proofs.lemmas.Fn.{filter_same}
use Rattle.rh_otp_net.specs.Locks.{freed}
use Rattle.rh_otp_net.proofs.locks.Locks.free.Goals as goal

pub returns : goal.returns
returns c =
    let kept : c.retain.new.self.items ≡ freed c.args.requester c.args.owner c.self.inside.rows.items =
    filter_same _ _ _ (λ x b f' k. search rules) _ _ c.retain.ensures.filtered in
    kept ∙ ap (freed c.args.requester c.args.owner) c.self.view_is
