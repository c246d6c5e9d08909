use Rattle.std.proofs.Common.{◌≡◌, ◌∙◌, ap, rules}
use Rattle.std.proofs.lemmas.Fn.{filter_same}
use Rattle.rh_otp_net.specs.Locks.{without_node}
use Rattle.rh_otp_net.proofs.locks.Locks.forget_node.Goals as goal

pub returns : goal.returns
returns c =
    let kept : c.retain.new.self.items ≡ without_node c.args.node c.self.inside.rows.items =
    filter_same _ _ _ (λ x b f' k. search rules) _ _ c.retain.ensures.filtered in
    kept ∙ ap (without_node c.args.node) c.self.view_is
