use Rattle.std.proofs.Common.{◌∙◌, ap, nat_lt}
use Rattle.std.proofs.lemmas.List.{get_or-replicate}
use Rattle.rh_model.specs.declared.limits.TheConstants.{MAX_NODES}
use Rattle.rh_place.proofs.Beyond.{is_below}
use Rattle.rh_place.specs.Sets.{NodeBits, has}
use Rattle.rh_otp_net.proofs.Seen.{both}
use Rattle.rh_otp_net.specs.Matrix.{is_apart}
use Rattle.rh_otp_net.proofs.matrix.Matrix.empty.Goals as goal

pub returns : goal.returns
returns c = λ a b inside.
    let two = both (nat_lt a.0 MAX_NODES) (nat_lt b.0 MAX_NODES) inside in
    ap (λ rows. is_apart rows a b) (c.in_ok-vec.ensures.items_if_clones_equal (λ y e. e))
    ∙ ap (λ (s : NodeBits). has s b) (get_or-replicate MAX_NODES a.0 c.all.result (record { bits = 0 }) (is_below a.0 MAX_NODES two.0))
    ∙ c.all.ensures b (is_below b.0 MAX_NODES two.1)
