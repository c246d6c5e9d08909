use Rattle.std.proofs.Common.{◌≡◌, ◌&&◌, true, not, drop}
use Rattle.rh_model.specs.declared.node.Node.{Node}
use Rattle.rh_otp_net.specs.Links.{are_linked}
use Rattle.rh_otp_net.specs.Matrix.{is_inside, is_apart}
use Rattle.rh_otp_net.proofs.matrix.Matrix.of.Given as goal

abbrev pub invariant-loop-link : goal.invariant-loop-link
invariant-loop-link l = (a b : Node) → is_inside a b ≡ true
    → (is_apart l.matrix a b && not (are_linked a b (drop l.link-index l.links))) ≡ not (are_linked a b l.links)
