-- What a process has done, one thing more.
use Rattle.std.proofs.Common.{◌≡◌, List, [], ◌∷◌, ◌++◌, refl}
use Rattle.rh_model.specs.declared.node.Node.{Node}
use Rattle.rh_otp_model.specs.declared.output.Output.{Output}
use Rattle.rh_otp_system.specs.State.{SystemView}
use Rattle.rh_otp_system.specs.Outputs.{carried_out, all_carried_out}

pub one_more_output : (n : Node) (outputs : List Output) (o : Output) (s : SystemView)
    → all_carried_out n (outputs ++ o ∷ []) s ≡ carried_out n o (all_carried_out n outputs s)
one_more_output n [] o s = refl
one_more_output n (p ∷ outputs) o s = one_more_output n outputs o (carried_out n p s)
