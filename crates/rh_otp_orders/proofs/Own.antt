-- What a process of a node does in a turn is its node's own: it sends from there, and an observer is told of that node.
use Rattle.std.proofs.Common.{◌≡◌, List, All}
use Rattle.rh_model.specs.declared.node.Node.{Node}
use Rattle.rh_otp_model.specs.declared.output.Output.{Output}
use Rattle.rh_otp_model.specs.declared.output.Output.TheVariants as output
use Rattle.rh_otp_orders.specs.Orders.{node_told}
use Rattle.rh_otp_orders.proofs.Same.{Owns}

abbrev pub IsOwn : Node → Output → Type 0
IsOwn n (output.Send e) = e.from.node ≡ n
IsOwn n (output.Tell e) = Owns node_told n e
IsOwn n o = Unit {0}

abbrev pub AreOwn : Node → List Output → Type 0
AreOwn n outputs = All (IsOwn n) outputs

-- it sends a message from the node, or tells of it, and does nothing else
abbrev pub IsSaid : Node → Output → Type 0
IsSaid n (output.Send e) = e.from.node ≡ n
IsSaid n (output.Tell e) = Owns node_told n e
IsSaid n o = ⊥

abbrev pub AreSaid : Node → List Output → Type 0
AreSaid n outputs = All (IsSaid n) outputs

pub said_is_own : (n : Node) (o : Output) → IsSaid n o → IsOwn n o
said_is_own n (output.Send e) said = said
said_is_own n (output.Tell e) said = said
said_is_own n o said = absurd said
