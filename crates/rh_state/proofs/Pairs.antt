-- Numbers of pairs.
use Rattle.std.proofs.Common.{◌≡◌, ◌+◌, ◌-◌, ◌*◌, ◌<◌, ◌==◌, ℕ, ap, arith}
use Rattle.std.proofs.lemmas.Nat.{mul-add-lt, same_from_place}
use Rattle.rh_model.specs.ClusterView.{ClusterView, node_count, app_count, app_numbered}
use Rattle.rh_model.specs.declared.node.Node.{Node}
use Rattle.rh_model.specs.declared.node.App.{App}
use Rattle.rh_state.specs.Numbers.{same_app}
use Rattle.rh_state.specs.Shape.{IsNodeOf, IsAppOf}
use Rattle.rh_state.specs.Pairs.{pair_number, IsPairOfNode, app_of_pair}
use Rattle.rh_state.proofs.TimerNumbers.{same_number}

-- the number of a pair is one of its node's
pub IsPairOfNode-number : (c : ClusterView) (n : Node) (a : App) → IsAppOf c a → IsPairOfNode c n (pair_number c n a)
IsPairOfNode-number c n a h = (omega arith, omega arith)

-- each pair of the cluster has an entry
pub pair_within : (c : ClusterView) (n : Node) (a : App) → IsNodeOf c n → IsAppOf c a → pair_number c n a < node_count c * app_count c
pair_within c n a node app = omega (arith, mul-add-lt n.0 (app_count c) a.0 (node_count c) node app)

pub IsAppOf-pair : (c : ClusterView) (n : Node) (p : ℕ) → IsPairOfNode c n p → IsAppOf c (app_of_pair c n p)
IsAppOf-pair c n p h = omega (arith, h.0, h.1)

pub app_of_number : (c : ClusterView) (n : Node) (a : App) → app_of_pair c n (pair_number c n a) ≡ a
app_of_number c n a = let e : pair_number c n a - n.0 * app_count c ≡ a.0 = omega arith in ap app_numbered e

-- no number is one of two nodes
pub one_node : (c : ClusterView) (n m : Node) (p : ℕ) → IsPairOfNode c n p → IsPairOfNode c m p → n.0 ≡ m.0
one_node c n m p h k =
    let i = p - n.0 * app_count c in
    let j = p - m.0 * app_count c in
    let both : n.0 * app_count c + i ≡ m.0 * app_count c + j = omega (arith, h.0, k.0) in
    (same_from_place n.0 i m.0 j (app_count c) (omega (arith, h.0, h.1)) (omega (arith, k.0, k.1)) both).0

-- a pair of a node is that of an application exactly if it is the application's
pub same_pair : (c : ClusterView) (n : Node) (a : App) (p : ℕ) → IsPairOfNode c n p → same_app a (app_of_pair c n p) ≡ (p == pair_number c n a)
same_pair c n a p h = same_number a.0 (p - n.0 * app_count c) p (pair_number c n a) (λ e. omega (arith, h.0, e)) (λ e. omega (arith, h.0, e))
