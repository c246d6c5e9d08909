-- What a move names is the cluster's.
use Rattle.std.proofs.Common.{[], ◌∷◌, All}
use Rattle.std.proofs.lemmas.List.Elements.{All-cons, All-nil}
use Rattle.rh_state.specs.Shape.{IsNodeOf, IsAppOf}
use Rattle.rh_state.specs.StateView.{StateView}
use Rattle.rh_rules.specs.declared.notice.Move.{Move}
use Rattle.rh_rules.specs.declared.notice.Move.TheVariants.{Local, Placement, Takeover}
use Rattle.rh_settle.specs.Boards.{nodes_changed, mover}
use Rattle.rh_trace.specs.Making.{CanBeMade}

-- the application that a move moves is the cluster's
pub moved_app : (s : StateView) (m : Move) → CanBeMade s m → IsAppOf s.cluster (mover m)
moved_app s (Local n a) h = h.app
moved_app s (Placement a from n) h = h.0.app
moved_app s (Takeover a m n) h = h.0.app

-- the nodes whose lists a move changes are the cluster's
pub changed_nodes : (s : StateView) (m : Move) → CanBeMade s m → All (IsNodeOf s.cluster) (nodes_changed m)
changed_nodes s (Local n a) h = All-cons (IsNodeOf s.cluster) n [] h.node (All-nil (IsNodeOf s.cluster))
changed_nodes s (Placement a from n) h = All-cons (IsNodeOf s.cluster) n [] h.0.node (All-nil (IsNodeOf s.cluster))
changed_nodes s (Takeover a m n) h =
    All-cons (IsNodeOf s.cluster) n (m ∷ []) h.0.node (All-cons (IsNodeOf s.cluster) m [] h.1.node (All-nil (IsNodeOf s.cluster)))
