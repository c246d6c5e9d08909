-- What the processes of a node do in a turn is their node's own.
use Rattle.std.proofs.Common.{ℕ, false, List, Option, Some, None, refl}
use Rattle.std.proofs.lemmas.List.Elements.{All-nil, All-weaker}
use Rattle.rh_model.specs.ClusterView.{ClusterView}
use Rattle.rh_model.specs.declared.node.Node.{Node}
use Rattle.rh_otp_model.specs.declared.message.Message.{Message}
use Rattle.rh_otp_model.specs.Own.{OwnView}
use Rattle.rh_otp_dist.specs.declared.turn.Asked.{Asked}
use Rattle.rh_otp_dist.specs.Received.{next_mail}
use Rattle.rh_otp_dist.specs.State.{DistView, TurnView as DistTurn}
use Rattle.rh_otp_node.specs.Live.{LiveView}
use Rattle.rh_otp_node.specs.Turns.{controller_turn, controlled_by, terminated_by, dist_turn, handled_if, handled_with, handled_by, introduced_with, introduced_by}
use Rattle.rh_otp_orders.proofs.Controlling.{receives, terminates}
use Rattle.rh_otp_orders.proofs.Distributing.{Owned}
use Rattle.rh_otp_orders.proofs.Handling.{handles_next, is_introduced}
use Rattle.rh_otp_orders.proofs.Own.{IsOwn, AreOwn, IsSaid, AreSaid, said_is_own}

handles_if : (n : Node) (place : Option ℕ) (t : DistTurn) → Owned n t → Owned n (handled_if place t)
handles_if n None t g = g
handles_if n (Some place) t g = handles_next n place t g

handled_so : (c : ClusterView) (own : OwnView) (n : Node) (asked : Asked) (v : LiveView) (o : Option DistView)
    → AreOwn n (handled_with c own n asked v o).1
handled_so c own n asked v None = All-nil (IsOwn n)
handled_so c own n asked v (Some d) = (handles_if n (next_mail d) (dist_turn c own n asked v d) (refl, All-nil (IsOwn n))).1

pub handled_own : (c : ClusterView) (own : OwnView) (n : Node) (asked : Asked) (v : LiveView) → AreOwn n (handled_by c own n asked v).1
unfolding handled_by
handled_own c own n asked v = handled_so c own n asked v v.dist

introduced_so : (c : ClusterView) (own : OwnView) (n : Node) (nodes : List Node) (v : LiveView) (o : Option DistView)
    → AreOwn n (introduced_with c own n nodes v o).1
introduced_so c own n nodes v None = All-nil (IsOwn n)
introduced_so c own n nodes v (Some d) =
    (is_introduced n nodes (dist_turn c own n (record { weight = 0; has_lock = false; burns = false }) v d) (refl, All-nil (IsOwn n))).1

pub introduced_own : (c : ClusterView) (own : OwnView) (n : Node) (nodes : List Node) (v : LiveView)
    → AreOwn n (introduced_by c own n nodes v).1
unfolding introduced_by
introduced_own c own n nodes v = introduced_so c own n nodes v v.dist

pub controlled_said : (c : ClusterView) (own : OwnView) (n : Node) (m : Message) (v : LiveView) → AreSaid n (controlled_by c own n m v).1
unfolding controlled_by
controlled_said c own n m v = (receives n m (controller_turn c own n v) (refl, All-nil (IsSaid n))).1

pub controlled_own : (c : ClusterView) (own : OwnView) (n : Node) (m : Message) (v : LiveView) → AreOwn n (controlled_by c own n m v).1
controlled_own c own n m v =
    All-weaker (IsSaid n) (IsOwn n) (said_is_own n) (controlled_by c own n m v).1 (controlled_said c own n m v)

pub terminated_own : (c : ClusterView) (own : OwnView) (n : Node) (v : LiveView) → AreOwn n (terminated_by c own n v).1
unfolding terminated_by
terminated_own c own n v =
    All-weaker (IsSaid n) (IsOwn n) (said_is_own n) (terminated_by c own n v).1
    (terminates n (controller_turn c own n v) (refl, All-nil (IsSaid n))).1
