-- Earlier notices don't matter to what an event changes.
use Rattle.std.proofs.Common.{◌≡◌, Bool, true, false, cond, not, ◌&&◌, List, refl, ap, ◌∙◌, None}
use Rattle.rh_model.specs.ClusterView.{boot_of}
use Rattle.rh_model.specs.declared.node.Node.{Node}
use Rattle.rh_model.specs.declared.node.App.{App}
use Rattle.rh_model.specs.declared.settings.Restart.{Restart}
use Rattle.rh_state.specs.declared.status.Mode.TheVariants.{Up}
use Rattle.rh_state.specs.declared.status.Standing.{Standing}
use Rattle.rh_state.specs.declared.status.Standing.TheVariants.{Quiet, Wanted, Running}
use Rattle.rh_state.specs.declared.status.Timer.TheVariants.{Sync}
use Rattle.rh_state.specs.Numbers.{nodes_of}
use Rattle.rh_state.specs.StateView.{runs_at, is_allowed, restart_of, standing_of}
use Rattle.rh_state.specs.Setters.{with_mode, with_allowed, with_restart, without_due, unlisted}
use Rattle.rh_rules.specs.declared.notice.Move.TheVariants as move
use Rattle.rh_rules.specs.declared.notice.Notice.{Notice}
use Rattle.rh_rules.specs.declared.notice.Notice.TheVariants as notice
use Rattle.rh_rules.specs.Course.{Course, told, now_in}
use Rattle.rh_rules.specs.Moves.{with_stopped}
use Rattle.rh_trace.proofs.Behind.{after_notices, told_after, fold_after, moved_after}
use Rattle.rh_rules.specs.NodesStart.{is_ready, come_up, come_up_if_ready, ready_come_up}
use Rattle.rh_rules.specs.Marking.{with_distributed_standing, mark, mark_booted, mark_all}
use Rattle.rh_rules.specs.NodesEnd.{cleared, all_lost, ended}
use Rattle.rh_rules.specs.ByHand.{stopped, left_waiting, forbidden, permitted, permission_set, taken_from, taken_over, ends_node, exited}

-- ---- marks, and nodes that come up
pub mark_after : (base : List Notice) (o : Course) (n : Node) (a : App) (r : Restart) → mark (after_notices base o) n a r ≡ after_notices base (mark o n a r)
mark_after base o n a r = refl

pub mark_all_after : (base : List Notice) (o : Course) (n : Node) (boot : List (App × Restart))
    → mark_all (after_notices base o) n boot ≡ after_notices base (mark_all o n boot)
unfolding mark_all
mark_all_after base o n boot = fold_after base (mark_booted n) (λ p booted. refl) o boot

pub come_up_after : (base : List Notice) (o : Course) (n : Node) → come_up (after_notices base o) n ≡ after_notices base (come_up o n)
unfolding come_up
come_up_after base o n =
    let p : Course = now_in o (with_mode (without_due o.state (Sync n)) n Up) in
    ap (λ (q : Course). mark_all q n (boot_of o.state.cluster n)) (told_after base p (notice.Up n))
    ∙ mark_all_after base (told p (notice.Up n)) n (boot_of o.state.cluster n)

pub come_up_if_ready_after : (base : List Notice) (o : Course) (n : Node) → come_up_if_ready (after_notices base o) n
    ≡ after_notices base (come_up_if_ready o n)
unfolding come_up_if_ready
come_up_if_ready_after base o n = by (is_ready o.state n)
  where
    by : (b : Bool) → cond b (come_up (after_notices base o) n) (after_notices base o) ≡ after_notices base (cond b (come_up o n) o)
    by true = come_up_after base o n
    by false = refl

pub ready_come_up_after : (base : List Notice) (o : Course) → ready_come_up (after_notices base o) ≡ after_notices base (ready_come_up o)
unfolding ready_come_up
ready_come_up_after base o = fold_after base come_up_if_ready (come_up_if_ready_after base) o (nodes_of o.state.cluster)

-- ---- a node that ends
pub ended_after : (base : List Notice) (o : Course) (n : Node) → ended (after_notices base o) n ≡ after_notices base (ended o n)
unfolding ended
ended_after base o n = told_after base (now_in o (all_lost (cleared o.state n) n)) (notice.Ended n)

-- ---- by hand
pub stopped_after : (base : List Notice) (o : Course) (n : Node) (a : App) → stopped (after_notices base o) n a ≡ after_notices base (stopped o n a)
unfolding stopped
stopped_after base o n a = told_after base (now_in o (with_distributed_standing (unlisted o.state n a) a Quiet)) (notice.Stopped a n)

pub left_waiting_after : (base : List Notice) (o : Course) (n : Node) (a : App) → left_waiting (after_notices base o) n a
    ≡ after_notices base (left_waiting o n a)
unfolding left_waiting
left_waiting_after base o n a = refl

forbidden_after : (base : List Notice) (o : Course) (n : Node) (a : App) → forbidden (after_notices base o) n a ≡ after_notices base (forbidden o n a)
unfolding forbidden
forbidden_after base o n a = told_after base (now_in o (with_distributed_standing (with_stopped (with_allowed o.state n a false) n a) a (Wanted None)))
    (notice.Stopped a n)

pub permitted_after : (base : List Notice) (o : Course) (n : Node) (a : App) (allow : Bool)
    → permitted (after_notices base o) n a allow ≡ after_notices base (permitted o n a allow)
unfolding permitted
permitted_after base o n a allow = by (not allow && (is_allowed o.state n a && runs_at o.state n a))
  where
    by : (b : Bool) → cond b (forbidden (after_notices base o) n a) (permission_set (after_notices base o) n a allow)
        ≡ after_notices base (cond b (forbidden o n a) (permission_set o n a allow))
    by true = forbidden_after base o n a
    by false = refl

pub taken_over_after : (base : List Notice) (o : Course) (n : Node) (a : App) (r : Restart)
    → taken_over (after_notices base o) n a r ≡ after_notices base (taken_over o n a r)
unfolding taken_over
taken_over_after base o n a r = by (standing_of o.state a)
  where
    by : (st : Standing) → taken_from (after_notices base o) n a r st ≡ after_notices base (taken_from o n a r st)
    by (Running m) = moved_after base (now_in o (with_restart o.state n a r)) (move.Takeover a m n)
    by _ = refl

pub exited_after : (base : List Notice) (o : Course) (n : Node) (a : App) (normal : Bool)
    → exited (after_notices base o) n a normal ≡ after_notices base (exited o n a normal)
unfolding exited
exited_after base o n a normal = by (ends_node (restart_of o.state n a) normal)
  where
    by : (b : Bool) → cond b (ended (after_notices base o) n) (stopped (after_notices base o) n a) ≡ after_notices base (cond b (ended o n) (stopped o n a))
    by true = ended_after base o n
    by false = stopped_after base o n a
