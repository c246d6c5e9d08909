-- The pairs that coming up marks are the cluster's.
use Rattle.std.proofs.Common.{◌≡◌, refl, sym, ◌∙◌, subst, suc, Bool, true, false, cond, List, [], ◌∷◌, fold, All, arith}
use Rattle.std.proofs.lemmas.List.Elements.{All-push}
use Rattle.rh_model.specs.ClusterView.{ClusterView, IsWithin, boot_of}
use Rattle.rh_model.specs.declared.node.Node.{Node}
use Rattle.rh_model.specs.declared.node.App.{App}
use Rattle.rh_model.specs.declared.settings.Restart.{Restart}
use Rattle.rh_state.specs.Numbers.{nodes_of}
use Rattle.rh_state.specs.Shape.{IsNodeOf, IsAppOf}
use Rattle.rh_rules.specs.declared.notice.Notice.TheVariants as notice
use Rattle.rh_rules.specs.Course.{Course, told, now_in}
use Rattle.rh_trace.specs.Traces.{IsPairOf}
use Rattle.rh_state.specs.StateView.{StateView}
use Rattle.rh_rules.specs.NodesEnd.{ended}
use Rattle.rh_rules.specs.NodesStart.{is_ready, come_up, come_up_if_ready, ready_come_up}
use Rattle.rh_rules.specs.Marking.{pair, mark, mark_booted, mark_all}
use Rattle.rh_events.proofs.SoundComingUp.{up, all_nodes, come_up_if_ready_cluster}

marked_marks : (c : ClusterView) (boot : List (App × Restart)) (o : Course) (n : Node) → IsNodeOf c n → All (λ (e : App × Restart). IsAppOf c e.0) boot
    → All (IsPairOf c) o.marked → All (IsPairOf c) (fold (mark_booted n) o boot).marked
marked_marks c [] o n known apps all = all
marked_marks c (b ∷ boot) o n known apps all = marked_marks c boot (mark o n b.0 b.1) n known (λ k d l. apps (suc k) d (omega arith))
    (All-push (IsPairOf c) o.marked (pair n b.0) all (record { node = known; app = apps 0 b (omega arith) }))

pub marked_come_up : (c : ClusterView) (o : Course) (n : Node) → o.state.cluster ≡ c → IsWithin c → IsNodeOf c n → All (IsPairOf c) o.marked
    → All (IsPairOf c) (come_up o n).marked
unfolding come_up mark_all
marked_come_up c o n is within known all = marked_marks c (boot_of o.state.cluster n) (told (now_in o (up o.state n)) (notice.Up n)) n known
    (subst (λ (v : ClusterView). All (λ (e : App × Restart). IsAppOf c e.0) (boot_of v n)) (sym is) (within.boot n)) all

marked_if_ready : (c : ClusterView) (o : Course) (n : Node) → o.state.cluster ≡ c → IsWithin c → IsNodeOf c n → All (IsPairOf c) o.marked
    → All (IsPairOf c) (come_up_if_ready o n).marked
unfolding come_up_if_ready
marked_if_ready c o n is within known all = by (is_ready o.state n)
  where
    by : (b : Bool) → All (IsPairOf c) (cond b (come_up o n) o).marked
    by true = marked_come_up c o n is within known all
    by false = all

marked_each : (c : ClusterView) (ns : List Node) (o : Course) → o.state.cluster ≡ c → IsWithin c → All (IsNodeOf c) ns → All (IsPairOf c) o.marked
    → All (IsPairOf c) (fold come_up_if_ready o ns).marked
marked_each c [] o is within known all = all
marked_each c (n ∷ ns) o is within known all =
    marked_each c ns (come_up_if_ready o n) (come_up_if_ready_cluster o n ∙ is) within (λ k d l. known (suc k) d (omega arith))
    (marked_if_ready c o n is within (known 0 n (omega arith)) all)

pub marked_ready_come_up : (o : Course) → IsWithin o.state.cluster → All (IsPairOf o.state.cluster) o.marked
    → All (IsPairOf o.state.cluster) (ready_come_up o).marked
unfolding ready_come_up
marked_ready_come_up o within all = marked_each o.state.cluster (nodes_of o.state.cluster) o refl within (all_nodes o.state.cluster) all

-- ---- what leaves the marks as they were
pub none_marked : (s : StateView) → All (IsPairOf s.cluster) []
none_marked s k d l = absurd (omega arith)

pub ended_marked : (o : Course) (n : Node) → (ended o n).marked ≡ o.marked
unfolding ended
ended_marked o n = refl
