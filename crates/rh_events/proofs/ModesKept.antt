-- What boots and coming up do to the modes.
use Rattle.std.proofs.Common.{◌≡◌, ◌+◌, List, [], ◌∷◌, fold, slice_set, refl, ◌∙◌}
use Rattle.rh_model.specs.ClusterView.{sync_wait_of, boot_of}
use Rattle.rh_model.specs.declared.node.Node.{Node}
use Rattle.rh_model.specs.declared.node.App.{App}
use Rattle.rh_model.specs.declared.settings.Restart.{Restart}
use Rattle.rh_model.specs.declared.settings.SyncWait.{SyncWait}
use Rattle.rh_model.specs.declared.settings.SyncWait.TheVariants.{Unset, After, Forever}
use Rattle.rh_state.specs.declared.status.Mode.TheVariants.{Waiting, Up}
use Rattle.rh_state.specs.declared.status.Timer.TheVariants.{Sync}
use Rattle.rh_state.specs.StateView.{StateView, incarnation_of}
use Rattle.rh_state.specs.Setters.{with_mode, with_incarnation, without_due}
use Rattle.rh_rules.specs.declared.notice.Notice.TheVariants as notice
use Rattle.rh_rules.specs.Course.{Course, told, now_in}
use Rattle.rh_rules.specs.Marking.{mark, mark_booted, mark_all}
use Rattle.rh_rules.specs.NodesStart.{come_up, with_sync_timer, booted}
use Rattle.rh_events.proofs.Fields.{marked_same}

marks_modes : (n : Node) (boot : List (App × Restart)) (o : Course) → (fold (mark_booted n) o boot).state.modes ≡ o.state.modes
marks_modes n [] o = refl
marks_modes n (b ∷ boot) o = marks_modes n boot (mark o n b.0 b.1) ∙ (marked_same o.state n b.0 b.1).modes

-- a node that comes up is up, and the others are as they were
pub come_up_modes : (o : Course) (n : Node) → (come_up o n).state.modes ≡ slice_set o.state.modes n.0 Up
unfolding come_up mark_all
come_up_modes o n = marks_modes n (boot_of o.state.cluster n) (told (now_in o (with_mode (without_due o.state (Sync n)) n Up)) (notice.Up n))

-- a node that boots waits
pub booted_modes : (s : StateView) (n : Node) → (booted s n).modes ≡ slice_set s.modes n.0 Waiting
unfolding booted
booted_modes s n = by (with_mode (with_incarnation s n (incarnation_of s n + 1)) n Waiting) (sync_wait_of s.cluster n)
  where
    by : (t : StateView) (wait : SyncWait) → (with_sync_timer t n wait).modes ≡ t.modes
    by t Unset = refl
    by t (After ms) = refl
    by t Forever = refl
