-- What an event's own change leaves as it is: the cluster, the time, and but for boots and ends the modes.
use Rattle.std.proofs.Common.{◌≡◌, ◌+◌, ◌==◌, ◌&&◌, Bool, true, false, cond, not, List, [], ◌∷◌, fold, slice_set, refl, ◌∙◌, Some, None}
use Rattle.rh_model.specs.ClusterView.{sync_wait_of}
use Rattle.rh_model.specs.declared.node.Node.{Node}
use Rattle.rh_model.specs.declared.node.App.{App}
use Rattle.rh_model.specs.declared.settings.Restart.{Restart}
use Rattle.rh_model.specs.declared.settings.SyncWait.{SyncWait}
use Rattle.rh_model.specs.declared.settings.SyncWait.TheVariants.{Unset, After, Forever}
use Rattle.rh_state.specs.declared.status.Mode.TheVariants.{Down, Waiting}
use Rattle.rh_state.specs.declared.status.Standing.{Standing}
use Rattle.rh_state.specs.declared.status.Standing.TheVariants.{Quiet, Wanted, Running, Lost}
use Rattle.rh_state.specs.declared.status.Timer.TheVariants.{Failover}
use Rattle.rh_state.specs.Numbers.{same_node, apps_of}
use Rattle.rh_state.specs.StateView.{StateView, incarnation_of, runs_at, is_allowed, restart_of, standing_of}
use Rattle.rh_state.specs.Setters.{with_mode, with_incarnation, with_allowed, with_standing, with_timer, without_due, unlisted}
use Rattle.rh_rules.specs.Course.{Course, is_local}
use Rattle.rh_rules.specs.Moves.{with_stopped}
use Rattle.rh_rules.specs.Marking.{with_distributed_standing, with_mark}
use Rattle.rh_rules.specs.NodesEnd.{timeout_of, cleared, lost_at, lost_from, lost_if_ran, all_lost, ended}
use Rattle.rh_rules.specs.ByHand.{stopped, is_started_anywhere, quiet_if_nowhere, left_waiting, forbidden, permitted, permission_set, taken_from, taken_over, ends_node, exited}
use Rattle.rh_rules.specs.NodesStart.{with_sync_timer, booted}
use Rattle.rh_events.proofs.Marks.{mark_any}

-- the cluster, the time and what is known of its nodes
pub record SameNodes (s t : StateView) : Type 0 where
  pub cluster : t.cluster ≡ s.cluster
  pub time : t.time ≡ s.time
  pub modes : t.modes ≡ s.modes
  pub incarnations : t.incarnations ≡ s.incarnations

pub same_then : (s t u : StateView) → SameNodes s t → SameNodes t u → SameNodes s u
same_then s t u h k = record {
  cluster = k.cluster ∙ h.cluster;
  time = k.time ∙ h.time;
  modes = k.modes ∙ h.modes;
  incarnations = k.incarnations
      ∙ h.incarnations;
}

-- ---- a node that ends
one_lost_same : (n : Node) (s : StateView) (a : App) → SameNodes s (lost_if_ran n s a)
unfolding lost_if_ran
one_lost_same n s a = by (standing_of s a)
  where
    at : (b : Bool) → SameNodes s (cond b (with_standing s a (Wanted (Some n)))
        (with_timer (with_standing s a (Lost n)) (s.time + timeout_of s.cluster a) (Failover a)))
    at true = record { cluster = refl; time = refl; modes = refl; incarnations = refl }
    at false = record { cluster = refl; time = refl; modes = refl; incarnations = refl }

    there : (b : Bool) → SameNodes s (cond b (lost_at s n a) s)
    there true = at (timeout_of s.cluster a == 0)
    there false = record { cluster = refl; time = refl; modes = refl; incarnations = refl }

    by : (st : Standing) → SameNodes s (lost_from s n a st)
    by (Running m) = there (same_node m n)
    by _ = record { cluster = refl; time = refl; modes = refl; incarnations = refl }

pub each_lost_same : (n : Node) (apps : List App) (s : StateView) → SameNodes s (fold (lost_if_ran n) s apps)
each_lost_same n [] s = record { cluster = refl; time = refl; modes = refl; incarnations = refl }
each_lost_same n (a ∷ apps) s = same_then s (lost_if_ran n s a) (fold (lost_if_ran n) (lost_if_ran n s a) apps) (one_lost_same n s a)
    (each_lost_same n apps (lost_if_ran n s a))

pub ended_cluster : (o : Course) (n : Node) → (ended o n).state.cluster ≡ o.state.cluster
unfolding ended all_lost cleared
ended_cluster o n = (each_lost_same n (apps_of o.state.cluster) (cleared o.state n)).cluster

pub ended_time : (o : Course) (n : Node) → (ended o n).state.time ≡ o.state.time
unfolding ended all_lost cleared
ended_time o n = (each_lost_same n (apps_of o.state.cluster) (cleared o.state n)).time

pub ended_modes : (o : Course) (n : Node) → (ended o n).state.modes ≡ slice_set o.state.modes n.0 Down
unfolding ended all_lost cleared
ended_modes o n = (each_lost_same n (apps_of o.state.cluster) (cleared o.state n)).modes

pub ended_incarnations : (o : Course) (n : Node) → (ended o n).state.incarnations ≡ o.state.incarnations
unfolding ended all_lost cleared
ended_incarnations o n = (each_lost_same n (apps_of o.state.cluster) (cleared o.state n)).incarnations

-- ---- a mark
pub distributed_same : (s t : StateView) (a : App) (st : Standing) → SameNodes s t → SameNodes s (with_distributed_standing t a st)
distributed_same s t a st h = by (is_local t.cluster a)
  where
    by : (b : Bool) → SameNodes s (cond b t (with_standing t a st))
    by true = h
    by false = record { cluster = h.cluster; time = h.time; modes = h.modes; incarnations = h.incarnations }

pub marked_same : (s : StateView) (n : Node) (a : App) (r : Restart) → SameNodes s (with_mark s n a r)
marked_same s n a r = mark_any (SameNodes s) s n a r (λ w restarts st ts. record { cluster = refl; time = refl; modes = refl; incarnations = refl })

-- ---- by hand
pub stopped_same : (o : Course) (n : Node) (a : App) → SameNodes o.state (stopped o n a).state
unfolding stopped
stopped_same o n a = distributed_same o.state (unlisted o.state n a) a Quiet record { cluster = refl; time = refl; modes = refl; incarnations = refl }

pub left_waiting_same : (o : Course) (n : Node) (a : App) → SameNodes o.state (left_waiting o n a).state
unfolding left_waiting
left_waiting_same o n a = by (standing_of o.state a)
  where
    by : (st : Standing) → SameNodes o.state (quiet_if_nowhere (unlisted o.state n a) a st)
    by Quiet = record { cluster = refl; time = refl; modes = refl; incarnations = refl }
    by (Wanted from) = go (is_started_anywhere (unlisted o.state n a) a)
      where
        go : (b : Bool) → SameNodes o.state (cond b (unlisted o.state n a) (with_standing (unlisted o.state n a) a Quiet))
        go true = record { cluster = refl; time = refl; modes = refl; incarnations = refl }
        go false = record { cluster = refl; time = refl; modes = refl; incarnations = refl }
    by (Running m) = record { cluster = refl; time = refl; modes = refl; incarnations = refl }
    by (Lost m) = go (is_started_anywhere (unlisted o.state n a) a)
      where
        go : (b : Bool) → SameNodes o.state (cond b (unlisted o.state n a) (without_due (with_standing (unlisted o.state n a) a Quiet) (Failover a)))
        go true = record { cluster = refl; time = refl; modes = refl; incarnations = refl }
        go false = record { cluster = refl; time = refl; modes = refl; incarnations = refl }

pub permitted_same : (o : Course) (n : Node) (a : App) (allow : Bool) → SameNodes o.state (permitted o n a allow).state
unfolding permitted forbidden
permitted_same o n a allow = by (not allow && (is_allowed o.state n a && runs_at o.state n a))
  where
    by : (b : Bool) → SameNodes o.state (cond b (forbidden o n a) (permission_set o n a allow)).state
    by true = distributed_same o.state (with_stopped (with_allowed o.state n a false) n a) a (Wanted None)
        record { cluster = refl; time = refl; modes = refl; incarnations = refl }
    by false = record { cluster = refl; time = refl; modes = refl; incarnations = refl }

pub taken_over_same : (o : Course) (n : Node) (a : App) (r : Restart) → SameNodes o.state (taken_over o n a r).state
unfolding taken_over
taken_over_same o n a r = by (standing_of o.state a)
  where
    by : (st : Standing) → SameNodes o.state (taken_from o n a r st).state
    by (Running m) = record { cluster = refl; time = refl; modes = refl; incarnations = refl }
    by _ = record { cluster = refl; time = refl; modes = refl; incarnations = refl }

-- ---- the cluster and the time, whatever happens
pub record SameTime (s t : StateView) : Type 0 where
  pub cluster : t.cluster ≡ s.cluster
  pub time : t.time ≡ s.time

pub in_time : (s t : StateView) → SameNodes s t → SameTime s t
in_time s t h = record { cluster = h.cluster; time = h.time }

pub booted_same : (s : StateView) (n : Node) → SameTime s (booted s n)
unfolding booted
booted_same s n = by (sync_wait_of s.cluster n)
  where
    by : (wait : SyncWait) → SameTime s (with_sync_timer (with_mode (with_incarnation s n (incarnation_of s n + 1)) n Waiting) n wait)
    by Unset = record { cluster = refl; time = refl }
    by (After ms) = record { cluster = refl; time = refl }
    by Forever = record { cluster = refl; time = refl }

pub ended_same : (o : Course) (n : Node) → SameTime o.state (ended o n).state
ended_same o n = record { cluster = ended_cluster o n; time = ended_time o n }

pub exited_same : (o : Course) (n : Node) (a : App) (normal : Bool) → SameTime o.state (exited o n a normal).state
unfolding exited
exited_same o n a normal = by (ends_node (restart_of o.state n a) normal)
  where
    by : (b : Bool) → SameTime o.state (cond b (ended o n) (stopped o n a)).state
    by true = ended_same o n
    by false = in_time o.state (stopped o n a).state (stopped_same o n a)
