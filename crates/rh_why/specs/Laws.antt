-- Laws of reasons, in the field's words (Distributed Applications; application(3); app(4), applications; kernel(6); ours).
use Rattle.std.specs.Prelude.{◌≡◌, ◌≢◌, ◌≤◌, ◌↔◌, [], Some, true, false, Contains}
use Rattle.rh_model.specs.ClusterView.{IsWithin, deps_of}
use Rattle.rh_model.specs.declared.node.Node.{Node}
use Rattle.rh_model.specs.declared.node.App.{App}
use Rattle.rh_state.specs.declared.status.Standing.TheVariants as standing
use Rattle.rh_state.specs.declared.status.Timer.TheVariants.{Failover}
use Rattle.rh_state.specs.StateView.{StateView, mode_of, is_waiting, runs_at, waits_at, is_allowed, standing_of, due_of}
use Rattle.rh_rules.specs.Course.{is_local}
use Rattle.rh_rules.specs.NodesStart.{is_ready}
use Rattle.rh_rules.specs.Placing.{dep_runs}
use Rattle.rh_trace.specs.Validity.{IsValid}
use Rattle.rh_why.specs.declared.reason.Reason.{Reason}
use Rattle.rh_why.specs.declared.reason.Reason.TheVariants.{Needs, Forbidden, RunsAt, LostWith, Quiet}
use Rattle.rh_why.specs.Reasons.{reasons, awaited}

-- before and behind each event an application that waits has a reason
abbrev pub WaitingHasReason : Type 0
WaitingHasReason = (s : StateView) (a : App) (n : Node) → IsValid s → waits_at s n a ≡ true → reasons s a n ≢ []

-- what a reason says of an application at a node
abbrev pub IsSo : StateView → App → Node → Reason → Type 0
IsSo s a n (Needs dep) = Contains (deps_of s.cluster a) dep × (dep_runs s n dep ≡ false)
IsSo s a n Forbidden = is_allowed s n a ≡ false
IsSo s a n (RunsAt m) = (runs_at s m a ≡ true) × (m ≢ n)
IsSo s a n (LostWith m due) = (standing_of s a ≡ standing.Lost m) × (due_of s (Failover a) ≡ Some due) × (s.time ≤ due)
IsSo s a n Quiet = (is_local s.cluster a ≡ false) × (standing_of s a ≡ standing.Quiet) × ((m : Node) → runs_at s m a ≡ false)

-- each reason is so, and one that doesn't wait has none
abbrev pub ReasonsAreSo : Type 0
ReasonsAreSo =
    (s : StateView) (a : App) (n : Node) (reason : Reason) → IsValid s → Contains (reasons s a n) reason
    → (waits_at s n a ≡ true) × IsSo s a n reason

-- a node that waits is ready exactly where it awaits nobody (kernel(6), sync_nodes_mandatory, sync_nodes_optional)
abbrev pub ReadyIfNoneAwaited : Type 0
ReadyIfNoneAwaited =
    (s : StateView) (n : Node) → IsWithin s.cluster → is_waiting (mode_of s n) ≡ true → (is_ready s n ≡ true) ↔ (awaited s n ≡ [])

-- so before and behind each event the nodes that wait are those that await somebody
abbrev pub WaitingNodeAwaits : Type 0
WaitingNodeAwaits = (s : StateView) (n : Node) → IsValid s → (is_waiting (mode_of s n) ≡ true) ↔ (awaited s n ≢ [])
