-- What a live OTP does otherwise at a node with an application: each kind of finding, as what holds of the state before the step and
-- of the event (measured on OTP 25.2.3; docs/LIVE_OTP.md tells each). Each timer that fires within a tick is judged by the state
-- before the tick. Events: a start, a boot, a failover and a permission are tried at nodes (Tries); a permission that is taken, a
-- stop, an exit and a takeover are named in each definition.
use Rattle.std.specs.Prelude.{Bool, false, not, Option, Some, None, is_some, is_none, ◌&&◌, ◌||◌, if◌then◌else◌}
use Rattle.rh_rules.specs.Prelude.{list_any, option_map, has_phases, App, Node, same_node, same_app, nodes_of, StateView, is_quiet, is_started, is_allowed, runs_at, waits_at, standing_of, Standing, Wanted, Lost}
use Rattle.rh_rules.specs.declared.event.Event.{Event}
use Rattle.rh_rules.specs.declared.event.Event.TheVariants.{Stop, Permit, Takeover, Exit}
use Rattle.rh_rules.specs.Course.{is_local}
use Rattle.rh_step_findings.specs.After.{comes_up, ends, boots, is_started_by, starts_now, is_permitted_after}
use Rattle.rh_step_findings.specs.Candidates.{ranks_before, is_in_tuple, is_available, is_best}
use Rattle.rh_step_findings.specs.Tries.{runner, is_called, is_permitted_by, tries, stays, asks_others}
use Rattle.rh_step_findings.specs.Others.{other_so}
use Rattle.rh_step_findings.specs.Lacks.{lacking_so}
use Rattle.rh_step_findings.specs.declared.relation.Relation.TheVariants as relation
use Rattle.rh_step_findings.specs.declared.lack.Lack.TheVariants as lack
use Rattle.rh_step_findings.specs.declared.code.Code.{Code}
use Rattle.rh_step_findings.specs.declared.code.Code.TheVariants as code
use Rattle.rh_step_findings.specs.declared.finding.StepFinding.{StepFinding}
use Rattle.rh_step_findings.specs.declared.finding.StepFinding.TheVariants.{BetterNodeNotStarted, TupleMemberNotStarted, WorseNodeNotStarted, ForbiddenStartWaits, RunsAtAWorseNode, TupleTakeover, BetterNodeWaitsQuiet, PermitStartsQuiet, DependencyForbiddenAtStart, BeforeDependency, ForbidMoves, ForbidOtherNotStarted, StartWithinTime, NobodySawTheLoss, WeightsForEver, OwnEnd, KindAfterLoss, DependencyGone, NeedsADistributedOne, ForbidWithUnlistedNodes, TakeoverNotStarted, LocalForbiddenTwice, LocalStopWhileForbidden}

-- there is a finding of this, if a test holds
abbrev pub with_if : {A : Type 0} → (A → StepFinding) → Bool → Option A → Option StepFinding
with_if told test found = if test then option_map told found else None

-- or of nothing else
abbrev pub alone_if : StepFinding → Bool → Option StepFinding
alone_if told test = if test then Some told else None

-- ---- a start waits for another node
-- it runs behind the best group
unfoldable pub is_behind : StateView → Event → App → Option Node → Bool
is_behind s e a None = false
is_behind s e a (Some r) = not (is_best s e a r)

-- a node that may run it starts it at this step
unfoldable pub is_served : StateView → Event → App → Bool
is_served s e a = list_any (λ m. starts_now s e m a && is_available s e a m) (nodes_of s.cluster)

-- it is tried at a node that may not run it, since it is started there; it runs nowhere, nor is started where it may run
unfoldable pub starts_forbidden : StateView → Event → Node → App → Bool
starts_forbidden s e n a = tries s e n a
    && (not (is_permitted_after s e n a) && (starts_now s e n a && (is_none (runner s e a) && not (is_served s e a))))

-- a node of the best group starts it at this step, and takes it over
unfoldable pub is_regained : StateView → Event → App → Bool
is_regained s e a = list_any (λ m. starts_now s e m a && is_best s e a m) (nodes_of s.cluster)

-- it runs behind the best group and isn't regained, and is tried at an available node that isn't of that group
unfoldable pub starts_below : StateView → Event → Node → App → Bool
starts_below s e n a = tries s e n a
    && ((is_available s e a n && not (is_best s e a n)) && (is_behind s e a (runner s e a) && not (is_regained s e a)))

-- it runs behind the best group, and is tried at a node of that group
unfoldable pub takes_back : StateView → Event → Node → App → Bool
takes_back s e n a = tries s e n a && (is_best s e a n && is_behind s e a (runner s e a))

-- it is stopped, and is started
unfoldable pub starts_quiet : StateView → Event → Node → App → Bool
starts_quiet s e n a = starts_now s e n a && (not (is_local s.cluster a) && is_quiet (standing_of s a))

-- a tuple stands before the node's group
unfoldable pub is_behind_tuple : StateView → App → Node → Bool
is_behind_tuple s a n = list_any (λ m. is_in_tuple s.cluster a m && ranks_before s.cluster a m n) (nodes_of s.cluster)

-- it is placed at a node of the best group, behind a tuple
unfoldable pub is_placed_behind_tuple : StateView → Event → Node → App → Bool
is_placed_behind_tuple s e n a = tries s e n a && (is_best s e a n && (is_none (runner s e a) && is_behind_tuple s a n))

-- ---- permissions
-- it is quiet, and is permitted where it is held ready
unfoldable pub permits_quiet : StateView → Event → Node → App → Bool
permits_quiet s e n a = is_permitted_by s e n a && (not (is_local s.cluster a) && is_quiet (standing_of s a))

-- it is forbidden at a node
unfoldable pub forbids : Event → Node → App → Bool
forbids (Permit m b allow) n a = (same_node m n && same_app b a) && not allow
forbids _ n a = false

-- it is forbidden where it runs
unfoldable pub forbids_runner : StateView → Event → Node → App → Bool
forbids_runner s e n a = forbids e n a && (runs_at s n a && not (is_local s.cluster a))

-- and no other node of its list may run it
unfoldable pub forbids_last : StateView → Event → Node → App → Bool
forbids_last s e n a = forbids_runner s e n a && (is_none (other_so s e relation.Idle n a) && is_none (other_so s e relation.Ready n a))

-- a local one is forbidden where it was started while it was forbidden
unfoldable pub forbids_twice : StateView → Event → Node → App → Bool
forbids_twice s e n a = forbids e n a && (is_local s.cluster a && (waits_at s n a && not (is_allowed s n a)))

-- or stopped there
unfoldable pub stops_forbidden : StateView → Event → Node → App → Bool
stops_forbidden s (Stop m b) n a = (same_node m n && same_app b a) && (is_local s.cluster a && (waits_at s n a && not (is_allowed s n a)))
stops_forbidden s _ n a = false

-- ---- losses
-- a node comes up, and boots it
unfoldable pub boots_now : StateView → Event → Node → App → Bool
boots_now s e n a = comes_up s e n && boots s.cluster n a

-- where it is to run: it is local and permitted, or the node is of the best group, and it doesn't stay where it runs
unfoldable pub boots_to_run : StateView → Event → Node → App → Bool
boots_to_run s e n a = boots_now s e n a
    && ((is_local s.cluster a && is_permitted_after s e n a) || (is_best s e a n && not (stays s e a)))

-- another node with which it was lost
abbrev pub other_node : Node → Node → Option Node
other_node n m = if same_node m n then None else Some m

-- whose time isn't over, and which doesn't start it again at this step
abbrev pub awaited_from : StateView → Event → Node → App → Standing → Option Node
awaited_from s e n a (Lost m) = if starts_now s e m a then None else other_node n m
awaited_from s e n a _ = None

unfoldable pub awaited : StateView → Event → Node → App → Option Node
awaited s e n a = awaited_from s e n a (standing_of s a)

-- or whose time is over
abbrev pub given_up_from : Node → Standing → Option Node
given_up_from n (Wanted (Some m)) = other_node n m
given_up_from n _ = None

unfoldable pub given_up : StateView → Node → App → Option Node
given_up s n a = given_up_from n (standing_of s a)

-- either of them
abbrev pub lost_from : Node → Standing → Option Node
lost_from n (Lost m) = other_node n m
lost_from n (Wanted (Some m)) = other_node n m
lost_from n _ = None

unfoldable pub lost_with : StateView → Node → App → Option Node
lost_with s n a = lost_from n (standing_of s a)

-- it has start phases, and is started or permitted by hand
unfoldable pub is_helped : StateView → Event → Node → App → Bool
is_helped s e n a = has_phases s.cluster a && (is_started_by s e n a || is_permitted_by s e n a)

-- it has start phases, and a node that comes up boots it
unfoldable pub is_booted_with_phases : StateView → Event → Node → App → Bool
is_booted_with_phases s e n a = has_phases s.cluster a && boots_now s e n a

-- it fails over to a node of the best group
unfoldable pub goes_to : StateView → Event → Node → App → Bool
goes_to s e n a = is_called s e n a && is_best s e a n

-- ---- ends and takeovers
-- it ends, and the node with it
unfoldable pub ends_with : StateView → Event → Node → App → Bool
ends_with s (Exit m b normal) n a = same_app b a && (not (is_local s.cluster a) && ends s (Exit m b normal) n)
ends_with s _ n a = false

-- it is moved to a node that doesn't hold it ready
unfoldable pub moves_unready : StateView → Event → Node → App → Bool
moves_unready s (Takeover m b r) n a = (same_node m n && same_app b a) && not (is_started s n a)
moves_unready s _ n a = false

-- ---- each kind
unfoldable pub found : StateView → Event → Code → Node → App → Option StepFinding
found s e code.BetterNodeNotStarted n a = with_if (BetterNodeNotStarted n a) (asks_others s e n a) (other_so s e relation.BetterIdle n a)
found s e code.TupleMemberNotStarted n a = with_if (TupleMemberNotStarted n a) (asks_others s e n a) (other_so s e relation.TupleIdle n a)
found s e code.WorseNodeNotStarted n a = with_if (WorseNodeNotStarted n a) (asks_others s e n a) (other_so s e relation.WorseIdle n a)
found s e code.ForbiddenStartWaits n a = with_if (ForbiddenStartWaits n a) (starts_forbidden s e n a) (other_so s e relation.Idle n a)
found s e code.RunsAtAWorseNode n a = with_if (RunsAtAWorseNode n a) (starts_below s e n a) (runner s e a)
found s e code.TupleTakeover n a = with_if (TupleTakeover n a) (takes_back s e n a) (other_so s e relation.Bystander n a)
found s e code.BetterNodeWaitsQuiet n a = with_if (BetterNodeWaitsQuiet n a) (starts_quiet s e n a) (other_so s e relation.Holder n a)
found s e code.PermitStartsQuiet n a = alone_if (PermitStartsQuiet n a) (permits_quiet s e n a)
found s e code.DependencyForbiddenAtStart n a = with_if (DependencyForbiddenAtStart n a) (boots_now s e n a) (lacking_so s e lack.Forbidden n a)
found s e code.BeforeDependency n a = with_if (BeforeDependency n a) (boots_now s e n a) (lacking_so s e lack.Later n a)
found s e code.ForbidMoves n a =
    with_if (ForbidMoves n a) (forbids_runner s e n a && is_none (other_so s e relation.Idle n a)) (other_so s e relation.Ready n a)
found s e code.ForbidOtherNotStarted n a = with_if (ForbidOtherNotStarted n a) (forbids_runner s e n a) (other_so s e relation.Idle n a)
found s e code.StartWithinTime n a = with_if (StartWithinTime n a) (starts_now s e n a) (awaited s e n a)
found s e code.NobodySawTheLoss n a = with_if (NobodySawTheLoss n a) (is_booted_with_phases s e n a) (given_up s n a)
found s e code.WeightsForEver n a = with_if (WeightsForEver n a) (is_placed_behind_tuple s e n a) (other_so s e relation.Companion n a)
found s e code.OwnEnd n a = alone_if (OwnEnd n a) (ends_with s e n a && is_some (other_so s e relation.Ready n a))
found s e code.KindAfterLoss n a = with_if (KindAfterLoss n a) (is_helped s e n a) (lost_with s n a)
found s e code.DependencyGone n a = with_if (DependencyGone n a) (goes_to s e n a) (lacking_so s e lack.Gone n a)
found s e code.NeedsADistributedOne n a = with_if (NeedsADistributedOne n a) (boots_to_run s e n a) (lacking_so s e lack.Elsewhere n a)
found s e code.ForbidWithUnlistedNodes n a = with_if (ForbidWithUnlistedNodes n a) (forbids_last s e n a) (other_so s e relation.Unlisted n a)
found s e code.TakeoverNotStarted n a = alone_if (TakeoverNotStarted n a) (moves_unready s e n a)
found s e code.LocalForbiddenTwice n a = alone_if (LocalForbiddenTwice n a) (forbids_twice s e n a)
found s e code.LocalStopWhileForbidden n a = alone_if (LocalStopWhileForbidden n a) (stops_forbidden s e n a)
