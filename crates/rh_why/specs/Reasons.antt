-- Why an application that is started at a node waits there, and for whom a node that boots waits. The rules behind it are those of
-- rh_rules: what an application needs and where it can run, and when a node is ready (ours for the order).
use Rattle.std.specs.Prelude.{List, [], ◌∷◌, ◌++◌, Bool, true, false, not, ◌&&◌, if◌then◌else◌}
use Rattle.std.specs.Option.{option_map, option_to_list}
use Rattle.rh_model.specs.ClusterView.{ClusterView, is_in}
use Rattle.rh_rules.specs.Prelude.{filter, sync_wait_of, mandatory_of, optional_of, App, Node, SyncWait, Unset, nodes_of, StateView, mode_of, is_alive, is_waiting, is_allowed, waits_at, standing_of, Standing, Wanted, Running, Lost}
use Rattle.rh_state.specs.StateView.{due_of}
use Rattle.rh_state.specs.declared.status.Standing.TheVariants as standing
use Rattle.rh_state.specs.declared.status.Timer.TheVariants.{Failover}
use Rattle.rh_rules.specs.Course.{is_local}
use Rattle.rh_rules.specs.Placing.{missing_dep}
use Rattle.rh_why.specs.declared.reason.Reason.{Reason}
use Rattle.rh_why.specs.declared.reason.Reason.TheVariants.{Needs, Forbidden, RunsAt, LostWith, Quiet}

-- ---- an application at a node
-- the first of its dependencies that doesn't run there (app(4), applications)
abbrev pub lacking : StateView → App → Node → List Reason
lacking s a n = option_to_list (option_map Needs (missing_dep s n a))

-- it may not run there (application(3), permit/2)
abbrev pub forbidding : StateView → App → Node → List Reason
forbidding s a n = if is_allowed s n a then [] else Forbidden ∷ []

-- it runs elsewhere; or it was lost, and waits for its failover timer; or it is to run nowhere. One that is wanted runs at the
-- first node that can run it (Distributed Applications; kernel(6), distributed)
abbrev pub standing_reason : StateView → App → Standing → List Reason
standing_reason s a standing.Quiet = Quiet ∷ []
standing_reason s a (Wanted from) = []
standing_reason s a (Running m) = RunsAt m ∷ []
standing_reason s a (Lost m) = option_to_list (option_map (LostWith m) (due_of s (Failover a)))

-- a local application has no standing
abbrev pub by_standing : StateView → App → List Reason
by_standing s a = if is_local s.cluster a then [] else standing_reason s a (standing_of s a)

-- why an application waits at a node: all that holds, in this order; nothing if it doesn't wait there
unfoldable pub reasons : StateView → App → Node → List Reason
reasons s a n = if waits_at s n a then lacking s a n ++ forbidding s a n ++ by_standing s a else []

-- ---- a node that boots
-- the nodes for which it waits at its start (kernel(6), sync_nodes_mandatory, sync_nodes_optional)
abbrev pub sync_nodes : ClusterView → Node → List Node
sync_nodes c n = mandatory_of c n ++ optional_of c n

-- another node is one of them, and isn't alive
abbrev pub is_awaited : StateView → Node → Node → Bool
is_awaited s n m = is_in m (sync_nodes s.cluster n) && not (is_alive (mode_of s m))

-- without sync_nodes_timeout it waits for nobody
abbrev pub has_sync_wait : SyncWait → Bool
has_sync_wait Unset = false
has_sync_wait _ = true

abbrev pub waits_for_others : StateView → Node → Bool
waits_for_others s n = is_waiting (mode_of s n) && has_sync_wait (sync_wait_of s.cluster n)

-- for whom a node waits, in the order of the file; for nobody if it doesn't wait
unfoldable pub awaited : StateView → Node → List Node
awaited s n = if waits_for_others s n then filter (is_awaited s n) (nodes_of s.cluster) else []
