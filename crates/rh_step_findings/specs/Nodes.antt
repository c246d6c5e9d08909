-- What a live OTP does otherwise where a node comes up (kernel(6), sync_nodes_mandatory, sync_nodes_optional).
use Rattle.std.specs.Prelude.{Bool, false, not, Option, find, is_some, ◌&&◌, ◌||◌}
use Rattle.rh_rules.specs.Prelude.{list_any, ClusterView, group_of, sync_wait_of, boot_of, App, Node, Restart, same_node, nodes_of, StateView, mode_of, is_alive, is_waiting, Sync}
use Rattle.rh_rules.specs.Course.{is_local}
use Rattle.rh_rules.specs.declared.event.Event.{Event}
use Rattle.rh_rules.specs.declared.event.Event.TheVariants.{Boot, Tick}
use Rattle.rh_step_findings.specs.After.{fires_within, comes_up, boots}
use Rattle.rh_step_findings.specs.Candidates.{ranks_before, takes_part, is_in_lists, are_linked}
use Rattle.rh_step_findings.specs.Pairs.{with_if}
use Rattle.rh_step_findings.specs.declared.finding.StepFinding.{StepFinding}
use Rattle.rh_step_findings.specs.declared.finding.StepFinding.TheVariants.{OtherNodeWaits, NotInItsLists}

-- a node boots a distributed application, at which a live boot script waits for other nodes
unfoldable pub boots_spread : ClusterView → Node → Bool
boots_spread c n = list_any (λ (entry : App × Restart). not (is_local c entry.0)) (boot_of c n)

-- two nodes boot an application, and the second one stands no later in its list: by the rules the first one runs it, if it comes up
-- before, until the second one is up; live nodes wait, and start it once
unfoldable pub may_get : ClusterView → Node → Node → Bool
may_get c n m =
    list_any (λ (entry : App × Restart). boots c m entry.0 && (is_some (group_of c entry.0 m) && not (ranks_before c entry.0 n m))) (boot_of c n)

-- another node waits for others as one comes up: it boots or waits, and doesn't come up, too; of those whose waits end within a tick
-- it is one that may get an application of the node
unfoldable pub waits_meanwhile : StateView → Event → Node → Node → Bool
waits_meanwhile s (Boot b) n m = (same_node b m || is_waiting (mode_of s m)) && not (comes_up s (Boot b) m)
waits_meanwhile s (Tick ms) n m = is_waiting (mode_of s m) && (not (fires_within s ms (Sync m)) || may_get s.cluster n m)
waits_meanwhile s _ n m = false

-- so with another node that takes part, and is linked to the one that comes up
unfoldable pub is_left_waiting : StateView → Event → Node → Node → Bool
is_left_waiting s e n m = not (same_node n m) && (waits_meanwhile s e n m && (are_linked s.cluster n m && takes_part s.cluster m))

unfoldable pub other_node_waits : StateView → Event → Node → Option StepFinding
other_node_waits s e n = with_if (OtherNodeWaits n) (comes_up s e n && boots_spread s.cluster n) (find (is_left_waiting s e n) (nodes_of s.cluster))

-- a node boots an application that may run at another one, too
unfoldable pub boots_beside : ClusterView → Node → Node → Bool
boots_beside c n m = list_any (λ (entry : App × Restart). is_some (group_of c entry.0 m)) (boot_of c n)

-- that one is alive, and isn't in the node's lists
unfoldable pub is_overlooked : StateView → Node → Node → Bool
is_overlooked s n m = not (same_node n m)
    && (is_alive (mode_of s m) && (not (is_in_lists s.cluster n m (sync_wait_of s.cluster n)) && boots_beside s.cluster n m))

-- a node comes up as it boots
unfoldable pub boots_up : StateView → Event → Node → Bool
boots_up s (Boot b) n = same_node b n && comes_up s (Boot b) n
boots_up s _ n = false

unfoldable pub not_in_its_lists : StateView → Event → Node → Option StepFinding
not_in_its_lists s e n = with_if (NotInItsLists n) (boots_up s e n) (find (is_overlooked s n) (nodes_of s.cluster))
