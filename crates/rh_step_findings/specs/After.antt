-- What an event brings about of itself, before any application moves: which nodes come up and end, and what is started and
-- permitted then (Distributed Applications; kernel(6), sync_nodes_mandatory, sync_nodes_optional, sync_nodes_timeout; application(3)).
use Rattle.std.specs.Prelude.{ℕ, Bool, true, false, not, Option, Some, None, nat_le, ◌&&◌, ◌||◌, ◌+◌, ◌++◌, if◌then◌else◌}
use Rattle.rh_rules.specs.Prelude.{list_any, list_all, ClusterView, sync_wait_of, mandatory_of, optional_of, boot_of, App, Node, Restart, SyncWait, Unset, same_node, same_app, StateView, mode_of, is_alive, is_waiting, is_up, is_started, is_allowed, restart_of, Timer, Sync}
use Rattle.rh_rules.specs.declared.event.Event.{Event}
use Rattle.rh_rules.specs.declared.event.Event.TheVariants.{Boot, Crash, Tick, Start, Permit, Exit, StartAll}
use Rattle.rh_state.specs.StateView.{due_of}
use Rattle.rh_rules.specs.NodesStart.{all_alive}
use Rattle.rh_rules.specs.ByHand.{ends_node}
use Rattle.rh_rules.specs.Everywhere.{is_target}

-- the state before a step, and the event
pub record StepView : Type 0 where
  pub state : StateView
  pub event : Event

-- ---- nodes
-- a node is alive, or boots at this step
abbrev pub is_alive_with : StateView → Node → Node → Bool
is_alive_with s booting m = same_node booting m || is_alive (mode_of s m)

-- with that one a node has all for which it waits (kernel(6), sync_nodes_timeout)
abbrev pub has_others_with : StateView → Node → Node → SyncWait → Bool
has_others_with s booting n Unset = true
has_others_with s booting n _ = list_all (is_alive_with s booting) (mandatory_of s.cluster n ++ optional_of s.cluster n)

-- a time has come by this one, if there is one
abbrev pub is_by : ℕ → Option ℕ → Bool
is_by limit None = false
is_by limit (Some due) = nat_le due limit

-- a timer that is set before the step fires within so many milliseconds
abbrev pub fires_within : StateView → ℕ → Timer → Bool
fires_within s ms t = is_by (s.time + ms) (due_of s t)

-- the wait of a node ends within a tick, and its mandatory nodes are alive before that
abbrev pub ends_its_wait : StateView → ℕ → Node → Bool
ends_its_wait s ms n = is_waiting (mode_of s n) && (fires_within s ms (Sync n) && all_alive s (mandatory_of s.cluster n))

-- a node comes up: it boots or waits, and with the one that boots all are alive for which it waits; or its wait ends
-- within the tick
unfoldable pub comes_up : StateView → Event → Node → Bool
comes_up s (Boot m) n = (same_node m n || is_waiting (mode_of s n)) && has_others_with s m n (sync_wait_of s.cluster n)
comes_up s (Tick ms) n = ends_its_wait s ms n
comes_up s _ n = false

-- a node ends: it crashes, or an application ends there, and the node with it (application(3), restart types)
unfoldable pub ends : StateView → Event → Node → Bool
ends s (Crash m) n = same_node m n
ends s (Exit m a normal) n = same_node m n && ends_node (restart_of s n a) normal
ends s _ n = false

-- it is up behind the step
unfoldable pub is_up_after : StateView → Event → Node → Bool
is_up_after s e n = comes_up s e n || (is_up (mode_of s n) && not (ends s e n))

-- ---- applications at nodes
-- a node's boot list has the application
abbrev pub boots : ClusterView → Node → App → Bool
boots c n a = list_any (λ (entry : App × Restart). same_app a entry.0) (boot_of c n)

-- it is started there by hand: by start, or by start_all where it isn't started yet (application(3), start/2)
abbrev pub is_started_by : StateView → Event → Node → App → Bool
is_started_by s (Start m b r) n a = same_node m n && same_app b a
is_started_by s (StartAll b r) n a = same_app b a && is_target s a n
is_started_by s _ n a = false

-- it is started there at this step: by hand, or since the node comes up and boots it
unfoldable pub starts_now : StateView → Event → Node → App → Bool
starts_now s e n a = is_started_by s e n a || (comes_up s e n && boots s.cluster n a)

-- it is started there behind the step
unfoldable pub is_started_after : StateView → Event → Node → App → Bool
is_started_after s e n a = starts_now s e n a || is_started s n a

-- it may run there behind the step (application(3), permit/2)
unfoldable pub is_permitted_after : StateView → Event → Node → App → Bool
is_permitted_after s (Permit m b allow) n a = if same_node m n && same_app b a then allow else is_allowed s n a
is_permitted_after s _ n a = is_allowed s n a
