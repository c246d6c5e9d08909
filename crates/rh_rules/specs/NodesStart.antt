-- RULES, "Nodes start": a node boots, waits for others, and comes up when it is ready (kernel(6), sync_nodes_mandatory,
-- sync_nodes_optional, sync_nodes_timeout; ours for boot lists).
use Rattle.std.specs.Prelude.{List, Bool, true, fold, ◌+◌, ◌++◌, ◌&&◌, if◌then◌else◌}
use Rattle.rh_rules.specs.Prelude.{list_all, sync_wait_of, mandatory_of, optional_of, boot_of, Node, SyncWait, After, Unset, nodes_of, with_timer, with_mode, with_incarnation, without_due, StateView, incarnation_of, mode_of, is_alive, is_waiting, Waiting, Up, Sync, Notice}
use Rattle.rh_rules.specs.Course.{Course, told, now_in}
use Rattle.rh_rules.specs.Marking.{mark_all}

-- a node whose wait ends by itself has a timer for that
abbrev pub with_sync_timer : StateView → Node → SyncWait → StateView
with_sync_timer s n (After ms) = with_timer s (s.time + ms) (Sync n)
with_sync_timer s n _ = s

-- a node that boots has one incarnation more, and waits
unfoldable pub booted : StateView → Node → StateView
booted s n = with_sync_timer (with_mode (with_incarnation s n (incarnation_of s n + 1)) n Waiting) n (sync_wait_of s.cluster n)

-- all these nodes are alive at this moment
unfoldable pub all_alive : StateView → List Node → Bool
all_alive s nodes = list_all (λ m. is_alive (mode_of s m)) nodes

-- a node without sync_nodes_timeout waits for no others; else all its mandatory and optional nodes are alive
abbrev pub has_others : StateView → Node → SyncWait → Bool
has_others s n Unset = true
has_others s n _ = all_alive s (mandatory_of s.cluster n ++ optional_of s.cluster n)

-- a node that waits is ready when it need wait for no other (kernel(6), sync_nodes_timeout)
unfoldable pub is_ready : StateView → Node → Bool
is_ready s n = is_waiting (mode_of s n) && has_others s n (sync_wait_of s.cluster n)

-- a node comes up: it waits no longer, and what it boots is marked
unfoldable pub come_up : Course → Node → Course
come_up o n = mark_all (told (now_in o (with_mode (without_due o.state (Sync n)) n Up)) (Notice.Up n)) n (boot_of o.state.cluster n)

-- it does so if it is ready
unfoldable pub come_up_if_ready : Course → Node → Course
come_up_if_ready o n = if is_ready o.state n then come_up o n else o

-- the ready nodes come up, in node order
unfoldable pub ready_come_up : Course → Course
ready_come_up o = fold come_up_if_ready o (nodes_of o.state.cluster)
