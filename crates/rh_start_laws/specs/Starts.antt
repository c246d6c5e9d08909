-- The last node of a cluster begins, for which all others wait: what follows by the rules, and what is told of it, in its order
-- (Starting and Stopping Distributed Applications; kernel(6), sync_nodes_mandatory, sync_nodes_optional, distributed; app(4), applications;
-- ours for the order).
use Rattle.std.specs.Prelude.{◌≡◌, ◌≢◌, ◌<◌, ◌+◌, ◌++◌, ◌==◌, ◌&&◌, List, [], ◌∷◌, All, Bool, true, false, not, map, filter, None, if◌then◌else◌}
use Rattle.std.specs.List.{list_any, flat_map}
use Rattle.rh_base.specs.Lists.{first_given}
use Rattle.rh_model.specs.ClusterView.{ClusterView, node_count, boot_of, deps_of, is_permitted, is_platform}
use Rattle.rh_model.specs.declared.node.App.{App}
use Rattle.rh_model.specs.declared.node.Node.{Node}
use Rattle.rh_model.specs.declared.settings.Dep.{Dep}
use Rattle.rh_model.specs.declared.settings.Dep.TheVariants.{Listed, Platform}
use Rattle.rh_model.specs.declared.settings.Restart.{Restart}
use Rattle.rh_state.specs.declared.status.Kind.TheVariants as kind
use Rattle.rh_state.specs.declared.status.Mode.TheVariants as mode
use Rattle.rh_state.specs.declared.status.Standing.{Standing}
use Rattle.rh_state.specs.declared.status.Standing.TheVariants as standing
use Rattle.rh_state.specs.Numbers.{nodes_of, apps_of, same_app}
use Rattle.rh_state.specs.StateView.{StateView, mode_of, incarnation_of, runs_at, waits_at, standing_of, restart_of}
use Rattle.rh_rules.specs.declared.event.Event.TheVariants as event
use Rattle.rh_rules.specs.declared.notice.Notice.{Notice}
use Rattle.rh_rules.specs.declared.notice.Notice.TheVariants as notice
use Rattle.rh_rules.specs.declared.pick.Pick.{Pick}
use Rattle.rh_rules.specs.Course.{is_local}
use Rattle.rh_rules.specs.Placing.{groups_of}
use Rattle.rh_rules.specs.Refusals.{refused}
use Rattle.rh_rules.specs.Steps.{next}
use Rattle.rh_trace.specs.Validity.{IsValid}
use Rattle.rh_step_laws.specs.Laws.{boots}

-- ---- what the file says

-- what the application needs is one that isn't distributed and stands before it in the boot list, or a name of the platform that the node
-- has (ours)
abbrev pub IsBefore : ClusterView → Node → List App → Dep → Type 0
IsBefore c m before (Listed b) = (list_any (same_app b) before ≡ true) × (is_local c b ≡ true)
IsBefore c m before (Platform p) = is_platform c m p ≡ true

-- Each entry stands behind what it needs, and one that isn't distributed is permitted there (ours).
abbrev pub InOrder : ClusterView → Node → List App → List (App × Restart) → Type 0
InOrder c m before [] = Unit {0}
InOrder c m before (row ∷ rows) = All (IsBefore c m before) (deps_of c row.0)
    × (is_local c row.0 ≡ true → is_permitted c m row.0 ≡ true) × InOrder c m (row.0 ∷ before) rows

-- the node boots the application, and is permitted to run it
abbrev pub may_start : ClusterView → App → Node → Bool
may_start c a x = boots c x a && is_permitted c x a

-- All boot lists are in order; and in the list of each distributed application that is booted there is a group with a node that may start
-- it, and the first such group has one such node alone (Distributed Applications).
pub record StartsInOrder (c : ClusterView) : Type 0 where
  pub in_order : (m : Node) → m.0 < node_count c → InOrder c m [] (boot_of c m)
  pub at : App → Node
  pub first : (m : Node) (a : App) → boots c m a ≡ true → is_local c a ≡ false
      → first_given (filter (may_start c a)) (groups_of c a) ≡ at a ∷ []

-- ---- where the last node begins

-- All other nodes wait, and no application is to run (kernel(6), sync_nodes_mandatory, sync_nodes_optional).
pub record IsLast (s : StateView) (n : Node) : Type 0 where
  pub others : (m : Node) → m.0 < node_count s.cluster → m.0 ≢ n.0 → mode_of s m ≡ mode.Waiting
  pub quiet : (a : App) → standing_of s a ≡ standing.Quiet

-- ---- what follows

-- does it start there? One that is distributed starts at one node alone.
abbrev pub starts_at : ClusterView → (App → Node) → Node → App → Bool
starts_at c at m a = if is_local c a then true else (at a).0 == m.0

-- does some node boot it?
abbrev pub is_booted : ClusterView → App → Bool
is_booted c a = list_any (λ (m : Node). boots c m a) (nodes_of c)

-- what is told of the boot list of a node: its local applications start there, in this order
abbrev pub locals_told : ClusterView → Node → List Notice
locals_told c m = map (λ (row : App × Restart). notice.Started row.0 m kind.Normal None)
    (filter (λ (row : App × Restart). is_local c row.0) (boot_of c m))

-- and then, in the order of applications, each distributed one that is booted starts at its node
abbrev pub spread_told : ClusterView → (App → Node) → List Notice
spread_told c at = map (λ (a : App). notice.Started a (at a) kind.Normal None)
    (filter (λ (a : App). not (is_local c a) && is_booted c a) (apps_of c))

-- and waits at each other one that boots it
abbrev pub waits_told_at : ClusterView → (App → Node) → Node → List Notice
waits_told_at c at m = map (λ (row : App × Restart). notice.Waits row.0 m)
    (filter (λ (row : App × Restart). not (starts_at c at m row.0)) (boot_of c m))

-- all nodes come up, in node order; the local applications start, node by node; then the distributed ones; and then the nodes at which
-- those wait are told (ours for the order)
abbrev pub start_told : ClusterView → (App → Node) → List Notice
start_told c at = map notice.Up (nodes_of c) ++ flat_map (locals_told c) (nodes_of c) ++ spread_told c at
    ++ flat_map (waits_told_at c at) (nodes_of c)

-- where a distributed application stands that is booted
abbrev pub standing_then : ClusterView → (App → Node) → App → Standing
standing_then c at a = if not (is_local c a) && is_booted c a then standing.Running (at a) else standing.Quiet

-- Each node is up. What it boots runs there if it starts there, and else waits there; nothing else does either. Each entry has the restart
-- type of the boot list, and each distributed one that is booted stands as running at its node. This one has begun once more, and no other
-- one; time has not passed, and no timer is set.
pub record HasStarted (s : StateView) (n : Node) (at : App → Node) (t : StateView) : Type 0 where
  pub cluster : t.cluster ≡ s.cluster
  pub time : t.time ≡ s.time
  pub timers : t.timers ≡ []
  pub up : (m : Node) → m.0 < node_count s.cluster → mode_of t m ≡ mode.Up
  pub begun : incarnation_of t n ≡ incarnation_of s n + 1
  pub others : (m : Node) → m.0 ≢ n.0 → incarnation_of t m ≡ incarnation_of s m
  pub runs : (m : Node) (a : App) → m.0 < node_count s.cluster → runs_at t m a ≡ (boots s.cluster m a && starts_at s.cluster at m a)
  pub waits : (m : Node) (a : App) → m.0 < node_count s.cluster → waits_at t m a ≡ (boots s.cluster m a && not (starts_at s.cluster at m a))
  pub restarts : (m : Node) → m.0 < node_count s.cluster → All (λ (row : App × Restart). restart_of t m row.0 ≡ row.1) (boot_of s.cluster m)
  pub standings : (a : App) → standing_of t a ≡ standing_then s.cluster at a

-- So it is behind the boot of the last node, from a valid state in which it isn't refused, whatever breaks a tie; and this is told of it
-- (Starting and Stopping Distributed Applications; kernel(6)).
abbrev pub LastBootsStartAll : Type 0
LastBootsStartAll = (s : StateView) (n : Node) (pick : Pick) → IsValid s → refused s (event.Boot n) ≡ None → (f : StartsInOrder s.cluster)
    → IsLast s n
    → HasStarted s n f.at (next s (event.Boot n) pick).state × ((next s (event.Boot n) pick).notices ≡ start_told s.cluster f.at)
