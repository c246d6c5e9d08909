-- What holds of every state that a cluster reaches (Distributed Applications; application(3); kernel(6), sync_nodes; ours).
use Rattle.std.specs.Prelude.{◌≡◌, ◌≤◌, ◌&&◌, [], Bool, true, false, All, AllPairs, is_some}
use Rattle.std.specs.List.Sorted.{IsNonDecreasingBy}
use Rattle.rh_model.specs.ClusterView.{IsWithin, sync_wait_of, is_listed_at}
use Rattle.rh_model.specs.declared.node.Node.{Node}
use Rattle.rh_model.specs.declared.node.App.{App}
use Rattle.rh_model.specs.declared.settings.SyncWait.{SyncWait}
use Rattle.rh_model.specs.declared.settings.SyncWait.TheVariants.{After}
use Rattle.rh_state.specs.declared.status.Standing.TheVariants.{Quiet, Running}
use Rattle.rh_state.specs.declared.status.Timer.TheVariants.{Sync, Failover}
use Rattle.rh_state.specs.First.{configured}
use Rattle.rh_state.specs.Shape.{IsShaped, IsNodeOf, OnceAtEachNode}
use Rattle.rh_state.specs.Standings.{is_lost}
use Rattle.rh_state.specs.Tables.{row}
use Rattle.rh_state.specs.Timers.{same_timer}
use Rattle.rh_state.specs.StateView.{StateView, mode_of, is_up, is_waiting, running_at, waiting_at, runs_at, is_started, standing_of, due_of}
use Rattle.rh_rules.specs.Course.{is_local}
use Rattle.rh_rules.specs.NodesStart.{is_ready}
use Rattle.rh_rules.specs.Settling.{NoneEnabled}

-- at a node that isn't up nothing is started, and its permissions are as configured
pub record IdleUnlessUp (s : StateView) : Type 0 where
  pub running : (n : Node) → is_up (mode_of s n) ≡ false → running_at s n ≡ []
  pub waiting : (n : Node) → is_up (mode_of s n) ≡ false → waiting_at s n ≡ []
  pub permissions : (n : Node) → IsNodeOf s.cluster n → is_up (mode_of s n) ≡ false → row s.allowed n.0 ≡ configured s.cluster n

-- an application is started only where it may be, and a distributed one runs only where it stands as running; a local
-- one is always quiet
pub record StandsWhereItRuns (s : StateView) : Type 0 where
  pub listed : (n : Node) (a : App) → is_started s n a ≡ true → is_listed_at s.cluster a n ≡ true
  pub stands : (n : Node) (a : App) → is_local s.cluster a ≡ false → runs_at s n a ≡ true → standing_of s a ≡ Running n
  pub local : (a : App) → is_local s.cluster a ≡ true → standing_of s a ≡ Quiet

-- and one that stands as running at a node does run there
pub record RunsWhereItStands (s : StateView) : Type 0 where
  pub runs : (a : App) (n : Node) → standing_of s a ≡ Running n → runs_at s n a ≡ true

-- a wait that ends by itself
abbrev pub is_timed : SyncWait → Bool
is_timed (After ms) = true
is_timed _ = false

pub record TimersFit (s : StateView) : Type 0 where
  -- the timers are exactly one for each waiting node whose wait ends by itself, and one for each lost application
  pub sync : (n : Node) → is_some (due_of s (Sync n)) ≡ (is_waiting (mode_of s n) && is_timed (sync_wait_of s.cluster n))
  pub failover : (a : App) → is_some (due_of s (Failover a)) ≡ is_lost (standing_of s a)
  pub once : AllPairs (λ entry later. same_timer entry.1 later.1 ≡ false) s.timers
  -- they are in firing order, and none is due before now
  pub order : IsNonDecreasingBy (λ entry. entry.0) s.timers
  pub due : All (λ entry. s.time ≤ entry.0) s.timers

-- at each moment, also on the way through an event
pub record IsSound (s : StateView) : Type 0 where
  pub within : IsWithin s.cluster
  -- its numbers are those of the cluster, and its lists and tables have their sizes
  pub shaped : IsShaped s
  pub once : OnceAtEachNode s
  pub idle : IdleUnlessUp s
  pub standing : StandsWhereItRuns s
  pub runs : RunsWhereItStands s
  pub timers : TimersFit s

-- before and behind each event
pub record IsValid (s : StateView) : Type 0 where
  -- lists, standings, permissions and timers fit together
  pub sound : IsSound s
  -- no node that waits is ready
  pub settled : (n : Node) → is_ready s n ≡ false
  -- no application moves of itself
  pub still : NoneEnabled s []
