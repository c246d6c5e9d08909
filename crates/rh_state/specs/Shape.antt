-- What holds of every state that is kept: each number is one of the cluster's, and each list and table has its size (ours).
use Rattle.std.specs.Prelude.{◌≡◌, ◌≢◌, ◌<◌, ◌≤◌, List, length, true, false, All, AllPairs, Some, None}
use Rattle.rh_model.specs.ClusterView.{ClusterView, node_count, app_count}
use Rattle.rh_model.specs.declared.node.Node.{Node}
use Rattle.rh_model.specs.declared.node.App.{App}
use Rattle.rh_state.specs.declared.status.Kind.{Kind}
use Rattle.rh_state.specs.declared.status.Kind.TheVariants as kind
use Rattle.rh_state.specs.declared.status.Standing.{Standing}
use Rattle.rh_state.specs.declared.status.Standing.TheVariants as standing
use Rattle.rh_state.specs.declared.status.Timer.{Timer}
use Rattle.rh_state.specs.declared.status.Timer.TheVariants.{Sync, Failover}
use Rattle.rh_state.specs.Limits.{time_limit, incarnation_limit}
use Rattle.rh_state.specs.StateView.{StateView, running_at, waiting_at, runs_at, waits_at}

abbrev pub IsNodeOf : ClusterView → Node → Type 0
IsNodeOf c n = n.0 < node_count c

abbrev pub IsAppOf : ClusterView → App → Type 0
IsAppOf c a = a.0 < app_count c

-- the node that a start kind names is one of the cluster's
abbrev pub IsKindOf : ClusterView → Kind → Type 0
IsKindOf c kind.Normal = Unit {0}
IsKindOf c (kind.Failover n) = IsNodeOf c n
IsKindOf c (kind.Takeover n) = IsNodeOf c n

-- the node that a standing names, likewise
abbrev pub IsStandingOf : ClusterView → Standing → Type 0
IsStandingOf c standing.Quiet = Unit {0}
IsStandingOf c (standing.Wanted None) = Unit {0}
IsStandingOf c (standing.Wanted (Some n)) = IsNodeOf c n
IsStandingOf c (standing.Running n) = IsNodeOf c n
IsStandingOf c (standing.Lost n) = IsNodeOf c n

abbrev pub IsTimerOf : ClusterView → Timer → Type 0
IsTimerOf c (Sync n) = IsNodeOf c n
IsTimerOf c (Failover a) = IsAppOf c a

pub record IsShaped (s : StateView) : Type 0 where
  pub time : s.time ≤ time_limit
  pub modes : length s.modes ≡ node_count s.cluster
  pub incarnations : length s.incarnations ≡ node_count s.cluster
  pub limited : All (λ n. n ≤ incarnation_limit) s.incarnations
  pub running : length s.running ≡ node_count s.cluster
  pub waiting : length s.waiting ≡ node_count s.cluster
  pub running_apps : All (λ (apps : List App). All (IsAppOf s.cluster) apps) s.running
  pub waiting_apps : All (λ (apps : List App). All (IsAppOf s.cluster) apps) s.waiting
  pub restarts : length s.restarts ≡ node_count s.cluster
  pub restart_rows : All (λ cells. length cells ≡ app_count s.cluster) s.restarts
  pub kinds : length s.kinds ≡ node_count s.cluster
  pub kind_rows : All (λ cells. length cells ≡ app_count s.cluster) s.kinds
  pub kind_nodes : All (λ (cells : List Kind). All (IsKindOf s.cluster) cells) s.kinds
  pub allowed : length s.allowed ≡ node_count s.cluster
  pub allowed_rows : All (λ cells. length cells ≡ app_count s.cluster) s.allowed
  pub standings : length s.standings ≡ app_count s.cluster
  pub standing_nodes : All (IsStandingOf s.cluster) s.standings

-- no application stands twice at a node
pub record OnceAtEachNode (s : StateView) : Type 0 where
  pub running : (n : Node) → AllPairs (λ (a b : App). a.0 ≢ b.0) (running_at s n)
  pub waiting : (n : Node) → AllPairs (λ (a b : App). a.0 ≢ b.0) (waiting_at s n)
  pub apart : (n : Node) (a : App) → waits_at s n a ≡ true → runs_at s n a ≡ false
