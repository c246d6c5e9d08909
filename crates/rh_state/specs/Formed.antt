-- What holds of all that a state keeps (ours).
use Rattle.std.specs.Prelude.{◌≡◌, ◌≤◌, ◌+◌, ◌*◌, List, length, All}
use Rattle.rh_model.specs.ClusterView.{ClusterView, node_count, app_count}
use Rattle.rh_model.specs.declared.node.Node.{Node}
use Rattle.rh_arena.specs.Words.{Words, entry_count, list_count}
use Rattle.rh_arena.specs.Lists.{listed}
use Rattle.rh_arena.specs.WellFormed.{IsWellFormed}
use Rattle.rh_wheel.specs.Formed.{IsFormed as IsFormedWheel}
use Rattle.rh_wheel.specs.Stored.{timer_count}
use Rattle.rh_state.specs.declared.status.Kind.{Kind}
use Rattle.rh_state.specs.Limits.{time_limit, incarnation_limit}
use Rattle.rh_state.specs.Shape.{IsNodeOf, IsKindOf, IsStandingOf}
use Rattle.rh_state.specs.Pairs.{IsPairOfNode, running_list, waiting_list}
use Rattle.rh_state.specs.Stored.{Stored}

-- there is an entry for each pair and two lists for each node, and each pair in a list is one of the list's node
pub record AreOfPairs (c : ClusterView) (links : Words) : Type 0 where
  pub formed : IsWellFormed links
  pub entries : entry_count links ≡ node_count c * app_count c
  pub lists : list_count links ≡ 2 * node_count c
  pub running : (n : Node) → IsNodeOf c n → All (IsPairOfNode c n) (listed links (running_list n))
  pub waiting : (n : Node) → IsNodeOf c n → All (IsPairOfNode c n) (listed links (waiting_list c n))

pub record IsFormed (w : Stored) : Type 0 where
  pub time : w.time ≤ time_limit
  pub modes : length w.modes ≡ node_count w.cluster
  pub incarnations : length w.incarnations ≡ node_count w.cluster
  pub limited : All (λ n. n ≤ incarnation_limit) w.incarnations
  pub links : AreOfPairs w.cluster w.links
  pub restarts : length w.restarts ≡ node_count w.cluster
  pub restart_rows : All (λ cells. length cells ≡ app_count w.cluster) w.restarts
  pub kinds : length w.kinds ≡ node_count w.cluster
  pub kind_rows : All (λ cells. length cells ≡ app_count w.cluster) w.kinds
  pub kind_nodes : All (λ (cells : List Kind). All (IsKindOf w.cluster) cells) w.kinds
  pub allowed : length w.allowed ≡ node_count w.cluster
  pub allowed_rows : All (λ cells. length cells ≡ app_count w.cluster) w.allowed
  pub standings : length w.standings ≡ app_count w.cluster
  pub standing_nodes : All (IsStandingOf w.cluster) w.standings
  pub wheel : IsFormedWheel w.wheel
  pub timers : timer_count w.wheel ≡ node_count w.cluster + app_count w.cluster
