-- Timers, as a list of due times in firing order (ours).
use Rattle.std.specs.Prelude.{ℕ, ◌+◌, ◌-◌, List, Bool, false, not, find, nat_lt, if◌then◌else◌, Option}
use Rattle.std.specs.List.{filter}
use Rattle.std.specs.Option.{option_map}
use Rattle.rh_model.specs.ClusterView.{ClusterView, node_count, numbered, app_numbered}
use Rattle.rh_state.specs.declared.status.Timer.{Timer}
use Rattle.rh_state.specs.declared.status.Timer.TheVariants.{Sync, Failover}
use Rattle.rh_state.specs.Numbers.{same_node, same_app}

abbrev pub same_timer : Timer → Timer → Bool
same_timer (Sync n) (Sync m) = same_node n m
same_timer (Failover a) (Failover b) = same_app a b
same_timer (Sync n) (Failover b) = false
same_timer (Failover a) (Sync m) = false

-- the entries without that of a timer
abbrev pub without_timer : Timer → List (ℕ × Timer) → List (ℕ × Timer)
without_timer t entries = filter (λ entry. not (same_timer t entry.1)) entries

-- when a timer is due, if it is set
abbrev pub due_among : Timer → List (ℕ × Timer) → Option ℕ
due_among t entries = option_map (λ entry. entry.0) (find (λ entry. same_timer t entry.1) entries)

-- timers are numbered: first the sync timer of each node, then the failover timer of each application
abbrev pub timer_numbered : ClusterView → ℕ → Timer
timer_numbered c k = if nat_lt k (node_count c) then Sync (numbered k) else Failover (app_numbered (k - node_count c))

abbrev pub number_of : ClusterView → Timer → ℕ
number_of c (Sync n) = n.0
number_of c (Failover a) = node_count c + a.0
