-- Worked rows: nodes n1 and n2, and a distributed application, web, which may run at both and waits 5,000 ms for its node; n1 waits 1,000 ms
-- for n2, and doesn't come up without it.
use Rattle.std.proofs.Common.{◌≡◌, ℕ, true, false, Some, None, List, [], ◌∷◌, slice_get, codes, refl, ap, arith}
use Rattle.rh_model.specs.ClusterView.{ClusterView, NodeView, numbered, app_numbered}
use Rattle.rh_model.proofs.PlainNode.{plain_node}
use Rattle.rh_model.specs.declared.node.Node.{Node}
use Rattle.rh_model.specs.declared.node.App.{App}
use Rattle.rh_model.specs.declared.settings.SyncWait.TheVariants.{After}
use Rattle.rh_state.specs.declared.status.Kind.TheVariants as kind
use Rattle.rh_state.specs.declared.status.Mode.TheVariants as mode
use Rattle.rh_state.specs.declared.status.Standing.TheVariants as standing
use Rattle.rh_state.specs.declared.status.Timer.{Timer}
use Rattle.rh_state.specs.declared.status.Timer.TheVariants.{Sync, Failover}
use Rattle.rh_state.specs.First.{first}
use Rattle.rh_state.specs.Limits.{time_limit, incarnation_limit}
use Rattle.rh_state.specs.Numbers.{nodes_of, apps_of}
use Rattle.rh_state.specs.StateView.{StateView}
use Rattle.rh_rules.specs.declared.event.Event.TheVariants.{Boot, Tick}
use Rattle.rh_rules.specs.declared.pick.Pick.TheVariants.{First}
use Rattle.rh_rules.specs.declared.refusal.Refusal.TheVariants.{IncarnationLimit, TimeLimit}
use Rattle.rh_rules.specs.Placing.{deps_run, is_operational, best, candidates}
use Rattle.rh_rules.specs.Moves.{can_start, local_moves, placements, calls_away, takeovers}
use Rattle.rh_rules.specs.Settling.{next_moves, moved_by, all_moved}
use Rattle.rh_rules.specs.NodesStart.{all_alive, is_ready, come_up_if_ready, ready_come_up}
use Rattle.rh_rules.specs.NodesEnd.{cleared, lost_if_ran, all_lost, ended}
use Rattle.rh_rules.specs.Time.{fired, fired_by, all_fired, ticked}
use Rattle.rh_rules.specs.Refusals.{refused}
use Rattle.rh_rules.specs.Steps.{next}
use Rattle.rh_keys.specs.Shifts.{timeless, Alike}

abbrev n1 : Node
n1 = numbered 0

abbrev n2 : Node
n2 = numbered 1

abbrev web : App
web = app_numbered 0

abbrev waits_for : List Node → NodeView
waits_for others = record plain_node { mandatory = others; sync_wait = After 1000; permissions = true ∷ [] }

abbrev cluster : ClusterView
cluster = record {
  profile = 1;
  node_names = codes "n1" ∷ codes "n2" ∷ [];
  app_names = codes "web" ∷ [];
  platform_names = [];
  nodes = waits_for (n2 ∷ []) ∷ waits_for [] ∷ [];
  apps = record { deps = []; start_arg = None; phases = false; spread = Some (record { timeout = 5000; groups = (n1 ∷ []) ∷ (n2 ∷ []) ∷ [] }) } ∷ [];
}

-- ---- web was lost with n1, and n2 waits
abbrev early : StateView
early = record (first cluster) {
  time = 700;
  modes = mode.Down ∷ mode.Waiting ∷ [];
  incarnations = 2 ∷ 1 ∷ [];
  standings = standing.Lost n1 ∷ [];
  timers = (1200, Sync n2) ∷ (5600, Failover web) ∷ [];
}

-- ten seconds later, after other starts
abbrev late : StateView
late = record early {
  time = 10700;
  incarnations = 7 ∷ 9 ∷ [];
  kinds = (kind.Failover n2 ∷ []) ∷ (kind.Takeover n1 ∷ []) ∷ [];
  timers = (11200, Sync n2) ∷ (15600, Failover web) ∷ [];
}

-- with a timer that is due a millisecond later
abbrev slower : StateView
slower = record late { timers = (11200, Sync n2) ∷ (15601, Failover web) ∷ [] }

row_to_go : (timeless early).timers ≡ (500, Sync n2) ∷ (4900, Failover web) ∷ []
row_to_go = refl

row_alike : Alike early late
row_alike = refl

-- how long the timer has to go that is due last
abbrev last_of : List (ℕ × Timer) → ℕ
last_of (x ∷ (y ∷ [])) = y.0
last_of xs = 0

row_not_alike : Alike early slower → ⊥
row_not_alike alike = let h = ap (λ (s : StateView). last_of s.timers) alike in absurd (omega (arith, h))

-- a mode tells them apart, too
row_other_mode : Alike early (record early { modes = mode.Down ∷ mode.Up ∷ [] }) → ⊥
row_other_mode alike = let h = ap (λ (s : StateView). slice_get s.modes 1) alike in absurd (cc h)

-- ---- without what the laws ask they would be wrong
-- web runs at n1, which ends at the end of its wait; one timer is due now, and the other should have been 2 ms ago
abbrev due : StateView
due = record (first cluster) {
  time = 5;
  modes = mode.Up ∷ mode.Down ∷ [];
  running = (web ∷ []) ∷ [] ∷ [];
  standings = standing.Running n1 ∷ [];
  timers = (5, Sync n1) ∷ [];
}

abbrev overdue : StateView
overdue = record due { timers = (3, Sync n1) ∷ [] }

row_overdue_alike : Alike due overdue
row_overdue_alike = refl

row_due : (next due (Tick 1) First).state.timers ≡ (5005, Failover web) ∷ []
unfolding nodes_of apps_of all_alive is_ready come_up_if_ready ready_come_up is_operational deps_run best candidates can_start local_moves placements
    calls_away takeovers next_moves moved_by all_moved cleared lost_if_ran all_lost ended fired fired_by all_fired ticked next
row_due = refl

row_overdue : (next overdue (Tick 1) First).state.timers ≡ (5003, Failover web) ∷ []
unfolding nodes_of apps_of all_alive is_ready come_up_if_ready ready_come_up is_operational deps_run best candidates can_start local_moves placements
    calls_away takeovers next_moves moved_by all_moved cleared lost_if_ran all_lost ended fired fired_by all_fired ticked next
row_overdue = refl

-- a limit of starts or of time, which only one of them has met, refuses an event
row_worn_alike : Alike early (record early { incarnations = incarnation_limit ∷ 1 ∷ [] })
row_worn_alike = refl

row_boots : refused early (Boot n1) ≡ None
unfolding refused
row_boots = refl

row_worn : refused (record early { incarnations = incarnation_limit ∷ 1 ∷ [] }) (Boot n1) ≡ Some IncarnationLimit
unfolding refused
row_worn = refl

row_passes : refused early (Tick 1) ≡ None
unfolding refused
row_passes = refl

row_ended : refused (record early { time = time_limit }) (Tick 1) ≡ Some TimeLimit
unfolding refused
row_ended = refl
