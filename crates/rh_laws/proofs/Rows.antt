-- Worked rows: what the laws ask is met, computed from the definitions.
use Rattle.std.proofs.Common.{◌≡◌, [], ◌∷◌, map, true, None, IsSome, refl}
use Rattle.std.specs.Option.{option_map}
use Rattle.rh_model.specs.ClusterView.{AppView, group_of}
use Rattle.rh_model.specs.declared.settings.Spread.{Spread}
use Rattle.rh_model.specs.declared.settings.Restart.TheVariants.{Permanent}
use Rattle.rh_state.specs.declared.status.Kind.TheVariants as kind
use Rattle.rh_state.specs.declared.status.Mode.TheVariants.{Down, Up}
use Rattle.rh_state.specs.declared.status.Standing.TheVariants.{Quiet, Wanted, Running, Lost}
use Rattle.rh_state.specs.declared.status.Timer.TheVariants.{Failover}
use Rattle.rh_state.specs.Numbers.{nodes_of, apps_of}
use Rattle.rh_state.specs.StateView.{StateView, standing_of}
use Rattle.rh_rules.specs.declared.pick.Pick.TheVariants.{First, Last}
use Rattle.rh_rules.specs.Placing.{deps_run, is_operational, best, candidates}
use Rattle.rh_rules.specs.declared.notice.Notice.TheVariants.{Started, Waits}
use Rattle.rh_rules.specs.Moves.{can_start, local_moves, placements, calls_away, takeovers}
use Rattle.rh_rules.specs.Settling.{next_moves, moved_by, all_moved}
use Rattle.rh_rules.specs.NodesStart.{all_alive, is_ready, come_up_if_ready, ready_come_up}
use Rattle.rh_rules.specs.declared.event.Event.TheVariants.{Tick, StartAll}
use Rattle.rh_rules.specs.Marking.{with_mark}
use Rattle.rh_rules.specs.Everywhere.{targets, start_all}
use Rattle.rh_rules.specs.Time.{fired, fired_by, all_fired, ticked}
use Rattle.rh_rules.specs.Steps.{followed, next}
use Rattle.rh_events.proofs.Scene.{p, q, job, twin, aid, scene, none}

-- ---- job was lost with p, and its timer is due at 1000; it waits at q, where aid runs, which it needs
abbrev lost : StateView
lost = record (scene (Down ∷ Up ∷ []) ([] ∷ (aid ∷ []) ∷ []) ([] ∷ (job ∷ []) ∷ []) (Lost p ∷ Quiet ∷ Quiet ∷ [])) { timers = (1000, Failover job) ∷ [] }

listed_row : IsSome (group_of lost.cluster job q)
listed_row = refl

able_row : is_operational (next lost (Tick 1000) First).state job q ≡ true
unfolding nodes_of apps_of all_alive is_ready come_up_if_ready ready_come_up is_operational deps_run best candidates can_start local_moves placements
    calls_away takeovers next_moves moved_by all_moved fired fired_by all_fired ticked next
able_row = refl

runs_again_row : standing_of (next lost (Tick 1000) First).state job ≡ Running q
unfolding nodes_of apps_of all_alive is_ready come_up_if_ready ready_come_up is_operational deps_run best candidates can_start local_moves placements
    calls_away takeovers next_moves moved_by all_moved fired fired_by all_fired ticked next
runs_again_row = refl

-- a tick that doesn't reach its timer leaves it lost, though q could run it: that the tick reaches it is needed
able_before_row : is_operational (next lost (Tick 999) First).state job q ≡ true
unfolding is_operational deps_run fired_by all_fired ticked next
able_before_row = refl

lost_before_row : standing_of (next lost (Tick 999) First).state job ≡ Lost p
unfolding fired_by all_fired ticked next
lost_before_row = refl

-- ---- twin ranks p and q alike: where nothing runs at either, there is a tie, and the picks tell of different nodes
abbrev even : StateView
even = scene (Up ∷ Up ∷ []) none none (Quiet ∷ Quiet ∷ Quiet ∷ [])

tie_first_row : (next even (StartAll twin Permanent) First).notices ≡ Started twin p kind.Normal None ∷ Waits twin q ∷ []
unfolding start_all targets with_mark nodes_of apps_of is_ready come_up_if_ready ready_come_up is_operational deps_run best candidates can_start local_moves
    placements calls_away takeovers next_moves moved_by all_moved followed next
tie_first_row = refl

tie_last_row : (next even (StartAll twin Permanent) Last).notices ≡ Started twin q kind.Normal None ∷ Waits twin p ∷ []
unfolding start_all targets with_mark nodes_of apps_of is_ready come_up_if_ready ready_come_up is_operational deps_run best candidates can_start local_moves
    placements calls_away takeovers next_moves moved_by all_moved followed next
tie_last_row = refl

-- where aid runs at p there is none, and they tell the same
abbrev uneven : StateView
uneven = scene (Up ∷ Up ∷ []) ((aid ∷ []) ∷ [] ∷ []) none (Quiet ∷ Quiet ∷ Quiet ∷ [])

no_tie_row : (next uneven (StartAll twin Permanent) First).notices ≡ (next uneven (StartAll twin Permanent) Last).notices
unfolding start_all targets with_mark nodes_of apps_of is_ready come_up_if_ready ready_come_up is_operational deps_run best candidates can_start local_moves
    placements calls_away takeovers next_moves moved_by all_moved followed next
no_tie_row = refl

-- were p listed before q and behind it, both picks would take p and tell the same, though q is as good: that a group names a node
-- once is needed
abbrev doubled : StateView
doubled = record even {
  cluster = record even.cluster {
    apps = map (λ (v : AppView). record v { spread = option_map (λ (x : Spread). record x { groups = (p ∷ q ∷ p ∷ []) ∷ [] }) v.spread }) even.cluster.apps;
  };
}

doubled_row : (next doubled (StartAll twin Permanent) First).notices ≡ (next doubled (StartAll twin Permanent) Last).notices
unfolding start_all targets with_mark nodes_of apps_of is_ready come_up_if_ready ready_come_up is_operational deps_run best candidates can_start local_moves
    placements calls_away takeovers next_moves moved_by all_moved followed next
doubled_row = refl

doubled_candidates_row : candidates (record doubled { waiting = (twin ∷ []) ∷ (twin ∷ []) ∷ []; standings = Quiet ∷ Wanted None ∷ Quiet ∷ [] }) twin
    ≡ p ∷ q ∷ p ∷ []
unfolding is_operational deps_run best candidates
doubled_candidates_row = refl
