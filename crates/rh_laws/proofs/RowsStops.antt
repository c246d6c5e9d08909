-- Worked rows: stops at all nodes, and one after the other.
use Rattle.std.proofs.Common.{◌≡◌, [], ◌∷◌, fold, None, refl}
use Rattle.rh_state.specs.declared.status.Mode.TheVariants.{Up}
use Rattle.rh_state.specs.declared.status.Standing.TheVariants.{Quiet, Wanted, Running}
use Rattle.rh_state.specs.Numbers.{nodes_of, apps_of}
use Rattle.rh_state.specs.StateView.{StateView, standing_of}
use Rattle.rh_rules.specs.declared.pick.Pick.TheVariants.{First}
use Rattle.rh_rules.specs.Placing.{deps_run, is_operational, best, candidates}
use Rattle.rh_rules.specs.declared.notice.Notice.TheVariants.{Stopped}
use Rattle.rh_rules.specs.Moves.{can_start, local_moves, placements, calls_away, takeovers}
use Rattle.rh_rules.specs.Settling.{next_moves, moved_by, all_moved}
use Rattle.rh_rules.specs.NodesStart.{is_ready, come_up_if_ready, ready_come_up}
use Rattle.rh_rules.specs.declared.event.Event.TheVariants.{Stop, StopAll}
use Rattle.rh_rules.specs.ByHand.{stopped, is_started_anywhere, left_waiting}
use Rattle.rh_rules.specs.Everywhere.{left_everywhere, stop_all}
use Rattle.rh_rules.specs.Refusals.{refused}
use Rattle.rh_rules.specs.Steps.{outcome, followed, next}
use Rattle.rh_laws.specs.Laws.{started_nodes, stop_next}
use Rattle.rh_events.proofs.Scene.{p, q, job, twin, scene}

-- ---- twin runs at p and waits at q; and job, which aid keeps from running, waits at both
abbrev spread : StateView
spread = scene (Up ∷ Up ∷ []) ((twin ∷ []) ∷ [] ∷ []) ((job ∷ []) ∷ (twin ∷ job ∷ []) ∷ []) (Wanted None ∷ Running p ∷ Quiet ∷ [])

accepted_row : refused spread (StopAll twin) ≡ None
unfolding refused is_started_anywhere nodes_of
accepted_row = refl

nodes_row : started_nodes spread twin ≡ p ∷ q ∷ []
unfolding nodes_of
nodes_row = refl

told_row : (next spread (StopAll twin) First).notices ≡ Stopped twin p ∷ []
unfolding stop_all left_everywhere nodes_of apps_of is_ready come_up_if_ready ready_come_up is_operational deps_run best candidates can_start local_moves
    placements calls_away takeovers next_moves moved_by all_moved followed next
told_row = refl

in_turn_row : fold (stop_next twin First) (outcome spread []) (started_nodes spread twin) ≡ next spread (StopAll twin) First
unfolding stop_all left_everywhere stopped left_waiting nodes_of apps_of is_ready come_up_if_ready ready_come_up is_operational deps_run best candidates
    can_start local_moves placements calls_away takeovers next_moves moved_by all_moved followed next
in_turn_row = refl

-- one that is to run is quiet behind the last of its stops
wanted_row : fold (stop_next job First) (outcome spread []) (started_nodes spread job) ≡ next spread (StopAll job) First
unfolding stop_all left_everywhere stopped left_waiting is_started_anywhere nodes_of apps_of is_ready come_up_if_ready ready_come_up is_operational deps_run
    best candidates can_start local_moves placements calls_away takeovers next_moves moved_by all_moved followed next
wanted_row = refl

still_wanted_row : standing_of (next spread (Stop p job) First).state job ≡ Wanted None
unfolding left_waiting is_started_anywhere nodes_of apps_of is_ready come_up_if_ready ready_come_up is_operational deps_run best candidates can_start local_moves
    placements calls_away takeovers next_moves moved_by all_moved followed next
still_wanted_row = refl

quiet_row : standing_of (next spread (StopAll job) First).state job ≡ Quiet
unfolding stop_all left_everywhere nodes_of apps_of is_ready come_up_if_ready ready_come_up is_operational deps_run best candidates can_start local_moves
    placements calls_away takeovers next_moves moved_by all_moved followed next
quiet_row = refl
