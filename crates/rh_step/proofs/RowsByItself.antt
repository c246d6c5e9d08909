-- What starts of itself behind a command, and what doesn't, computed from the definitions.
use Rattle.std.proofs.Common.{◌≡◌, [], ◌∷◌, None, true, false, refl}
use Rattle.rh_model.specs.declared.settings.Restart.TheVariants.{Permanent, Temporary}
use Rattle.rh_state.specs.declared.status.Kind.TheVariants as kind
use Rattle.rh_state.specs.declared.status.Mode.TheVariants.{Up}
use Rattle.rh_state.specs.declared.status.Standing.TheVariants.{Quiet, Wanted, Running}
use Rattle.rh_state.specs.Numbers.{nodes_of, apps_of}
use Rattle.rh_state.specs.StateView.{StateView}
use Rattle.rh_rules.specs.declared.pick.Pick.TheVariants.{First}
use Rattle.rh_rules.specs.Placing.{deps_run, is_operational, best, candidates}
use Rattle.rh_rules.specs.declared.notice.Notice.TheVariants.{Started, Stopped, Waits}
use Rattle.rh_rules.specs.Moves.{can_start, local_moves, placements, calls_away, takeovers}
use Rattle.rh_rules.specs.Settling.{next_moves, moved_by, all_moved}
use Rattle.rh_rules.specs.NodesStart.{is_ready, come_up_if_ready, ready_come_up}
use Rattle.rh_rules.specs.declared.event.Event.TheVariants.{Start, Stop, Permit, Exit}
use Rattle.rh_rules.specs.Marking.{with_mark}
use Rattle.rh_rules.specs.ByHand.{stopped, forbidden, permitted, exited}
use Rattle.rh_events.proofs.Scene.{p, q, job, twin, aid, scene, none}
use Rattle.rh_rules.specs.Steps.{outcome, followed, next}

-- twin runs at p, and could run at q; what it is there is temporary
abbrev ready_at_q : StateView
ready_at_q = scene (Up ∷ Up ∷ []) ((twin ∷ []) ∷ [] ∷ []) ([] ∷ (twin ∷ []) ∷ []) (Quiet ∷ Running p ∷ Quiet ∷ [])

abbrev quiet_then : StateView
quiet_then = scene (Up ∷ Up ∷ []) none ([] ∷ (twin ∷ []) ∷ []) (Quiet ∷ Quiet ∷ Quiet ∷ [])

-- the same where it is permanent
abbrev permanent : StateView → StateView
permanent s = record s {
  restarts = (Temporary ∷ Permanent ∷ Temporary ∷ Temporary ∷ Temporary ∷ []) ∷ (Temporary ∷ Permanent ∷ Temporary ∷ Temporary ∷ Temporary ∷ []) ∷ [];
}

-- an application that is stopped, or ends by itself, is quiet, and starts at no other node; a stop ends no node, also of a permanent one
stop_row : next (permanent ready_at_q) (Stop p twin) First ≡ outcome (permanent quiet_then) (Stopped twin p ∷ [])
unfolding stopped nodes_of apps_of is_ready come_up_if_ready ready_come_up is_operational deps_run best candidates can_start local_moves placements calls_away
    takeovers next_moves moved_by all_moved followed next
stop_row = refl

exit_row : next ready_at_q (Exit p twin true) First ≡ outcome quiet_then (Stopped twin p ∷ [])
unfolding exited stopped nodes_of apps_of is_ready come_up_if_ready ready_come_up is_operational deps_run best candidates can_start local_moves placements
    calls_away takeovers next_moves moved_by all_moved followed next
exit_row = refl

-- nor does a permission that is given again start it, nor the start of another one
permit_of_a_quiet_one_row : (next quiet_then (Permit q twin true) First).notices ≡ []
unfolding permitted nodes_of apps_of is_ready come_up_if_ready ready_come_up is_operational deps_run best candidates can_start local_moves placements
    calls_away takeovers next_moves moved_by all_moved followed next
permit_of_a_quiet_one_row = refl

start_of_another_row : (next quiet_then (Start q aid Temporary) First).notices ≡ Started aid q kind.Normal None ∷ []
unfolding with_mark nodes_of apps_of is_ready come_up_if_ready ready_come_up is_operational deps_run best candidates can_start local_moves placements
    calls_away takeovers next_moves moved_by all_moved followed next
start_of_another_row = refl

-- a start does, and then it runs where it can: of p and q, which rank alike, at p
start_row : (next quiet_then (Start p twin Temporary) First).notices ≡ Started twin p kind.Normal None ∷ []
unfolding with_mark nodes_of apps_of is_ready come_up_if_ready ready_come_up is_operational deps_run best candidates can_start local_moves placements
    calls_away takeovers next_moves moved_by all_moved followed next
start_row = refl

-- one that is forbidden where it runs moves on, with kind normal and as one that was lost with no node; its old node goes on, also where
-- it is permanent
abbrev moved_on : StateView
moved_on = record (scene (Up ∷ Up ∷ []) ([] ∷ (twin ∷ []) ∷ []) ((twin ∷ []) ∷ [] ∷ []) (Quiet ∷ Running q ∷ Quiet ∷ [])) {
  allowed = (true ∷ false ∷ true ∷ true ∷ true ∷ []) ∷ (true ∷ true ∷ true ∷ true ∷ true ∷ []) ∷ [];
}

forbid_row : next (permanent ready_at_q) (Permit p twin false) First
    ≡ outcome (permanent moved_on) (Stopped twin p ∷ Started twin q kind.Normal None ∷ [])
unfolding permitted forbidden nodes_of apps_of is_ready come_up_if_ready ready_come_up is_operational deps_run best candidates can_start local_moves placements
    calls_away takeovers next_moves moved_by all_moved followed next
forbid_row = refl

-- and nothing pulls it back
permit_row : (next moved_on (Permit p twin true) First).notices ≡ []
unfolding permitted nodes_of apps_of is_ready come_up_if_ready ready_come_up is_operational deps_run best candidates can_start local_moves placements
    calls_away takeovers next_moves moved_by all_moved followed next
permit_row = refl

-- one that no other node can run stays wanted, and starts again as soon as it may
abbrev job_alone : StateView
job_alone = scene (Up ∷ Up ∷ []) ((aid ∷ job ∷ []) ∷ [] ∷ []) ([] ∷ (job ∷ []) ∷ []) (Running p ∷ Quiet ∷ Quiet ∷ [])

forbid_at_the_only_node_row : (next job_alone (Permit p job false) First).state.standings ≡ Wanted None ∷ Quiet ∷ Quiet ∷ []
unfolding permitted forbidden nodes_of apps_of is_ready come_up_if_ready ready_come_up is_operational deps_run best candidates can_start local_moves placements
    calls_away takeovers next_moves moved_by all_moved followed next
forbid_at_the_only_node_row = refl

-- the end of aid stops nothing that needs it; but one that isn't running can't start without it
end_of_a_dependency_row : next job_alone (Stop p aid) First
    ≡ outcome (scene (Up ∷ Up ∷ []) ((job ∷ []) ∷ [] ∷ []) ([] ∷ (job ∷ []) ∷ []) (Running p ∷ Quiet ∷ Quiet ∷ [])) (Stopped aid p ∷ [])
unfolding stopped nodes_of apps_of is_ready come_up_if_ready ready_come_up is_operational deps_run best candidates can_start local_moves placements calls_away
    takeovers next_moves moved_by all_moved followed next
end_of_a_dependency_row = refl

-- a start at a better node is a takeover; a start at a worse one waits
abbrev at_q : StateView
at_q = scene (Up ∷ Up ∷ []) ((aid ∷ []) ∷ (aid ∷ job ∷ []) ∷ []) none (Running q ∷ Quiet ∷ Quiet ∷ [])

start_at_a_better_node_row : (next at_q (Start p job Permanent) First).notices ≡ Started job p (kind.Takeover q) None ∷ Stopped job q ∷ []
unfolding with_mark nodes_of apps_of is_ready come_up_if_ready ready_come_up is_operational deps_run best candidates can_start local_moves placements
    calls_away takeovers next_moves moved_by all_moved followed next
start_at_a_better_node_row = refl

abbrev at_p : StateView
at_p = scene (Up ∷ Up ∷ []) ((aid ∷ job ∷ []) ∷ (aid ∷ []) ∷ []) none (Running p ∷ Quiet ∷ Quiet ∷ [])

start_at_a_worse_node_row : (next at_p (Start q job Permanent) First).notices ≡ Waits job q ∷ []
unfolding with_mark nodes_of apps_of is_ready come_up_if_ready ready_come_up is_operational deps_run best candidates can_start local_moves placements
    calls_away takeovers next_moves moved_by all_moved followed next
start_at_a_worse_node_row = refl
