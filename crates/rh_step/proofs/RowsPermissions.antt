-- What follows from a permission that is given back, in both profiles, and from a start at nodes that forbid it, computed from the
-- definitions.
use Rattle.std.proofs.Common.{◌≡◌, [], ◌∷◌, None, true, false, List, Bool, refl}
use Rattle.rh_model.specs.declared.node.App.{App}
use Rattle.rh_model.specs.declared.settings.Restart.TheVariants.{Permanent, Temporary}
use Rattle.rh_state.specs.declared.status.Kind.TheVariants as kind
use Rattle.rh_state.specs.declared.status.Mode.TheVariants.{Up}
use Rattle.rh_state.specs.declared.status.Standing.{Standing}
use Rattle.rh_state.specs.declared.status.Standing.TheVariants.{Quiet, Wanted, Running}
use Rattle.rh_state.specs.Numbers.{nodes_of, apps_of}
use Rattle.rh_state.specs.StateView.{StateView}
use Rattle.rh_rules.specs.declared.pick.Pick.TheVariants.{First}
use Rattle.rh_rules.specs.Placing.{deps_run, is_operational, best, candidates}
use Rattle.rh_rules.specs.declared.notice.Notice.TheVariants.{Started, Stopped, Waits}
use Rattle.rh_rules.specs.Moves.{can_start, local_moves, placements, calls_away, takeovers}
use Rattle.rh_rules.specs.Settling.{next_moves, moved_by, all_moved}
use Rattle.rh_rules.specs.NodesStart.{is_ready, come_up_if_ready, ready_come_up}
use Rattle.rh_rules.specs.declared.event.Event.TheVariants.{Start, Permit, StartAll}
use Rattle.rh_rules.specs.Marking.{with_mark}
use Rattle.rh_rules.specs.ByHand.{permitted}
use Rattle.rh_rules.specs.Everywhere.{targets, start_all}
use Rattle.rh_events.proofs.Scene.{p, q, job, twin, aid, scene, in_second, twin_forbidden, none}
use Rattle.rh_rules.specs.Steps.{outcome, followed, next}

-- both nodes are up; what runs, what waits, what is permitted at p, and where job and twin stand
abbrev at_both : List (List App) → List (List App) → List Bool → Standing → Standing → StateView
at_both running waiting at_p job_stands twin_stands = record (scene (Up ∷ Up ∷ []) running waiting (job_stands ∷ twin_stands ∷ Quiet ∷ [])) {
  allowed = at_p ∷ (true ∷ true ∷ true ∷ true ∷ true ∷ []) ∷ [];
}

-- job runs at q and waits at p, which is in an earlier group, and where it may not run
abbrev job_forbidden : StateView
job_forbidden =
    at_both ((aid ∷ []) ∷ (aid ∷ job ∷ []) ∷ []) ((job ∷ []) ∷ [] ∷ []) (false ∷ true ∷ true ∷ true ∷ true ∷ []) (Running q) Quiet

-- in the second profile it is taken back as soon as it may run there again
pulled_back_row : (next (in_second job_forbidden) (Permit p job true) First).notices ≡ Started job p (kind.Takeover q) None ∷ Stopped job q ∷ []
unfolding permitted nodes_of apps_of is_ready come_up_if_ready ready_come_up is_operational deps_run best candidates can_start local_moves placements
    calls_away takeovers next_moves moved_by all_moved followed next
pulled_back_row = refl

pulled_back_state_row : (next (in_second job_forbidden) (Permit p job true) First).state.running ≡ (aid ∷ job ∷ []) ∷ (aid ∷ []) ∷ []
unfolding permitted nodes_of apps_of is_ready come_up_if_ready ready_come_up is_operational deps_run best candidates can_start local_moves placements
    calls_away takeovers next_moves moved_by all_moved followed next
pulled_back_state_row = refl

-- in the first it stays
not_pulled_back_row : (next job_forbidden (Permit p job true) First).notices ≡ []
unfolding permitted nodes_of apps_of is_ready come_up_if_ready ready_come_up is_operational deps_run best candidates can_start local_moves placements
    calls_away takeovers next_moves moved_by all_moved followed next
not_pulled_back_row = refl

-- where it might run there all along, the same permission takes nothing back
abbrev job_allowed : StateView
job_allowed = at_both ((aid ∷ []) ∷ (aid ∷ job ∷ []) ∷ []) ((job ∷ []) ∷ [] ∷ []) (true ∷ true ∷ true ∷ true ∷ true ∷ []) (Running q) Quiet

old_value_row : (next (in_second job_allowed) (Permit p job true) First).notices ≡ []
unfolding permitted nodes_of apps_of is_ready come_up_if_ready ready_come_up is_operational deps_run best candidates can_start local_moves placements
    calls_away takeovers next_moves moved_by all_moved followed next
old_value_row = refl

-- nor where it isn't started there, or lacks what it needs; and no wait is told
abbrev job_off : StateView
job_off = at_both ((aid ∷ []) ∷ (aid ∷ job ∷ []) ∷ []) ([] ∷ [] ∷ []) (false ∷ true ∷ true ∷ true ∷ true ∷ []) (Running q) Quiet

not_started_row : (next (in_second job_off) (Permit p job true) First).notices ≡ []
unfolding permitted nodes_of apps_of is_ready come_up_if_ready ready_come_up is_operational deps_run best candidates can_start local_moves placements
    calls_away takeovers next_moves moved_by all_moved followed next
not_started_row = refl

abbrev job_without_aid : StateView
job_without_aid = at_both ([] ∷ (aid ∷ job ∷ []) ∷ []) ((job ∷ []) ∷ [] ∷ []) (false ∷ true ∷ true ∷ true ∷ true ∷ []) (Running q) Quiet

without_a_dependency_row : (next (in_second job_without_aid) (Permit p job true) First).notices ≡ []
unfolding permitted nodes_of apps_of is_ready come_up_if_ready ready_come_up is_operational deps_run best candidates can_start local_moves placements
    calls_away takeovers next_moves moved_by all_moved followed next
without_a_dependency_row = refl

-- nor from a node of the same group
abbrev twin_at_q : StateView
twin_at_q = at_both ([] ∷ (twin ∷ []) ∷ []) ((twin ∷ []) ∷ [] ∷ []) (true ∷ false ∷ true ∷ true ∷ true ∷ []) Quiet (Running q)

same_group_row : (next (in_second twin_at_q) (Permit p twin true) First).notices ≡ []
unfolding permitted nodes_of apps_of is_ready come_up_if_ready ready_come_up is_operational deps_run best candidates can_start local_moves placements
    calls_away takeovers next_moves moved_by all_moved followed next
same_group_row = refl

-- what a permission freed is fresh in that step alone: when what it needs starts later, it isn't taken back
later_row : (next (next (in_second job_without_aid) (Permit p job true) First).state (Start p aid Temporary) First).notices ≡ Started aid p kind.Normal None ∷ []
unfolding permitted with_mark nodes_of apps_of is_ready come_up_if_ready ready_come_up is_operational deps_run best candidates can_start local_moves placements
    calls_away takeovers next_moves moved_by all_moved followed next
later_row = refl

-- ---- started at all nodes where each of them forbids it, it waits at each; and it runs where one may run it
abbrev permanent_wait : Standing → StateView
permanent_wait stands = record (scene (Up ∷ Up ∷ []) none ((twin ∷ []) ∷ (twin ∷ []) ∷ []) (Quiet ∷ stands ∷ Quiet ∷ [])) {
  restarts = (Temporary ∷ Permanent ∷ Temporary ∷ Temporary ∷ Temporary ∷ []) ∷ (Temporary ∷ Permanent ∷ Temporary ∷ Temporary ∷ Temporary ∷ []) ∷ [];
}

start_all_forbidden_row : next (twin_forbidden (scene (Up ∷ Up ∷ []) none none (Quiet ∷ Quiet ∷ Quiet ∷ []))) (StartAll twin Permanent) First
    ≡ outcome (twin_forbidden (permanent_wait (Wanted None))) (Waits twin p ∷ Waits twin q ∷ [])
unfolding start_all targets with_mark nodes_of apps_of is_ready come_up_if_ready ready_come_up is_operational deps_run best candidates can_start local_moves
    placements calls_away takeovers next_moves moved_by all_moved followed next
start_all_forbidden_row = refl

start_all_forbidden_at_one_row : (next (at_both none none (true ∷ false ∷ true ∷ true ∷ true ∷ []) Quiet Quiet) (StartAll twin Permanent) First).notices
    ≡ Started twin q kind.Normal None ∷ Waits twin p ∷ []
unfolding start_all targets with_mark nodes_of apps_of is_ready come_up_if_ready ready_come_up is_operational deps_run best candidates can_start local_moves
    placements calls_away takeovers next_moves moved_by all_moved followed next
start_all_forbidden_at_one_row = refl
