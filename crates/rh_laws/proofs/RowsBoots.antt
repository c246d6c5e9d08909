-- Worked rows: a node comes up that boots one application, and another one stays quiet.
use Rattle.std.proofs.Common.{◌≡◌, [], ◌∷◌, true, false, None, refl}
use Rattle.rh_state.specs.declared.status.Mode.TheVariants.{Down}
use Rattle.rh_state.specs.declared.status.Standing.TheVariants.{Quiet, Wanted}
use Rattle.rh_state.specs.Numbers.{nodes_of, apps_of}
use Rattle.rh_state.specs.StateView.{StateView, standing_of}
use Rattle.rh_rules.specs.declared.pick.Pick.TheVariants.{First}
use Rattle.rh_rules.specs.Placing.{deps_run, is_operational, best, candidates}
use Rattle.rh_rules.specs.Moves.{can_start, local_moves, placements, calls_away, takeovers}
use Rattle.rh_rules.specs.Settling.{next_moves, moved_by, all_moved}
use Rattle.rh_rules.specs.NodesStart.{all_alive, is_ready, booted, come_up, come_up_if_ready, ready_come_up}
use Rattle.rh_rules.specs.declared.event.Event.TheVariants.{Boot}
use Rattle.rh_rules.specs.Marking.{with_mark, mark_all}
use Rattle.rh_step_laws.specs.Laws.{boots}
use Rattle.rh_rules.specs.Steps.{followed, next}
use Rattle.rh_events.proofs.Scene.{p, job, twin, scene, none}

-- p boots job, and not twin: as it comes up job is to run, and twin stays quiet
abbrev dark : StateView
dark = scene (Down ∷ Down ∷ []) none none (Quiet ∷ Quiet ∷ Quiet ∷ [])

boots_row : boots dark.cluster p job ≡ true
boots_row = refl

boots_no_other_row : boots dark.cluster p twin ≡ false
boots_no_other_row = refl

booted_row : standing_of (next dark (Boot p) First).state job ≡ Wanted None
unfolding booted come_up mark_all with_mark nodes_of apps_of all_alive is_ready come_up_if_ready ready_come_up is_operational deps_run best candidates can_start
    local_moves placements calls_away takeovers next_moves moved_by all_moved followed next
booted_row = refl

not_booted_row : standing_of (next dark (Boot p) First).state twin ≡ Quiet
unfolding booted come_up mark_all with_mark nodes_of apps_of all_alive is_ready come_up_if_ready ready_come_up is_operational deps_run best candidates can_start
    local_moves placements calls_away takeovers next_moves moved_by all_moved followed next
not_booted_row = refl
