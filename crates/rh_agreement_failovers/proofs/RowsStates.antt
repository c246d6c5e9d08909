-- Three nodes boot one after the other; then all are up, and the application runs at the first one, on both sides.
use Rattle.std.proofs.Common.{◌≡◌, [], ◌∷◌, refl}
use Rattle.rh_model.specs.declared.settings.Restart.TheVariants.{Permanent}
use Rattle.rh_rules.specs.declared.event.Event.TheVariants as event
use Rattle.rh_rules.specs.declared.pick.Pick.TheVariants.{First}
use Rattle.rh_rules.specs.Marking.{mark_all, with_mark}
use Rattle.rh_rules.specs.Moves.{local_moves, placements, takeovers, can_start, calls_away}
use Rattle.rh_rules.specs.NodesStart.{all_alive, is_ready, come_up, come_up_if_ready, ready_come_up, booted}
use Rattle.rh_rules.specs.Placing.{deps_run, is_operational, candidates, best}
use Rattle.rh_rules.specs.Settling.{next_moves, moved_by, all_moved}
use Rattle.rh_rules.specs.Steps.{followed, next}
use Rattle.rh_state.specs.declared.status.Mode.TheVariants as mode
use Rattle.rh_state.specs.declared.status.Standing.TheVariants.{Running}
use Rattle.rh_state.specs.declared.status.Timer.TheVariants.{Sync}
use Rattle.rh_state.specs.First.{first, configured}
use Rattle.rh_state.specs.Numbers.{nodes_of, apps_of}
use Rattle.rh_state.specs.StateView.{StateView}
use Rattle.rh_step.specs.Runs.{step}
use Rattle.rh_agreement_failovers.proofs.RowsTrio.{a, b, c, web, three}

-- ---- by the manual's rules each waits until all are alive, and then they are up

abbrev pub state_one : StateView
state_one = record (first three) {
  modes = mode.Waiting ∷ mode.Down ∷ mode.Down ∷ [];
  incarnations = 1 ∷ 0 ∷ 0 ∷ [];
  timers = (12000, Sync a) ∷ [];
}

abbrev pub state_two : StateView
state_two = record (first three) {
  modes = mode.Waiting ∷ mode.Waiting ∷ mode.Down ∷ [];
  incarnations = 1 ∷ 1 ∷ 0 ∷ [];
  timers = (12000, Sync a) ∷ (12000, Sync b) ∷ [];
}

abbrev pub state_three : StateView
state_three = record (first three) {
  modes = mode.Up ∷ mode.Up ∷ mode.Up ∷ [];
  incarnations = 1 ∷ 1 ∷ 1 ∷ [];
  running = (web ∷ []) ∷ [] ∷ [] ∷ [];
  waiting = [] ∷ (web ∷ []) ∷ (web ∷ []) ∷ [];
  restarts = (Permanent ∷ []) ∷ (Permanent ∷ []) ∷ (Permanent ∷ []) ∷ [];
  standings = Running a ∷ [];
}

pub one_is : step First (first three) (event.Boot a) ≡ state_one
unfolding step next followed booted is_ready all_alive come_up come_up_if_ready ready_come_up mark_all with_mark nodes_of apps_of
    local_moves placements takeovers can_start deps_run configured next_moves moved_by all_moved is_operational candidates best calls_away
one_is = refl

pub two_is : step First state_one (event.Boot b) ≡ state_two
unfolding step next followed booted is_ready all_alive come_up come_up_if_ready ready_come_up mark_all with_mark nodes_of apps_of
    local_moves placements takeovers can_start deps_run configured next_moves moved_by all_moved is_operational candidates best calls_away
two_is = refl

pub three_is : step First state_two (event.Boot c) ≡ state_three
unfolding step next followed booted is_ready all_alive come_up come_up_if_ready ready_come_up mark_all with_mark nodes_of apps_of
    local_moves placements takeovers can_start deps_run configured next_moves moved_by all_moved is_operational candidates best calls_away
three_is = refl
