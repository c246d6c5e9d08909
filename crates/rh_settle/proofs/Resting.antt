-- An application that is quiet or lost stays so while applications settle.
use Rattle.std.proofs.Common.{◌≡◌, ◌||◌, ℕ, ◌*◌, zero, suc, Bool, true, false, List, refl, ap, ◌∙◌, slice_get, slice_set, unwrap_or}
use Rattle.std.specs.List.{Contains}
use Rattle.rh_model.specs.declared.node.App.{App}
use Rattle.rh_state.specs.declared.status.Standing.{Standing}
use Rattle.rh_state.specs.declared.status.Standing.TheVariants.{Quiet, Wanted, Running}
use Rattle.rh_state.specs.Standings.{is_quiet, is_lost}
use Rattle.rh_state.specs.StateView.{StateView, standing_of}
use Rattle.rh_rules.specs.declared.pick.Pick.{Pick}
use Rattle.rh_rules.specs.Placing.{picked}
use Rattle.rh_rules.specs.declared.notice.Move.{Move}
use Rattle.rh_rules.specs.declared.notice.Move.TheVariants.{Local, Placement, Takeover}
use Rattle.rh_rules.specs.declared.notice.Pair.{Pair}
use Rattle.rh_rules.specs.Course.{Course, fresh_of}
use Rattle.rh_rules.specs.Moves.{moved, moved_state}
use Rattle.rh_rules.specs.Settling.{IsEnabled, nexts, after_move, moved_by, pair_count, all_moved, settled}
use Rattle.rh_settle.proofs.Fuel.{state_moved, by_option}
use Rattle.rh_settle.proofs.Searches.{contains_picked}
use Rattle.rh_trace.proofs.NextFirsts.{next_are_first}
use Rattle.rh_trace.proofs.Places.{at_set}
use Rattle.rh_base.proofs.Truths.{both}
use Rattle.rh_settle.proofs.Unchanged.{waits_told_state}

-- neither to be placed nor to be taken over
abbrev pub rests : Standing → Bool
rests st = is_quiet st || is_lost st

abbrev stands : List Standing → App → Standing
stands standings a = unwrap_or (slice_get standings a.0) Quiet

-- where one that doesn't rest is given another standing, one that rests stays as it stands
pub set_beside : (standings : List Standing) (a b : App) (st new : Standing) → rests (stands standings a) ≡ true → stands standings b ≡ st → rests st ≡ false
    → stands (slice_set standings b.0 new) a ≡ stands standings a
set_beside standings a b st new r is moves = at_set standings b.0 a.0 new Quiet
    (λ same. same)
    (λ here v. absurd (both (rests (stands standings a)) r (ap rests (ap (λ k. unwrap_or (slice_get standings k) Quiet) here ∙ is) ∙ moves)))

-- a move that is enabled moves none that rests
moved_rests : (s : StateView) (fresh : List Pair) (m : Move) (a : App) → rests (standing_of s a) ≡ true → IsEnabled s fresh m
    → standing_of (moved_state s m) a ≡ standing_of s a
moved_rests s fresh (Local n b) a r h = refl
moved_rests s fresh (Placement b from n) a r h = set_beside s.standings a b (Wanted from) (Running n) r h.1 refl
moved_rests s fresh (Takeover b m n) a r h = set_beside s.standings a b (Running m) (Running n) r h.1 refl

step_rests : (o : Course) (m : Move) (a : App) → rests (standing_of o.state a) ≡ true → Contains (nexts o) m
    → standing_of (moved o m).state a ≡ standing_of o.state a
step_rests o m a r h =
    ap (λ s. standing_of s a) (state_moved o m) ∙ moved_rests o.state (fresh_of o) m a r ((next_are_first o.state (fresh_of o) m).0 h).enabled

moves_rest : (pick : Pick) (k : ℕ) (o : Course) (a : App) → rests (standing_of o.state a) ≡ true
    → standing_of (moved_by pick k o).state a ≡ standing_of o.state a
unfolding moved_by
moves_rest pick zero o a r = refl
moves_rest pick (suc k) o a r = by_option (picked pick (nexts o))
    (λ e. ap (λ next. standing_of (after_move o next (moved_by pick k)).state a) e)
    (λ m e. let step = step_rests o m a r (contains_picked pick (nexts o) m e) in
    ap (λ next. standing_of (after_move o next (moved_by pick k)).state a) e
    ∙ moves_rest pick k (moved o m) a (ap rests step ∙ r)
    ∙ step)

pub settled_rests : (pick : Pick) (o : Course) (a : App) → rests (standing_of o.state a) ≡ true
    → standing_of (settled pick o).state a ≡ standing_of o.state a
unfolding all_moved
settled_rests pick o a r =
    ap (λ s. standing_of s a) (waits_told_state (all_moved pick o)) ∙ moves_rest pick (2 * pair_count o.state.cluster) o a r
