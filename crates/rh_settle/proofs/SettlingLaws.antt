-- What settling by the pick has to do with settling.
use Rattle.std.proofs.Common.{◌≡◌, ℕ, ◌*◌, ◌≤◌, zero, suc, List, [], ◌∷◌, length, Some, None, sym, ap, ◌∙◌, arith, fold}
use Rattle.rh_state.specs.Shape.{IsShaped}
use Rattle.rh_rules.specs.declared.pick.Pick.{Pick}
use Rattle.rh_rules.specs.Placing.{picked}
use Rattle.rh_settle.proofs.Searches.{none_picked, contains_picked}
use Rattle.rh_rules.specs.declared.notice.Move.{Move}
use Rattle.rh_rules.specs.Course.{Course, fresh_of}
use Rattle.rh_rules.specs.Moves.{moved}
use Rattle.rh_rules.specs.Settling.{IsFirst, nexts, NoneEnabled, AreFirst, Settles, pair_count, all_moved, waits_told, settled}
use Rattle.rh_trace.proofs.Points.{points}
use Rattle.rh_trace.proofs.Falls.{falls}
use Rattle.rh_trace.proofs.NextFirsts.{next_are_first, still_if_none_enabled}
use Rattle.rh_trace.proofs.NextMoves.{enabled_progresses}
use Rattle.rh_settle.proofs.Fuel.{state_moved, shaped_on, shaped_next, falls_next, within, unrolled, ended, by_option}

-- each move of a settling takes a point
spent : (o : Course) (ms : List Move) → IsShaped o.state → AreFirst o ms → length ms ≤ points o.state
spent o [] shape h = omega arith
spent o (m ∷ ms) shape h =
    let p = enabled_progresses o.state (fresh_of o) shape m h.0.enabled in
    let f = falls o.state m shape p in
    let g = ap points (state_moved o m) in
    let r = spent (moved o m) ms (shaped_on o m shape p) h.1 in omega arith

-- at most twice as many moves as pairs
pub few_moves : (o p : Course) → IsShaped o.state → (s : Settles o p) → length s.moves ≤ 2 * pair_count o.state.cluster
few_moves o p shape s = let h = spent o s.moves shape s.are_first in let w = within o.state in omega arith

-- what the pick takes of the next moves goes before all others, and where it takes none, none is enabled
comes_first : (o : Course) (pick : Pick) (m : Move) → picked pick (nexts o) ≡ Some m → IsFirst o.state (fresh_of o) m
comes_first o pick m e = (next_are_first o.state (fresh_of o) m).0 (contains_picked pick (nexts o) m e)

none_left : (o : Course) (pick : Pick) → picked pick (nexts o) ≡ None → NoneEnabled o.state (fresh_of o)
none_left o pick e = (still_if_none_enabled o.state (fresh_of o)).0 (none_picked pick (nexts o) e)

-- settling where each tie goes to the pick makes first moves
by_pick : (pick : Pick) (n : ℕ) (o : Course) → IsShaped o.state → points o.state ≤ n → (ms : List Move) × AreFirst o ms × (fold moved o ms ≡ all_moved pick o)
by_pick pick zero o shape h = by_option (picked pick (nexts o))
    (λ e. ([], none_left o pick e, sym (ended pick o e)))
    (λ m e. let f = falls_next o pick m shape e in absurd (omega arith))
by_pick pick (suc n) o shape h = by_option (picked pick (nexts o))
    (λ e. ([], none_left o pick e, sym (ended pick o e)))
    (λ m e. let f = falls_next o pick m shape e in
    let r = by_pick pick n (moved o m) (shaped_next o pick m shape e) (omega arith) in
    (m ∷ r.0, (comes_first o pick m e, r.1), r.2 ∙ sym (unrolled pick o m shape e)))

-- so it is one of those that settle
pub settles_by_pick : (pick : Pick) (o : Course) → IsShaped o.state → Settles o (settled pick o)
settles_by_pick pick o shape =
    let r = by_pick pick (points o.state) o shape (omega arith) in
    record { moves = r.0; are_first = r.1; outcome = ap waits_told (sym r.2) }
