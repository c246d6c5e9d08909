-- Steps of loops that count up: one less is left.
use Rattle.std.proofs.Common.{◌≡◌, ℕ, suc, Bool, true, false, cond, ◌+◌, ◌-◌, ◌<◌, List, [], ◌∷◌, ◌++◌, Option, Some, refl, sym, ap, ◌∙◌, arith}
use Rattle.rh_model.specs.declared.node.Node.{Node}
use Rattle.rh_otp_net.specs.declared.order.Order.{Order}
use Rattle.rh_otp_net.specs.declared.timers.Timer.{Timer}
use Rattle.rh_otp_net.specs.Order.{next_order}
use Rattle.rh_otp_system.specs.declared.moves.Move.{Move}
use Rattle.rh_otp_system.specs.State.{SystemView}
use Rattle.rh_otp_system.specs.Working.{has_next_at, handled, work_for}
use Rattle.rh_otp_system.specs.Moves.{next_move, made, moved_by, moved, is_quiet_by, is_quiet_behind, settled, is_settled_by}
use Rattle.rh_otp_system.specs.Doing.{fired, all_fired, fired_next, next_until, passed_by, passed, is_past_by, is_past}

-- one less is left
fewer : (most i : ℕ) → i < most → most - i ≡ suc (most - (i + 1))
fewer most i within = omega arith

-- a message of its mailbox more
pub worked_on : (n : Node) (most i : ℕ) (s t u : SystemView) → i < most → work_for (most - i) n s ≡ u → has_next_at s n ≡ true → t ≡ handled n s
    → work_for (most - (i + 1)) n t ≡ u
worked_on n most i s t u within so_far has makes =
    ap (work_for (most - (i + 1)) n) makes ∙ sym (ap (λ (b : Bool). cond b (work_for (most - (i + 1)) n (handled n s)) s) has)
    ∙ sym (ap (λ (k : ℕ). work_for k n s) (fewer most i within)) ∙ so_far

-- a move more
pub moved_on : (most i : ℕ) (o p : Order) (s t u : SystemView) (next : Move) → i < most → moved (most - i) o s ≡ u → next_move o s ≡ Some next
    → p ≡ next_order o → t ≡ made next s → moved (most - (i + 1)) p t ≡ u
moved_on most i o p s t u next within so_far found behind makes =
    ap (λ (q : Order). moved (most - (i + 1)) q t) behind ∙ ap (moved (most - (i + 1)) (next_order o)) makes
    ∙ sym (ap (λ (m : Option Move). moved_by (moved (most - (i + 1)) (next_order o)) m s) found)
    ∙ sym (ap (λ (k : ℕ). moved k o s) (fewer most i within)) ∙ so_far

pub quiet_on : (most i : ℕ) (o p : Order) (s t : SystemView) (b : Bool) (next : Move) → i < most → is_quiet_behind (most - i) o s ≡ b
    → next_move o s ≡ Some next → p ≡ next_order o → t ≡ made next s → is_quiet_behind (most - (i + 1)) p t ≡ b
quiet_on most i o p s t b next within so_far found behind makes =
    ap (λ (q : Order). is_quiet_behind (most - (i + 1)) q t) behind ∙ ap (is_quiet_behind (most - (i + 1)) (next_order o)) makes
    ∙ sym (ap (λ (m : Option Move). is_quiet_by (is_quiet_behind (most - (i + 1)) (next_order o)) m s) found)
    ∙ sym (ap (λ (k : ℕ). is_quiet_behind k o s) (fewer most i within)) ∙ so_far

-- a time more at which timers fire, and all settles
pub passed_on : (times end most i : ℕ) (o : Order) (s t u : SystemView) (due : ℕ) → i < times → passed (times - i) end most o s ≡ u
    → next_until end s ≡ Some due → is_settled_by most o (fired_next due s) ≡ true → t ≡ settled most o (fired_next due s)
    → passed (times - (i + 1)) end most o t ≡ u
passed_on times end most i o s t u due within so_far found quiet makes =
    let rest : SystemView → SystemView = passed (times - (i + 1)) end most o in
    let behind : SystemView = settled most o (fired_next due s) in
    ap rest makes ∙ sym (ap (λ (b : Bool). cond b (rest behind) behind) quiet)
    ∙ sym (ap (λ (d : Option ℕ). passed_by rest most o d s) found)
    ∙ sym (ap (λ (k : ℕ). passed k end most o s) (fewer times i within)) ∙ so_far

pub past_on : (times end most i : ℕ) (o : Order) (s t : SystemView) (b : Bool) (due : ℕ) → i < times → is_past (times - i) end most o s ≡ b
    → next_until end s ≡ Some due → is_settled_by most o (fired_next due s) ≡ true → t ≡ settled most o (fired_next due s)
    → is_past (times - (i + 1)) end most o t ≡ b
past_on times end most i o s t b due within so_far found quiet makes =
    let rest : SystemView → Bool = is_past (times - (i + 1)) end most o in
    ap rest makes ∙ sym (ap (λ (q : Bool). cond q (rest (settled most o (fired_next due s))) false) quiet)
    ∙ sym (ap (λ (d : Option ℕ). is_past_by rest most o d s) found)
    ∙ sym (ap (λ (k : ℕ). is_past k end most o s) (fewer times i within)) ∙ so_far

-- a timer more
pub one_more_timer : (timers : List Timer) (t : Timer) (s : SystemView) → all_fired (timers ++ t ∷ []) s ≡ fired t (all_fired timers s)
one_more_timer [] t s = refl
one_more_timer (u ∷ timers) t s = one_more_timer timers t (fired u s)
