-- Where a command comes to an end nothing is on its way.
use Rattle.std.proofs.Common.{◌≡◌, ℕ, zero, suc, Bool, true, false, cond, Option, Some, None, refl}
use Rattle.std.proofs.lemmas.Bool.{false≢true}
use Rattle.rh_otp_net.specs.declared.order.Order.{Order}
use Rattle.rh_otp_system.specs.Doing.{fired_next, next_until, passed_by, passed, is_past_by, is_past, ticked_behind, ticked, is_ticked}
use Rattle.rh_otp_system.specs.Moves.{settled, is_settled_by, IsQuiet, here}
use Rattle.rh_otp_system.specs.State.{SystemView}
use Rattle.rh_otp_system.proofs.Moving.{settles}
use Rattle.rh_otp_laws.proofs.Hanging.{settled_stays_so}

pub quiet_settled : (most : ℕ) (order : Order) (s : SystemView) → is_settled_by most order s ≡ true → IsQuiet (settled most order s)
quiet_settled most order s is =
    (settled_stays_so (settled most order s) (settled most order s) ((settles most order s).1 is) (here (settled most order s))).0

quiet_by : (times end most : ℕ) (order : Order) (s : SystemView) (b : Bool) → is_settled_by most order s ≡ b
    → cond b (is_past times end most order (settled most order s)) false ≡ true
    → ((t : SystemView) → is_past times end most order t ≡ true → IsQuiet t → IsQuiet (passed times end most order t))
    → IsQuiet (cond b (passed times end most order (settled most order s)) (settled most order s))
quiet_by times end most order s true is past rest = rest (settled most order s) past (quiet_settled most order s is)
quiet_by times end most order s false is past rest = absurd (false≢true past)

quiet_if : (times end most : ℕ) (order : Order) (s : SystemView) (next : Option ℕ)
    → is_past_by (is_past times end most order) most order next s ≡ true → IsQuiet s
    → ((t : SystemView) → is_past times end most order t ≡ true → IsQuiet t → IsQuiet (passed times end most order t))
    → IsQuiet (passed_by (passed times end most order) most order next s)
quiet_if times end most order s None past quiet rest = quiet
quiet_if times end most order s (Some due) past quiet rest =
    quiet_by times end most order (fired_next due s) (is_settled_by most order (fired_next due s)) refl past rest

quiet_passed : (times end most : ℕ) (order : Order) (s : SystemView) → is_past times end most order s ≡ true → IsQuiet s
    → IsQuiet (passed times end most order s)
quiet_passed zero end most order s past quiet = absurd (false≢true past)
quiet_passed (suc times) end most order s past quiet =
    quiet_if times end most order s (next_until end s) past quiet (quiet_passed times end most order)

ticked_by : (end most : ℕ) (order : Order) (s : SystemView) (b : Bool) → is_settled_by most order s ≡ b
    → cond b (is_past most end most order (settled most order s)) false ≡ true
    → IsQuiet (ticked_behind end most order b (settled most order s))
ticked_by end most order s true is past = quiet_passed most end most order (settled most order s) past (quiet_settled most order s is)
ticked_by end most order s false is past = absurd (false≢true past)

pub quiet_ticked : (end most : ℕ) (order : Order) (s : SystemView) → is_ticked end most order s ≡ true → IsQuiet (ticked end most order s)
unfolding ticked is_ticked
quiet_ticked end most order s past =
    ticked_by end most order (record s { is_ticking = true }) (is_settled_by most order (record s { is_ticking = true })) refl past
