-- Time passes on systems that are alike: each settles by an order of its own, and both are alike behind it.
use Rattle.std.proofs.Common.{◌≡◌, ℕ, zero, suc, Bool, true, false, cond, Option, Some, None, refl, sym, ap, subst}
use Rattle.std.proofs.lemmas.Bool.{false≢true}
use Rattle.rh_otp_net.specs.declared.order.Order.{Order}
use Rattle.rh_otp_net.specs.Timers as timers
use Rattle.rh_otp_system.specs.Doing.{fired_next, until_if, next_until, passed_by, passed, is_past_by, is_past, ticked_behind, ticked, is_ticked}
use Rattle.rh_otp_system.specs.Moves.{settled, is_settled_by}
use Rattle.rh_otp_system.specs.State.{SystemView}
use Rattle.rh_otp_laws.specs.Acting.{fires, ticks, IsReached, later}
use Rattle.rh_otp_laws.proofs.Commands.{commands_reached}
use Rattle.rh_otp_laws.proofs.Ticking.{IsNext, is_next}
use Rattle.rh_otp_orders.specs.Orders.{AreAlike}
use Rattle.rh_otp_orders.proofs.Moving.{same_read}
use Rattle.rh_otp_commands.specs.Commands.{SettlesAlike, FiringsEndAlike, TickEndsAlike, TicksEndAlike}
use Rattle.rh_otp_commands.proofs.Alike.{written_of, written_alike}
use Rattle.rh_otp_commands.proofs.Firing.{fire_alike, same_next}
use Rattle.rh_otp_commands.proofs.Settling.{Both, end_alike}

-- What holds of two systems goes on over a settling, and over what happens where time passes.
pub record GoesOn (R : SystemView → SystemView → Type 0) : Type 0 where
  pub settles : (s t : SystemView) (most : ℕ) (one other : Order) → IsReached s → R s t → SettlesAlike s
      → Both R (is_settled_by most one s) (is_settled_by most other t) (settled most one s) (settled most other t)
  pub next : (s t : SystemView) → R s t → timers.next_due s.timers ≡ timers.next_due t.timers
  pub fires : (due : ℕ) (s t : SystemView) → R s t → R (fired_next due s) (fired_next due t)
  pub begins : (s t : SystemView) → R s t → R (record s { is_ticking = true }) (record t { is_ticking = true })
  pub over : (end : ℕ) (s t : SystemView) → R s t
      → R (record s { clock = end; is_ticking = false }) (record t { clock = end; is_ticking = false })

-- ---- the timers that are due until then

fire_reached : (end due : ℕ) (s : SystemView) → next_until end s ≡ Some due → IsReached s → IsReached (fired_next due s)
fire_reached end due s is reached =
    let next : IsNext end due (timers.next_due s.timers) = is_next end due (timers.next_due s.timers) is in
    later s (fired_next due s) reached (fires s due next.step next.is)

-- both behind so many times
abbrev BothPass : (SystemView → SystemView → Type 0) → ℕ → ℕ → ℕ → Order → Order → SystemView → SystemView → Type 0
BothPass R times end most one other u v =
    Both R (is_past times end most one u) (is_past times end most other v) (passed times end most one u) (passed times end most other v)

-- what goes on behind a settling of both
on_by : (R : SystemView → SystemView → Type 0) (times end most : ℕ) (one other : Order) (p q : Bool) (u v : SystemView) → Both R p q u v
    → (p ≡ true → FiringsEndAlike times end most one u) → (R u v → FiringsEndAlike times end most one u
    → BothPass R times end most one other u v)
    → Both R (cond p (is_past times end most one u) false) (cond q (is_past times end most other v) false)
    (cond p (passed times end most one u) u) (cond q (passed times end most other v) v)
on_by R times end most one other true true u v both firings rest = rest (both.1 refl) (firings refl)
on_by R times end most one other false false u v both firings rest = (refl, λ ends. absurd (false≢true ends))
on_by R times end most one other true false u v both firings rest = absurd (false≢true (sym both.0))
on_by R times end most one other false true u v both firings rest = absurd (false≢true both.0)

pass_by : (R : SystemView → SystemView → Type 0) → GoesOn R → (times end most : ℕ) (one other : Order) (s t : SystemView) (next : Option ℕ)
    → next_until end s ≡ next → R s t → IsReached s → FiringsEndAlike (suc times) end most one s
    → ((u v : SystemView) → R u v → IsReached u → FiringsEndAlike times end most one u → BothPass R times end most one other u v)
    → Both R (is_past_by (is_past times end most one) most one next s) (is_past_by (is_past times end most other) most other next t)
    (passed_by (passed times end most one) most one next s) (passed_by (passed times end most other) most other next t)
pass_by R on times end most one other s t None is same reached firings rest = (refl, λ ends. same)
pass_by R on times end most one other s t (Some due) is same reached firings rest =
    let u : SystemView = fired_next due s in
    let v : SystemView = fired_next due t in
    let reached_u : IsReached u = fire_reached end due s is reached in
    let here : SettlesAlike u × (is_settled_by most one u ≡ true → FiringsEndAlike times end most one (settled most one u)) =
    firings due is in
    on_by R times end most one other (is_settled_by most one u) (is_settled_by most other v) (settled most one u) (settled most other v)
    (on.settles u v most one other reached_u (on.fires due s t same) here.0) here.1
    (λ alike. rest (settled most one u) (settled most other v) alike (commands_reached.settles_there most one u reached_u))

pass_both : (R : SystemView → SystemView → Type 0) → GoesOn R → (times end most : ℕ) (one other : Order) (s t : SystemView) → R s t
    → IsReached s
    → FiringsEndAlike times end most one s → BothPass R times end most one other s t
pass_both R on zero end most one other s t same reached firings = (refl, λ ends. absurd (false≢true ends))
pass_both R on (suc times) end most one other s t same reached firings =
    subst (λ (next : Option ℕ). Both R (is_past (suc times) end most one s) (is_past_by (is_past times end most other) most other next t)
    (passed (suc times) end most one s) (passed_by (passed times end most other) most other next t))
    (ap (until_if end) (on.next s t same))
    (pass_by R on times end most one other s t (next_until end s) refl same reached firings (pass_both R on times end most one other))

-- ---- a tick

tick_by : (R : SystemView → SystemView → Type 0) → GoesOn R → (end most : ℕ) (one other : Order) (p q : Bool) (u v : SystemView)
    → Both R p q u v
    → (p ≡ true → FiringsEndAlike most end most one u) → IsReached u
    → Both R (cond p (is_past most end most one u) false) (cond q (is_past most end most other v) false)
    (ticked_behind end most one p u) (ticked_behind end most other q v)
tick_by R on end most one other true true u v both firings reached =
    let past : BothPass R most end most one other u v = pass_both R on most end most one other u v (both.1 refl) reached (firings refl) in
    (past.0, λ ends. on.over end (passed most end most one u) (passed most end most other v) (past.1 ends))
tick_by R on end most one other false false u v both firings reached = (refl, λ ends. absurd (false≢true ends))
tick_by R on end most one other true false u v both firings reached = absurd (false≢true (sym both.0))
tick_by R on end most one other false true u v both firings reached = absurd (false≢true both.0)

pub both_tick : (R : SystemView → SystemView → Type 0) → GoesOn R → (s t : SystemView) (end most : ℕ) (one other : Order) → IsReached s
    → R s t
    → TickEndsAlike end most one s
    → Both R (is_ticked end most one s) (is_ticked end most other t) (ticked end most one s) (ticked end most other t)
unfolding ticked is_ticked
both_tick R on s t end most one other reached same every =
    let u : SystemView = record s { is_ticking = true } in
    let v : SystemView = record t { is_ticking = true } in
    let reached_u : IsReached u = later s u reached (ticks s true) in
    tick_by R on end most one other (is_settled_by most one u) (is_settled_by most other v) (settled most one u) (settled most other v)
    (on.settles u v most one other reached_u (on.begins s t same) every.first) every.firings
    (commands_reached.settles_there most one u reached_u)

-- ---- where both are alike

pub over_alike : (end : ℕ) (s t : SystemView) → AreAlike s t
    → AreAlike (record s { clock = end; is_ticking = false }) (record t { clock = end; is_ticking = false })
over_alike end s t g =
    written_alike (written_of (record s { clock = end; is_ticking = false })) (written_of
    (record t { clock = end; is_ticking = false })) s t
    (same_read (λ (u : SystemView). written_of (record u { clock = end; is_ticking = false })) s t g) g

pub begin_ticking : (s t : SystemView) → AreAlike s t → AreAlike (record s { is_ticking = true }) (record t { is_ticking = true })
begin_ticking s t g =
    written_alike (written_of (record s { is_ticking = true })) (written_of (record t { is_ticking = true })) s t
    (same_read (λ (u : SystemView). written_of (record u { is_ticking = true })) s t g) g

alike_goes_on : GoesOn AreAlike
alike_goes_on = record {
  settles = end_alike;
  next = λ s t same. same_next s.timers t.timers same.timers;
  fires = fire_alike;
  begins = begin_ticking;
  over = over_alike;
}

pub tick_alike : TicksEndAlike
tick_alike s t end most one other reached same every = both_tick AreAlike alike_goes_on s t end most one other reached same every
