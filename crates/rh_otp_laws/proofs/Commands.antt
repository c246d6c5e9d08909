-- What a command does is one thing after the other.
use Rattle.std.proofs.Common.{◌≡◌, ◌<◌, ◌≤◌, ℕ, zero, suc, Bool, true, false, cond, List, [], Option, Some, None, refl, sym, ap, subst, ◌∙◌, arith}
use Rattle.std.proofs.lemmas.Bool.{false≢true}
use Rattle.std.proofs.lemmas.List.Elements.{All-weaker}
use Rattle.rh_otp_net.specs.declared.timers.Timer.{Timer}
use Rattle.rh_otp_net.specs.declared.order.Order.{Order}
use Rattle.rh_otp_net.specs.Timers as timers
use Rattle.rh_otp_system.specs.Doing.{fired_next, until_if, next_until, passed_by, passed, is_past_by, is_past, ticking, ticked_behind, ticked, is_ticked}
use Rattle.rh_otp_system.specs.declared.moves.Move.{Move}
use Rattle.rh_otp_system.specs.Moves.{made, settled, IsPossible, is_settled_by, Reaches, here, behind_one}
use Rattle.rh_otp_system.specs.State.{SystemView}
use Rattle.rh_otp_system.proofs.Moving.{settles}
use Rattle.rh_otp_laws.specs.Acting.{moves, acts, fires, passes, ticks, settles as forgets_answers, IsReached, later, IsNoneDueBefore, CommandsAreReached}
use Rattle.rh_otp_laws.proofs.Ticking.{IsNext, is_next, none_until}
use Rattle.rh_otp_laws.proofs.Time.{made_sets, due_fire}

-- what stays in all that a command does behind its beginning: moves, and time that passes
pub record StaysOn (P : SystemView → Type 0) : Type 0 where
  pub moves : (s : SystemView) (next : Move) → IsPossible s next → P s → P (made next s)
  pub fires : (s : SystemView) (due step : ℕ) → timers.next_due s.timers ≡ Some (due, step) → P s → P (fired_next due s)
  pub passes : (s : SystemView) (time : ℕ) → s.clock ≤ time → IsNoneDueBefore time s.timers → P s → P (record s { clock = time })
  pub ticks : (s : SystemView) (ticking : Bool) → P s → P (record s { is_ticking = ticking })
  pub settles : (s : SystemView) → P s → P (record s { answers = [] })

-- ---- a settling

by_moves : (P : SystemView → Type 0) → StaysOn P → (s t : SystemView) → Reaches s t → P s → P t
by_moves P stays _ _ (here s) p = p
by_moves P stays _ _ (behind_one s t u one rest) p = by_moves P stays t u rest (subst P (sym one.2) (stays.moves s one.0 one.1 p))

pub settled_keeps : (P : SystemView → Type 0) → StaysOn P → (most : ℕ) (order : Order) (s : SystemView) → P s → P (settled most order s)
settled_keeps P stays most order s p =
    by_moves P stays (record s { answers = [] }) (settled most order s) (settles most order s).0 (stays.settles s p)

-- and leaves the clock where it is
clock_by_moves : (s t : SystemView) → Reaches s t → t.clock ≡ s.clock
clock_by_moves _ _ (here s) = refl
clock_by_moves _ _ (behind_one s t u one rest) =
    clock_by_moves t u rest ∙ ap (λ (v : SystemView). v.clock) one.2 ∙ (made_sets one.0 s).clock

settled_clock : (most : ℕ) (order : Order) (s : SystemView) → (settled most order s).clock ≡ s.clock
settled_clock most order s = clock_by_moves (record s { answers = [] }) (settled most order s) (settles most order s).0

-- ---- time passes

-- where none is due until the end, none is before it
none_left : (end : ℕ) (rows : List Timer) → until_if end (timers.next_due rows) ≡ None → IsNoneDueBefore end rows
none_left end rows none =
    All-weaker (λ (u : Timer). end < u.due) (λ (u : Timer). end ≤ u.due) (λ u later. omega (arith, later)) rows
    (none_until end rows (timers.next_due rows) refl none)

-- the system behind a tick
abbrev over : ℕ → SystemView → SystemView
over end s = record s { clock = end; is_ticking = false }

over_keeps : (P : SystemView → Type 0) → StaysOn P → (end : ℕ) (s : SystemView) → s.clock ≤ end → IsNoneDueBefore end s.timers → P s
    → P (over end s)
over_keeps P stays end s within none p = stays.ticks (record s { clock = end }) false (stays.passes s end within none p)

passed_if : (P : SystemView → Type 0) → StaysOn P → (times end most : ℕ) (order : Order) (s : SystemView) (next : Option ℕ)
    → next_until end s ≡ next → s.clock ≤ end → is_past_by (is_past times end most order) most order next s ≡ true → P s
    → ((t : SystemView) → t.clock ≤ end → is_past times end most order t ≡ true → P t → P (over end (passed times end most order t)))
    → P (over end (passed_by (passed times end most order) most order next s))
passed_if P stays times end most order s None is on past p rest = over_keeps P stays end s on (none_left end s.timers is) p
passed_if P stays times end most order s (Some due) is on past p rest = go (is_settled_by most order (fired_next due s)) past
  where
    next : IsNext end due (timers.next_due s.timers)
    next = is_next end due (timers.next_due s.timers) is

    go : (b : Bool) → cond b (is_past times end most order (settled most order (fired_next due s))) false ≡ true
        → P (over end (cond b (passed times end most order (settled most order (fired_next due s))) (settled most order (fired_next due s))))
    go true more =
        let clock : (settled most order (fired_next due s)).clock ≡ due =
        settled_clock most order (fired_next due s) ∙ ap (λ (t : SystemView). t.clock) (due_fire s due) in
        let within : due ≤ end = next.within in
        rest (settled most order (fired_next due s)) (omega (arith, clock, within)) more
        (settled_keeps P stays most order (fired_next due s) (stays.fires s due next.step next.is p))
    go false more = absurd (false≢true more)

passed_keeps : (P : SystemView → Type 0) → StaysOn P → (times end most : ℕ) (order : Order) (s : SystemView) → s.clock ≤ end
    → is_past times end most order s ≡ true → P s → P (over end (passed times end most order s))
passed_keeps P stays zero end most order s on past p = absurd (false≢true past)
passed_keeps P stays (suc times) end most order s on past p =
    passed_if P stays times end most order s (next_until end s) refl on past p (passed_keeps P stays times end most order)

ticked_by : (P : SystemView → Type 0) → StaysOn P → (end most : ℕ) (order : Order) (b : Bool) (s : SystemView) → s.clock ≤ end
    → cond b (is_past most end most order s) false ≡ true → P s → P (ticked_behind end most order b s)
ticked_by P stays end most order true s on past p = passed_keeps P stays most end most order s on past p
ticked_by P stays end most order false s on past p = absurd (false≢true past)

pub ticked_keeps : (P : SystemView → Type 0) → StaysOn P → (end most : ℕ) (order : Order) (s : SystemView) → s.clock ≤ end
    → is_ticked end most order s ≡ true → P s → P (ticked end most order s)
unfolding ticked is_ticked
ticked_keeps P stays end most order s on past p =
    let begun : SystemView = record s { is_ticking = true } in
    let clock : (ticking most order s).clock ≡ s.clock = settled_clock most order begun in
    ticked_by P stays end most order (is_settled_by most order begun) (ticking most order s) (omega (arith, clock, on)) past
    (settled_keeps P stays most order begun (stays.ticks s true p))

-- ---- what is reached

reached_on : StaysOn IsReached
reached_on = record {
  moves = λ s next possible reached. later s (made next s) reached (acts s (made next s) (moves s next possible));
  fires = λ s due step next reached. later s (fired_next due s) reached (fires s due step next);
  passes = λ s time on none reached. later s (record s { clock = time }) reached (passes s time on none);
  ticks = λ s ticking reached. later s (record s { is_ticking = ticking }) reached (ticks s ticking);
  settles = λ s reached. later s (record s { answers = [] }) reached (forgets_answers s);
}

pub commands_reached : CommandsAreReached
commands_reached = record { settles_there = settled_keeps IsReached reached_on; ticks_there = ticked_keeps IsReached reached_on }
