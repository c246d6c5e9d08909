-- States that are alike go on alike, within the scope of a search.
use Rattle.std.proofs.Common.{◌≡◌, ◌≤◌, ◌+◌, ℕ, ◌==◌, true, false, nat_le, nat_lt, max, Option, Some, None, List, [], ◌∷◌, length, map, drop, slice_get, is_some, is_none, not, ◌&&◌, ◌||◌, if◌then◌else◌, refl, sym, ap, ◌∙◌, subst, arith}
use Rattle.std.specs.List.{list_any, list_all}
use Rattle.std.specs.Option.{option_map}
use Rattle.std.proofs.lemmas.Option.{same_Some}
use Rattle.rh_base.proofs.Lists.{cases}
use Rattle.rh_base.proofs.Truths.{or_left, or_right, same_number}
use Rattle.rh_trace.proofs.NextMoves.{left_true, right_true}
use Rattle.std.proofs.lemmas.Bool.Decides.{nat_tests}
use Rattle.rh_state.specs.declared.status.Kind.{Kind}
use Rattle.rh_state.specs.declared.status.Timer.{Timer}
use Rattle.rh_state.specs.Limits.{time_limit}
use Rattle.rh_state.specs.StateView.{StateView}
use Rattle.rh_rules.specs.declared.event.Event.{Event}
use Rattle.rh_rules.specs.declared.event.Event.TheVariants.{Tick}
use Rattle.rh_rules.specs.declared.pick.Pick.{Pick}
use Rattle.rh_rules.specs.declared.refusal.Refusal.TheVariants.{ZeroTick, TimeLimit}
use Rattle.rh_rules.specs.Refusals.{refused}
use Rattle.rh_keys.specs.ShiftLaws.{meets_limit}
use Rattle.rh_keys.specs.Shifts.{seen_from, timeless, Alike}
use Rattle.rh_keys.proofs.Accepting.{alike_accept_alike}
use Rattle.rh_keys.proofs.GoingOn.{next_commutes_with_shifts}
use Rattle.rh_keys.proofs.Reading.{other}
use Rattle.rh_trace.specs.Validity.{IsValid}
use Rattle.rh_trace.proofs.Entries.{is_below}
use Rattle.rh_step.proofs.Validity.{next_valid}
use Rattle.rh_step.specs.Runs.{step}
use Rattle.rh_explore.specs.declared.asking.Ask.{Ask}
use Rattle.rh_explore.specs.declared.asking.Condition.{Condition}
use Rattle.rh_explore.specs.declared.asking.Condition.TheVariants.{RunsSomewhere, RunsNowhere, RunsAt, IsUp, IsNotUp, RunsAtMostOnce, NothingHangs}
use Rattle.rh_explore.specs.declared.moves.Move.{Move}
use Rattle.rh_explore.specs.declared.moves.Move.TheVariants.{Make, Wait}
use Rattle.rh_explore.specs.Asking.{has_timer, is_so, is_met, is_met_at, is_met_by, holds_in, MayWait}
use Rattle.rh_explore.specs.Moves.{ms_to, wait_for, event_in}
use Rattle.rh_explore.specs.Reaching.{Scope, MayCome, not_up_count}

-- ---- a step
pub step_valid : (w : Scope) (s : StateView) (e : Event) → IsValid s → MayCome w s e → IsValid (step w.pick s e)
unfolding step
step_valid w s e valid may = next_valid s e w.pick valid may.accepted

pub step_alike : (pick : Pick) (s t : StateView) (e : Event) → IsValid s → IsValid t → Alike s t → Alike (step pick s e) (step pick t e)
unfolding step
step_alike pick s t e valid_s valid_t alike =
    (next_commutes_with_shifts s t e pick valid_s.sound.timers.due valid_t.sound.timers.due alike).0

count_alike : (s t : StateView) → Alike s t → not_up_count s ≡ not_up_count t
count_alike s t alike = ap not_up_count alike

-- ---- a move
wait_seen : (s : StateView) (timers : List (ℕ × Timer))
    → option_map (wait_for (timeless s)) (slice_get (map (seen_from s.time) timers) 0) ≡ option_map (wait_for s) (slice_get timers 0)
wait_seen s [] = refl
wait_seen s (x ∷ xs) = ap (λ n. Some (Tick (max 1 n))) (omega arith)

move_timeless : (s : StateView) (m : Move) → event_in (timeless s) m ≡ event_in s m
move_timeless s (Make e) = refl
move_timeless s Wait = wait_seen s s.timers

-- it is the same event in states that are alike
pub move_alike : (s t : StateView) (m : Move) → Alike s t → event_in s m ≡ event_in t m
move_alike s t m alike = sym (move_timeless s m) ∙ ap (λ u. event_in u m) alike ∙ move_timeless t m

-- what a state that is alike accepts is accepted, where no limit refuses it
pub accepted_alike : (w : Scope) (s t : StateView) (e : Event) → Alike s t → MayCome w s e → meets_limit t e ≡ false → refused t e ≡ None
accepted_alike w s t e alike may below = alike_accept_alike s t e alike may.accepted below

pub few_alike : (w : Scope) (s t : StateView) (e : Event) → IsValid s → IsValid t → Alike s t → MayCome w s e → not_up_count (step w.pick t e) ≤ w.down
few_alike w s t e valid_s valid_t alike may =
    subst (λ n. n ≤ w.down) (count_alike (step w.pick s e) (step w.pick t e) (step_alike w.pick s t e valid_s valid_t alike)) may.few

-- ---- what is asked
timer_seen : (now : ℕ) (timers : List (ℕ × Timer)) → is_some (slice_get (map (seen_from now) timers) 0) ≡ is_some (slice_get timers 0)
timer_seen now [] = refl
timer_seen now (x ∷ xs) = refl

-- that doesn't hang on the time, the timers, the incarnations and the start kinds
module _ (s : StateView) (time : ℕ) (incarnations : List ℕ) (kinds : List (List Kind)) (timers : List (ℕ × Timer)) where
  so_same : (c : Condition) → is_so (other s time incarnations kinds timers) c ≡ is_so s c
  so_same (RunsSomewhere a) = refl
  so_same (RunsNowhere a) = refl
  so_same (RunsAt a n) = refl
  so_same (IsUp n) = refl
  so_same (IsNotUp n) = refl
  so_same (RunsAtMostOnce a) = refl
  so_same NothingHangs = refl

  pub met_same : (ask : Ask) → is_met ask (other s time incarnations kinds timers) ≡ is_met ask s
  met_same ask = λ i. list_any (λ conditions. list_all (λ c. so_same c i) conditions.items) ask.any_of.items

met_timeless : (ask : Ask) (s : StateView) → is_met ask (timeless s) ≡ is_met ask s
met_timeless ask s = met_same s 0 [] [] (map (seen_from s.time) s.timers) ask

met_alike : (ask : Ask) (s t : StateView) → Alike s t → is_met ask s ≡ is_met ask t
met_alike ask s t alike = sym (met_timeless ask s) ∙ ap (is_met ask) alike ∙ met_timeless ask t

timer_alike : (s t : StateView) → Alike s t → has_timer s ≡ has_timer t
timer_alike s t alike = sym (timer_seen s.time s.timers) ∙ ap has_timer alike ∙ timer_seen t.time t.timers

pub at_most : (n m : ℕ) → nat_le n m ≡ true → n ≤ m
at_most n m t = grind (arith, nat_tests)

-- below the limit of time a tick is accepted
pub tick_accepted : (s : StateView) (n : ℕ) → 1 ≤ n → s.time + n ≤ time_limit → refused s (Tick n) ≡ None
unfolding refused
tick_accepted s n some few =
    let long : (n == 0) ≡ false = cases (n == 0) (λ t. absurd (omega (arith, some, same_number n 0 t))) (λ f. f) in
    let early : nat_lt time_limit (s.time + n) ≡ false =
    cases (nat_lt time_limit (s.time + n)) (λ t. absurd (omega (arith, is_below time_limit (s.time + n) t, few))) (λ f. f) in
    λ i. if long i then Some ZeroTick else (if early i then Some TimeLimit else None)

-- where that is met in a state by waiting, it is in one that is alike and may wait as long
module _ (pick : Pick) (ask : Ask) (s t : StateView) (valid_s : IsValid s) (valid_t : IsValid t) (alike : Alike s t) where
  module _ (ms : ℕ) (may : s.time + ms ≤ time_limit) where
    met_at_alike : (a b : ℕ × Timer) → seen_from s.time a ≡ seen_from t.time b → is_met_at pick ask ms t b ≡ true → is_met_at pick ask ms s a ≡ true
    met_at_alike a b same met =
        let long : ms_to s a ≡ ms_to t b = ap (λ (x : ℕ × Timer). max 1 x.0) same in
        let e = wait_for t b in
        let e_is : wait_for s a ≡ e = ap Tick long in
        let soon : nat_le (ms_to t b) ms ≡ true = left_true (nat_le (ms_to t b) ms) (is_none (refused t e) && is_met ask (step pick t e)) met in
        let rest = right_true (nat_le (ms_to t b) ms) (is_none (refused t e) && is_met ask (step pick t e)) met in
        let after : is_met ask (step pick t e) ≡ true = right_true (is_none (refused t e)) (is_met ask (step pick t e)) rest in
        let few : s.time + ms_to s a ≤ time_limit = omega (arith, may, long, at_most (ms_to t b) ms soon) in
        let one = ap (λ n. nat_le n ms) long ∙ soon in
        let two = ap is_none (tick_accepted s (ms_to s a) (omega arith) few) in
        let three = ap (λ d. is_met ask (step pick s d)) e_is ∙ met_alike ask (step pick s e) (step pick t e) (step_alike pick s t e valid_s valid_t alike) ∙ after in
        λ i. one i && (two i && three i)

    any_alike : (xs ys : List (ℕ × Timer)) → map (seen_from s.time) xs ≡ map (seen_from t.time) ys
        → list_any (is_met_at pick ask ms t) ys ≡ true → list_any (is_met_at pick ask ms s) xs ≡ true
    any_alike [] [] same met = met
    any_alike [] (y ∷ ys) same met = absurd (omega (arith, ap (λ (l : List (ℕ × Timer)). length l) same))
    any_alike (x ∷ xs) [] same met = absurd (cc met)
    any_alike (x ∷ xs) (y ∷ ys) same met = cases (is_met_at pick ask ms t y)
        (λ yes. or_left (is_met_at pick ask ms s x) (list_any (is_met_at pick ask ms s) xs)
        (met_at_alike x y (same_Some (seen_from s.time x) (seen_from t.time y) (ap (λ (l : List (ℕ × Timer)). slice_get l 0) same)) yes))
        (λ no. or_right (is_met_at pick ask ms s x) (list_any (is_met_at pick ask ms s) xs)
        (any_alike xs ys (ap (λ (l : List (ℕ × Timer)). drop 1 l) same) (sym (ap (λ b. b || list_any (is_met_at pick ask ms t) ys) no) ∙ met)))

  by_alike : (within : Option ℕ) → MayWait within s → is_met_by pick ask within t ≡ true → is_met_by pick ask within s ≡ true
  by_alike None may met = met_alike ask s t alike ∙ met
  by_alike (Some ms) may met = cases (is_met ask t)
      (λ now. or_left (is_met ask s) (list_any (is_met_at pick ask ms s) s.timers) (met_alike ask s t alike ∙ now))
      (λ later. or_right (is_met ask s) (list_any (is_met_at pick ask ms s) s.timers)
      (any_alike ms may s.timers t.timers (ap (λ (u : StateView). u.timers) alike)
      (sym (ap (λ b. b || list_any (is_met_at pick ask ms t) t.timers) later) ∙ met)))

  pub asked_alike : MayWait ask.within s → holds_in pick ask t ≡ true → holds_in pick ask s ≡ true
  asked_alike may holds = cases (not ask.always && has_timer t)
      (λ left. or_left (not ask.always && has_timer s) (is_met_by pick ask ask.within s)
      (ap (λ b. not ask.always && b) (timer_alike s t alike) ∙ left))
      (λ asked. or_right (not ask.always && has_timer s) (is_met_by pick ask ask.within s)
      (by_alike ask.within may (sym (ap (λ b. b || is_met_by pick ask ask.within t) asked) ∙ holds)))
