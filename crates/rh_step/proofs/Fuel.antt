-- A timer that fires leaves fewer timers, so that as many firings as there are timers are enough.
use Rattle.std.proofs.Common.{◌≡◌, ℕ, zero, suc, ◌<◌, ◌≤◌, Bool, true, false, cond, not, List, [], ◌∷◌, length, Option, Some, None, refl, sym, ap, subst, ◌∙◌}
use Rattle.std.proofs.Common.{All, arith, nat_le, nat_eq, slice_get}
use Rattle.std.specs.List.{filter}
use Rattle.std.proofs.lemmas.Bool.Decides.{nat_tests}
use Rattle.rh_model.specs.ClusterView.{mandatory_of, numbered}
use Rattle.rh_model.specs.declared.node.Node.{Node}
use Rattle.rh_model.specs.declared.node.App.{App}
use Rattle.rh_state.specs.declared.status.Mode.{Mode}
use Rattle.rh_state.specs.declared.status.Mode.TheVariants.{Down, Waiting, Up}
use Rattle.rh_state.specs.declared.status.Standing.{Standing}
use Rattle.rh_state.specs.declared.status.Standing.TheVariants.{Running, Lost}
use Rattle.rh_state.specs.declared.status.Timer.{Timer}
use Rattle.rh_state.specs.declared.status.Timer.TheVariants.{Sync, Failover}
use Rattle.rh_state.specs.Lists.{has_app}
use Rattle.rh_state.specs.Limits.{time_limit}
use Rattle.rh_state.specs.Numbers.{same_node}
use Rattle.rh_state.specs.Timers.{same_timer, without_timer}
use Rattle.rh_state.specs.StateView.{StateView, mode_of, is_waiting, is_up, runs_at, standing_of, earliest}
use Rattle.rh_rules.specs.declared.pick.Pick.{Pick}
use Rattle.rh_base.proofs.Lists.{cases}
use Rattle.rh_rules.specs.Course.{Course}
use Rattle.rh_trace.specs.Validity.{IsSound}
use Rattle.rh_rules.specs.NodesStart.{all_alive, come_up, ready_come_up}
use Rattle.rh_rules.specs.NodesEnd.{ended, wanted_if_lost}
use Rattle.rh_rules.specs.Time.{due_by, effect, taken_off, fired, go_on, fired_by, all_fired}
use Rattle.rh_events.proofs.TimersFall.{come_up_timers, ended_timers, ready_timers}
use Rattle.rh_settle.proofs.Unchanged.{settled_timers}
use Rattle.rh_events.proofs.SoundComingUp.{sound_ready_come_up}
use Rattle.rh_settle.proofs.Still.{settled_sound}
use Rattle.rh_trace.proofs.TimersToldApart.{same_self}
use Rattle.rh_step.proofs.TakenOff.{waits_to_end, sound_effect}

abbrev pub timer_count : Course → ℕ
timer_count o = length o.state.timers

filter_le : {A : Type 0} (p : A → Bool) (xs : List A) → length (filter p xs) ≤ length xs
filter_le p [] = omega arith
filter_le p (x ∷ xs) = let h = filter_le p xs in by (p x) h
  where
    by : (b : Bool) → length (filter p xs) ≤ length xs → length (cond b (x ∷ filter p xs) (filter p xs)) ≤ length (x ∷ xs)
    by true h = omega arith
    by false h = omega arith

fewer_at_first : (entry : ℕ × Timer) (rest : List (ℕ × Timer)) → length (without_timer entry.1 (entry ∷ rest)) < length (entry ∷ rest)
fewer_at_first entry rest =
    let e = ap (λ b. length (cond (not b) (entry ∷ without_timer entry.1 rest) (without_timer entry.1 rest))) (same_self entry.1) in
    let f = filter_le (λ (other : ℕ × Timer). not (same_timer entry.1 other.1)) rest in
    omega (arith, e, f)

-- no application stands as running at a node that waits
idle_waits : (s : StateView) (n : Node) → IsSound s → is_waiting (mode_of s n) ≡ true → (a : App) (m : Node) → standing_of s a ≡ Running m
    → same_node m n ≡ false
idle_waits s n h waits a m e = cases (same_node m n)
    (λ same. absurd (clash (runs_at s n a)
    (ap (λ k. runs_at s (numbered k) a) (sym (same_number m.0 n.0 same)) ∙ h.runs.runs a m e)
    (ap (λ apps. has_app apps a) (h.idle.running n (not_up (mode_of s n) waits)))))
    (λ other. other)
  where
    same_number : (i j : ℕ) → nat_eq i j ≡ true → i ≡ j
    same_number i j t = grind (arith, nat_tests)

    not_up : (mode : Mode) → is_waiting mode ≡ true → is_up mode ≡ false
    not_up Down w = refl
    not_up Waiting w = refl
    not_up Up w = absurd (cc w)

    clash : (b : Bool) → b ≡ true → b ≡ false → ⊥
    clash true t f = cc f
    clash false t f = cc t

-- what a timer does sets none
effect_timers : (o : Course) (entry : ℕ × Timer) → IsSound o.state → earliest o.state ≡ Some entry
    → timer_count (effect (taken_off o entry) entry.1) ≤ timer_count (taken_off o entry)
effect_timers o (due, Sync n) h e = by (all_alive (taken_off o (due, Sync n)).state (mandatory_of o.state.cluster n))
    (idle_waits o.state n h (waits_to_end o.state due n h e))
  where
    by : (b : Bool) → ((a : App) (m : Node) → standing_of o.state a ≡ Running m → same_node m n ≡ false)
        → timer_count (cond b (come_up (taken_off o (due, Sync n)) n) (ended (taken_off o (due, Sync n)) n)) ≤ timer_count (taken_off o (due, Sync n))
    by true idle = come_up_timers (taken_off o (due, Sync n)) n
    by false idle = ended_timers (taken_off o (due, Sync n)) n idle
effect_timers o (due, Failover a) h e = by (standing_of o.state a)
  where
    by : (standing : Standing) → length (wanted_if_lost (taken_off o (due, Failover a)).state a standing).timers ≤ timer_count (taken_off o (due, Failover a))
    by (Lost n) = omega arith
    by _ = omega arith

-- the timer that is due next stands first
pub due_stands_first : (limit : ℕ) (entries : List (ℕ × Timer)) (entry : ℕ × Timer) → due_by limit (slice_get entries 0) ≡ Some entry
    → (rest : List (ℕ × Timer)) × (entries ≡ entry ∷ rest)
due_stands_first limit [] entry h = absurd (cc h)
due_stands_first limit (x ∷ xs) entry h = by (nat_le x.0 limit) h
  where
    found : (x y : ℕ × Timer) → Some x ≡ Some y → x ≡ y
    found x y e = cc e

    by : (b : Bool) → cond b (Some x) None ≡ Some entry → (rest : List (ℕ × Timer)) × (x ∷ xs ≡ entry ∷ rest)
    by true h = (xs, ap (λ e. e ∷ xs) (found x entry h))
    by false h = absurd (cc h)

pub due_is_first : (limit : ℕ) (s : StateView) (entry : ℕ × Timer) → due_by limit (earliest s) ≡ Some entry → earliest s ≡ Some entry
due_is_first limit s entry h = ap (λ (entries : List (ℕ × Timer)). slice_get entries 0) (due_stands_first limit s.timers entry h).1

-- a timer that fires, with all that follows, leaves fewer timers
pub fired_fewer : (pick : Pick) (limit : ℕ) (o : Course) (entry : ℕ × Timer) → IsSound o.state → due_by limit (earliest o.state) ≡ Some entry
    → length (fired pick o entry).state.timers < length o.state.timers
unfolding fired
fired_fewer pick limit o entry sound h =
    let first = due_stands_first limit o.state.timers entry h in
    let q = effect (taken_off o entry) entry.1 in
    let rising = ready_timers q in
    let settling = ap (λ (entries : List (ℕ × Timer)). length entries) (settled_timers pick (ready_come_up q)) in
    let effective = effect_timers o entry sound (due_is_first limit o.state entry h) in
    let without = ap (λ (entries : List (ℕ × Timer)). length (without_timer entry.1 entries)) first.1 in
    let all = ap (λ (entries : List (ℕ × Timer)). length entries) first.1 in
    let off = fewer_at_first entry first.0 in
    omega (arith, rising, settling, effective, without, all, off)

-- it is due by the limit
pub due_within : (limit : ℕ) (found : Option (ℕ × Timer)) (entry : ℕ × Timer) → due_by limit found ≡ Some entry → entry.0 ≤ limit
due_within limit None entry h = absurd (cc h)
due_within limit (Some x) entry h = by (nat_le x.0 limit) refl h
  where
    found : (x y : ℕ × Timer) → Some x ≡ Some y → x ≡ y
    found x y e = cc e

    below : (i j : ℕ) → nat_le i j ≡ true → i ≤ j
    below i j t = grind (arith, nat_tests)

    by : (b : Bool) → nat_le x.0 limit ≡ b → cond b (Some x) None ≡ Some entry → entry.0 ≤ limit
    by true is h = subst (λ (y : ℕ × Timer). y.0 ≤ limit) (found x entry h) (below x.0 limit is)
    by false is h = absurd (cc h)

pub due_in_time : (limit : ℕ) (s : StateView) (entry : ℕ × Timer) → limit ≤ time_limit → due_by limit (earliest s) ≡ Some entry → entry.0 ≤ time_limit
due_in_time limit s entry within h = let l = due_within limit (earliest s) entry h in omega (arith, l, within)

-- and keeps a state sound
pub sound_fired : (pick : Pick) (limit : ℕ) (o : Course) (entry : ℕ × Timer) → limit ≤ time_limit → IsSound o.state
    → due_by limit (earliest o.state) ≡ Some entry → IsSound (fired pick o entry).state
unfolding fired
sound_fired pick limit o entry within sound h =
    let q = effect (taken_off o entry) entry.1 in
    settled_sound pick (ready_come_up q)
    (sound_ready_come_up q (sound_effect o entry (due_in_time limit o.state entry within h) sound (due_is_first limit o.state entry h)))

-- the firings where this is found due
abbrev pub goes : Pick → ℕ → ℕ → Course → Option (ℕ × Timer) → Course
goes pick most limit o found = go_on o found (λ entry. fired_by pick most limit (fired pick o entry))

pub nothing_due : (limit : ℕ) (entries : List (ℕ × Timer)) → length entries ≤ 0 → due_by limit (slice_get entries 0) ≡ None
nothing_due limit [] h = refl
nothing_due limit (x ∷ xs) h = absurd (omega (arith, h))

-- where all timers are due later, the first of them isn't due
pub due_later : (limit : ℕ) (timers : List (ℕ × Timer)) → All (λ (entry : ℕ × Timer). limit < entry.0) timers → due_by limit (slice_get timers 0) ≡ None
due_later limit [] later = refl
due_later limit (x ∷ xs) later =
    let after = later 0 x (omega arith) in
    let undue : nat_le x.0 limit ≡ false = grind (arith, nat_tests, after) in
    ap (λ b. cond b (Some x) None) undue

pub by_found : {A P : Type 0} (found : Option A) → (found ≡ None → P) → ((x : A) → found ≡ Some x → P) → P
by_found None none some = none refl
by_found (Some x) none some = some x refl

-- what each firing keeps holds behind all of them
pub by_firing : (P : Course → Type 0) (pick : Pick) (limit : ℕ) →
    ((o : Course) (entry : ℕ × Timer) → P o → due_by limit (earliest o.state) ≡ Some entry → P (fired pick o entry))
    → (most : ℕ) (o : Course) → P o → P (fired_by pick most limit o)
unfolding fired_by
by_firing P pick limit each zero o h = h
by_firing P pick limit each (suc most) o h = by_found (due_by limit (earliest o.state))
    (λ none. subst P (sym (ap (goes pick most limit o) none)) h)
    (λ entry is. subst P (sym (ap (goes pick most limit o) is)) (by_firing P pick limit each most (fired pick o entry) (each o entry h is)))

pub sound_all_fired : (pick : Pick) (limit : ℕ) (o : Course) → limit ≤ time_limit → IsSound o.state → IsSound (all_fired pick limit o).state
unfolding all_fired
sound_all_fired pick limit o within sound = by_firing (λ p. IsSound p.state) pick limit (λ p entry h is. sound_fired pick limit p entry within h is)
    (timer_count o) o sound

-- with enough firings, more change nothing
pub enough : (pick : Pick) (k j limit : ℕ) (o : Course) → limit ≤ time_limit → IsSound o.state → timer_count o ≤ k → timer_count o ≤ j
    → fired_by pick k limit o ≡ fired_by pick j limit o
unfolding fired_by
enough pick zero zero limit o within sound a b = refl
enough pick zero (suc j) limit o within sound a b = sym (ap (goes pick j limit o) (nothing_due limit o.state.timers a))
enough pick (suc k) zero limit o within sound a b = ap (goes pick k limit o) (nothing_due limit o.state.timers b)
enough pick (suc k) (suc j) limit o within sound a b = by_found (due_by limit (earliest o.state))
    (λ none. ap (goes pick k limit o) none ∙ sym (ap (goes pick j limit o) none))
    (λ entry is. let fewer = fired_fewer pick limit o entry sound is in
    ap (goes pick k limit o) is
    ∙ enough pick k j limit (fired pick o entry) within (sound_fired pick limit o entry within sound is) (omega (arith, a, fewer)) (omega (arith, b, fewer))
    ∙ sym (ap (goes pick j limit o) is))

-- all firings are one and then all the others
pub unrolled : (pick : Pick) (limit : ℕ) (o : Course) (entry : ℕ × Timer) → limit ≤ time_limit → IsSound o.state → due_by limit (earliest o.state) ≡ Some entry
    → all_fired pick limit o ≡ all_fired pick limit (fired pick o entry)
unfolding fired_by all_fired
unrolled pick limit o entry within sound is =
    let fewer = fired_fewer pick limit o entry sound is in
    enough pick (timer_count o) (suc (timer_count o)) limit o within sound (omega arith) (omega arith)
    ∙ ap (goes pick (timer_count o) limit o) is
    ∙ enough pick (timer_count o) (timer_count (fired pick o entry)) limit (fired pick o entry) within (sound_fired pick limit o entry within sound is)
    (omega (arith, fewer)) (omega arith)

-- where none is due, none fires
none_fires : (pick : Pick) (k limit : ℕ) (o : Course) → due_by limit (earliest o.state) ≡ None → fired_by pick k limit o ≡ o
unfolding fired_by
none_fires pick zero limit o none = refl
none_fires pick (suc k) limit o none = ap (goes pick k limit o) none

pub all_fired_end : (pick : Pick) (limit : ℕ) (o : Course) → due_by limit (earliest o.state) ≡ None → all_fired pick limit o ≡ o
unfolding all_fired
all_fired_end pick limit o none = none_fires pick (timer_count o) limit o none
