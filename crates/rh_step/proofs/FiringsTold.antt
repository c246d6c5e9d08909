-- The firings of a tick: what they tell is what the tick tells, and they are in the order of time.
use Rattle.std.proofs.Common.{◌≡◌, ◌≤◌, ◌+◌, ◌++◌, ℕ, zero, suc, Bool, true, false, cond, List, [], ◌∷◌, length, take, Option, Some, None, All}
use Rattle.std.proofs.Common.{refl, sym, ap, ◌∙◌, subst, append_assoc, arith}
use Rattle.std.proofs.lemmas.List.{append-nil}
use Rattle.std.specs.List.Sorted.{IsNonDecreasingBy}
use Rattle.std.proofs.lemmas.List.Elements.{All-cons}
use Rattle.rh_state.specs.Limits.{time_limit}
use Rattle.rh_state.specs.declared.status.Standing.{Standing}
use Rattle.rh_state.specs.declared.status.Standing.TheVariants.{Lost}
use Rattle.rh_state.specs.declared.status.Timer.{Timer}
use Rattle.rh_state.specs.declared.status.Timer.TheVariants.{Sync, Failover}
use Rattle.rh_state.specs.StateView.{StateView, earliest, standing_of}
use Rattle.rh_model.specs.ClusterView.{mandatory_of}
use Rattle.rh_rules.specs.declared.pick.Pick.{Pick}
use Rattle.rh_rules.specs.Course.{Course, course_of}
use Rattle.rh_rules.specs.NodesStart.{all_alive, come_up, ready_come_up}
use Rattle.rh_trace.specs.Validity.{IsSound}
use Rattle.rh_trace.proofs.Behind.{after_notices}
use Rattle.rh_settle.proofs.Unchanged.{settled_time}
use Rattle.rh_rules.specs.NodesEnd.{ended, wanted_if_lost}
use Rattle.rh_refusals.proofs.Accepted.{accepted_tick}
use Rattle.rh_events.proofs.Fields.{ended_time}
use Rattle.rh_events.proofs.SoundComingUp.{come_up_time, ready_come_up_time}
use Rattle.rh_rules.specs.Time.{due_by, effect, taken_off, fired, fired_by, all_fired, ticked}
use Rattle.rh_rules.specs.Steps.{next}
use Rattle.rh_step.specs.Firings.{FiringView, firing, fired_in, if_due, firings_by, firings, told_by, FiringsTellTheTick, FiringsAreInTime}
use Rattle.rh_step.proofs.Fuel.{goes, by_found, nothing_due, due_stands_first, due_within, fired_fewer, sound_fired}
use Rattle.rh_step.proofs.TickLaws.{fired_after}

-- the firings where this is found due
abbrev from : Pick → ℕ → ℕ → StateView → Option (ℕ × Timer) → List FiringView
from pick most limit s found = if_due found
    (λ entry. firing entry.0 (fired_in pick s entry).notices ∷ firings_by pick most limit (fired_in pick s entry).state)

-- with enough firings, more change nothing
pub enough_firings : (pick : Pick) (k j limit : ℕ) (s : StateView) → limit ≤ time_limit → IsSound s → length s.timers ≤ k → length s.timers ≤ j
    → firings_by pick k limit s ≡ firings_by pick j limit s
unfolding firings_by
enough_firings pick zero zero limit s within sound a b = refl
enough_firings pick zero (suc j) limit s within sound a b = sym (ap (from pick j limit s) (nothing_due limit s.timers a))
enough_firings pick (suc k) zero limit s within sound a b = ap (from pick k limit s) (nothing_due limit s.timers b)
enough_firings pick (suc k) (suc j) limit s within sound a b = by_found (due_by limit (earliest s))
    (λ none. ap (from pick k limit s) none ∙ sym (ap (from pick j limit s) none))
    (λ entry is. let fewer = fired_fewer pick limit (course_of s [] []) entry sound is in
    ap (from pick k limit s) is
    ∙ ap (λ rest. firing entry.0 (fired_in pick s entry).notices ∷ rest)
    (enough_firings pick k j limit (fired_in pick s entry).state within (sound_fired pick limit (course_of s [] []) entry within sound is)
    (omega (arith, a, fewer)) (omega (arith, b, fewer)))
    ∙ sym (ap (from pick j limit s) is))

-- all firings are one and then all the others
pub one_and_others : (pick : Pick) (limit : ℕ) (s : StateView) (entry : ℕ × Timer) → limit ≤ time_limit → IsSound s → due_by limit (earliest s) ≡ Some entry
    → firings_by pick (length s.timers) limit s ≡ firing entry.0 (fired_in pick s entry).notices
    ∷ firings_by pick (length (fired_in pick s entry).state.timers) limit (fired_in pick s entry).state
unfolding firings_by
one_and_others pick limit s entry within sound is =
    let fewer = fired_fewer pick limit (course_of s [] []) entry sound is in
    let later = sound_fired pick limit (course_of s [] []) entry within sound is in
    enough_firings pick (length s.timers) (suc (length s.timers)) limit s within sound (omega arith) (omega arith)
    ∙ ap (from pick (length s.timers) limit s) is
    ∙ ap (λ rest. firing entry.0 (fired_in pick s entry).notices ∷ rest)
    (enough_firings pick (length s.timers) (length (fired_in pick s entry).state.timers) limit (fired_in pick s entry).state within later
    (omega (arith, fewer)) (omega arith))

-- where none is due, none fires
pub none_fired : (pick : Pick) (k limit : ℕ) (s : StateView) → due_by limit (earliest s) ≡ None → firings_by pick k limit s ≡ []
unfolding firings_by
none_fired pick zero limit s none = refl
none_fired pick (suc k) limit s none = ap (from pick k limit s) none

-- ---- what is told
-- a timer that fires on a way tells what it tells in the state there
on_a_way : (pick : Pick) (o : Course) (entry : ℕ × Timer) → fired pick o entry ≡ after_notices o.notices (fired_in pick o.state entry)
unfolding fired
on_a_way pick o entry =
    ap (λ notices. fired pick (course_of o.state notices []) entry) (sym (append-nil o.notices))
    ∙ fired_after o.notices pick (course_of o.state [] []) entry

tells_by : (pick : Pick) (most limit : ℕ) (o : Course) → (fired_by pick most limit o).notices ≡ o.notices ++ told_by (firings_by pick most limit o.state)
unfolding fired_by firings_by
tells_by pick zero limit o = sym (append-nil o.notices)
tells_by pick (suc most) limit o = by_found (due_by limit (earliest o.state))
    (λ none. ap (λ found. (goes pick most limit o found).notices) none
    ∙ sym (append-nil o.notices) ∙ sym (ap (λ found. o.notices ++ told_by (from pick most limit o.state found)) none))
    (λ entry is. let p = fired_in pick o.state entry in
    ap (λ found. (goes pick most limit o found).notices) is
    ∙ tells_by pick most limit (fired pick o entry)
    ∙ ap (λ (q : Course). q.notices ++ told_by (firings_by pick most limit q.state)) (on_a_way pick o entry)
    ∙ append_assoc o.notices p.notices (told_by (firings_by pick most limit p.state))
    ∙ sym (ap (λ found. o.notices ++ told_by (from pick most limit o.state found)) is))

-- the first so many of all that fire
first_firings : (pick : Pick) (k most limit : ℕ) (s : StateView) → limit ≤ time_limit → IsSound s → length s.timers ≤ most
    → take k (firings_by pick most limit s) ≡ firings_by pick k limit s
unfolding firings_by
first_firings pick zero most limit s within sound few = refl
first_firings pick (suc k) zero limit s within sound few = sym (ap (from pick k limit s) (nothing_due limit s.timers few))
first_firings pick (suc k) (suc most) limit s within sound few = by_found (due_by limit (earliest s))
    (λ none. ap (λ found. take (suc k) (from pick most limit s found)) none ∙ sym (ap (from pick k limit s) none))
    (λ entry is. let fewer = fired_fewer pick limit (course_of s [] []) entry sound is in
    ap (λ found. take (suc k) (from pick most limit s found)) is
    ∙ ap (λ rest. firing entry.0 (fired_in pick s entry).notices ∷ rest)
    (first_firings pick k most limit (fired_in pick s entry).state within (sound_fired pick limit (course_of s [] []) entry within sound is)
    (omega (arith, few, fewer)))
    ∙ sym (ap (from pick k limit s) is))

pub firings_tell_the_tick : FiringsTellTheTick
unfolding firings next ticked all_fired
firings_tell_the_tick s ms pick valid fine =
    let within = (accepted_tick s ms fine).limit in
    let limit : ℕ = s.time + ms in (
      sym (tells_by pick (length s.timers) limit (course_of s [] [])),
      λ k. ap told_by (first_firings pick k (length s.timers) limit s within valid.sound (omega arith)) ∙ sym (tells_by pick k limit (course_of s [] [])),
    )

-- ---- when they were due
effect_time : (o : Course) (t : Timer) → (effect o t).state.time ≡ o.state.time
effect_time o (Sync n) = by (all_alive o.state (mandatory_of o.state.cluster n))
  where
    by : (b : Bool) → (cond b (come_up o n) (ended o n)).state.time ≡ o.state.time
    by true = come_up_time o n
    by false = ended_time o n
effect_time o (Failover a) = by (standing_of o.state a)
  where
    by : (standing : Standing) → (wanted_if_lost o.state a standing).time ≡ o.state.time
    by (Lost n) = refl
    by _ = refl

-- behind a timer that fires it is as late as it was due
fired_time : (pick : Pick) (o : Course) (entry : ℕ × Timer) → (fired pick o entry).state.time ≡ entry.0
unfolding fired
fired_time pick o entry =
    let q = effect (taken_off o entry) entry.1 in
    settled_time pick (ready_come_up q) ∙ ready_come_up_time q ∙ effect_time (taken_off o entry) entry.1

-- no timer is due before now
due_now : (limit : ℕ) (s : StateView) (entry : ℕ × Timer) → IsSound s → due_by limit (earliest s) ≡ Some entry → s.time ≤ entry.0
due_now limit s entry sound is =
    let first = due_stands_first limit s.timers entry is in
    subst (λ (xs : List (ℕ × Timer)). All (λ e. s.time ≤ e.0) xs) first.1 sound.timers.due 0 entry (omega arith)

not_before : (pick : Pick) (most limit : ℕ) (s : StateView) → limit ≤ time_limit → IsSound s → All (λ f. s.time ≤ f.due) (firings_by pick most limit s)
unfolding firings_by
not_before pick zero limit s within sound = λ k d l. absurd (omega arith)
not_before pick (suc most) limit s within sound = by_found (due_by limit (earliest s))
    (λ none. subst (λ found. All (λ f. s.time ≤ f.due) (from pick most limit s found)) (sym none) (λ k d l. absurd (omega arith)))
    (λ entry is.
    let p = fired_in pick s entry in
    let now = due_now limit s entry sound is in
    let time = fired_time pick (course_of s [] []) entry in
    let rest = not_before pick most limit p.state within (sound_fired pick limit (course_of s [] []) entry within sound is) in
    subst (λ found. All (λ f. s.time ≤ f.due) (from pick most limit s found)) (sym is)
    (All-cons (λ (f : FiringView). s.time ≤ f.due) (firing entry.0 p.notices) (firings_by pick most limit p.state) now
    (λ k d l. let later = rest k d l in omega (arith, later, time, now))))

not_behind : (pick : Pick) (most limit : ℕ) (s : StateView) → All (λ f. f.due ≤ limit) (firings_by pick most limit s)
unfolding firings_by
not_behind pick zero limit s = λ k d l. absurd (omega arith)
not_behind pick (suc most) limit s = by_found (due_by limit (earliest s))
    (λ none. subst (λ found. All (λ f. f.due ≤ limit) (from pick most limit s found)) (sym none) (λ k d l. absurd (omega arith)))
    (λ entry is.
    let p = fired_in pick s entry in
    subst (λ found. All (λ f. f.due ≤ limit) (from pick most limit s found)) (sym is)
    (All-cons (λ (f : FiringView). f.due ≤ limit) (firing entry.0 p.notices) (firings_by pick most limit p.state)
    (due_within limit (earliest s) entry is) (not_behind pick most limit p.state)))

-- one that is due no later than the others, before them
ordered_cons : (f : FiringView) (fs : List FiringView) → All (λ g. f.due ≤ g.due) fs → IsNonDecreasingBy (λ g. g.due) fs
    → IsNonDecreasingBy (λ g. g.due) (f ∷ fs)
ordered_cons f fs least o zero zero d l m = omega arith
ordered_cons f fs least o zero (suc j) d l m = least j d (omega arith)
ordered_cons f fs least o (suc i) zero d l m = absurd (omega arith)
ordered_cons f fs least o (suc i) (suc j) d l m = o i j d (omega arith) (omega arith)

in_order : (pick : Pick) (most limit : ℕ) (s : StateView) → limit ≤ time_limit → IsSound s → IsNonDecreasingBy (λ f. f.due) (firings_by pick most limit s)
unfolding firings_by
in_order pick zero limit s within sound = λ i j d l m. absurd (omega arith)
in_order pick (suc most) limit s within sound = by_found (due_by limit (earliest s))
    (λ none. subst (λ found. IsNonDecreasingBy (λ f. f.due) (from pick most limit s found)) (sym none) (λ i j d l m. absurd (omega arith)))
    (λ entry is.
    let p = fired_in pick s entry in
    let later = sound_fired pick limit (course_of s [] []) entry within sound is in
    let time = fired_time pick (course_of s [] []) entry in
    let rest = not_before pick most limit p.state within later in
    subst (λ found. IsNonDecreasingBy (λ f. f.due) (from pick most limit s found)) (sym is)
    (ordered_cons (firing entry.0 p.notices) (firings_by pick most limit p.state)
    (λ k d l. let g = rest k d l in omega (arith, g, time))
    (in_order pick most limit p.state within later)))

pub firings_are_in_time : FiringsAreInTime
unfolding firings
firings_are_in_time s ms pick valid fine =
    let within = (accepted_tick s ms fine).limit in (
      in_order pick (length s.timers) (s.time + ms) s within valid.sound,
      not_before pick (length s.timers) (s.time + ms) s within valid.sound,
      not_behind pick (length s.timers) (s.time + ms) s,
    )
