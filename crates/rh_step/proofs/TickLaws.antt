-- A tick in two parts, and a tick behind earlier notices.
use Rattle.std.proofs.Common.{◌≡◌, ℕ, zero, suc, ◌+◌, ◌≤◌, ◌==◌, Bool, true, false, cond, List, [], ◌∷◌, ◌++◌, None, Some, nat_le, nat_lt, slice_get, refl, sym}
use Rattle.std.proofs.Common.{ap, ◌∙◌, append-nil, arith}
use Rattle.std.proofs.lemmas.Bool.Decides.{nat_tests}
use Rattle.rh_model.specs.ClusterView.{mandatory_of}
use Rattle.rh_state.specs.declared.status.Timer.{Timer}
use Rattle.rh_state.specs.declared.status.Timer.TheVariants.{Sync, Failover}
use Rattle.rh_state.specs.Limits.{time_limit}
use Rattle.rh_state.specs.StateView.{StateView, earliest}
use Rattle.rh_state.specs.Setters.{with_time}
use Rattle.rh_rules.specs.declared.pick.Pick.{Pick}
use Rattle.rh_rules.specs.declared.notice.Notice.{Notice}
use Rattle.rh_rules.specs.Course.{Course, course_of, now_in}
use Rattle.rh_rules.specs.Settling.{settled}
use Rattle.rh_trace.specs.Validity.{IsSound}
use Rattle.rh_rules.specs.declared.event.Event.TheVariants.{Tick}
use Rattle.rh_rules.specs.NodesStart.{all_alive, come_up, ready_come_up}
use Rattle.rh_rules.specs.NodesEnd.{ended}
use Rattle.rh_rules.specs.declared.refusal.Refusal.TheVariants.{ZeroTick, TimeLimit}
use Rattle.rh_rules.specs.Refusals.{first_that_applies, refused}
use Rattle.rh_rules.specs.Time.{due_by, effect, taken_off, fired, fired_by, all_fired, ticked}
use Rattle.rh_rules.specs.Steps.{Outcome, outcome, outcome_of, next}
use Rattle.rh_step.specs.Laws.{TicksAddUp}
use Rattle.rh_refusals.proofs.Accepted.{accepted_tick}
use Rattle.rh_trace.proofs.Behind.{after_notices, settled_after}
use Rattle.rh_events.proofs.Notices.{come_up_after, ended_after, ready_come_up_after}
use Rattle.rh_step.proofs.Fuel.{timer_count, goes, by_found, unrolled, all_fired_end, sound_fired}
use Rattle.rh_step.proofs.FiredSound.{sound_before_end}

-- earlier notices don't matter
pub effect_after : (base : List Notice) (o : Course) (t : Timer) → effect (after_notices base o) t ≡ after_notices base (effect o t)
effect_after base o (Sync n) = by (all_alive o.state (mandatory_of o.state.cluster n))
  where
    by : (b : Bool) → cond b (come_up (after_notices base o) n) (ended (after_notices base o) n) ≡ after_notices base (cond b (come_up o n) (ended o n))
    by true = come_up_after base o n
    by false = ended_after base o n
effect_after base o (Failover a) = refl

pub fired_after : (base : List Notice) (pick : Pick) (o : Course) (entry : ℕ × Timer)
    → fired pick (after_notices base o) entry ≡ after_notices base (fired pick o entry)
unfolding fired
fired_after base pick o entry =
    let q = effect (taken_off o entry) entry.1 in
    ap (λ p. settled pick (ready_come_up p)) (effect_after base (taken_off o entry) entry.1)
    ∙ ap (settled pick) (ready_come_up_after base q)
    ∙ settled_after base pick (ready_come_up q)

fired_by_after : (base : List Notice) (pick : Pick) (k limit : ℕ) (o : Course) → fired_by pick k limit (after_notices base o)
    ≡ after_notices base (fired_by pick k limit o)
unfolding fired_by
fired_by_after base pick zero limit o = refl
fired_by_after base pick (suc k) limit o = by_found (due_by limit (earliest o.state))
    (λ none. ap (goes pick k limit (after_notices base o)) none ∙ sym (ap (λ found. after_notices base (goes pick k limit o found)) none))
    (λ entry is. ap (goes pick k limit (after_notices base o)) is
    ∙ ap (fired_by pick k limit) (fired_after base pick o entry)
    ∙ fired_by_after base pick k limit (fired pick o entry)
    ∙ sym (ap (λ found. after_notices base (goes pick k limit o found)) is))

all_fired_after : (base : List Notice) (pick : Pick) (limit : ℕ) (o : Course) → all_fired pick limit (after_notices base o)
    ≡ after_notices base (all_fired pick limit o)
unfolding all_fired
all_fired_after base pick limit o = fired_by_after base pick (timer_count o) limit o

-- the course at a later time
abbrev at_end : ℕ → Course → Course
at_end time p = now_in p (with_time p.state time)

pub ticked_after : (base : List Notice) (pick : Pick) (o : Course) (ms : ℕ) → ticked pick (after_notices base o) ms ≡ after_notices base (ticked pick o ms)
unfolding ticked
ticked_after base pick o ms = ap (at_end (o.state.time + ms)) (all_fired_after base pick (o.state.time + ms) o)

-- what is due first is due by a later time too
later_due : (limit more : ℕ) (entry : ℕ × Timer) (entries : List (ℕ × Timer)) → limit ≤ more → due_by limit (slice_get entries 0) ≡ Some entry
    → due_by more (slice_get entries 0) ≡ Some entry
later_due limit more entry [] le h = absurd (cc h)
later_due limit more entry (x ∷ xs) le h = by (nat_le x.0 limit) refl h
  where
    by : (b : Bool) → nat_le x.0 limit ≡ b → cond b (Some x) None ≡ Some entry → cond (nat_le x.0 more) (Some x) None ≡ Some entry
    by true is h = let late : nat_le x.0 more ≡ true = grind (arith, nat_tests, le, is) in ap (λ b. cond b (Some x) None) late ∙ h
    by false is h = absurd (cc h)

-- what is due later fires also after what is due first
goes_on_later : (pick : Pick) (k limit more : ℕ) (o : Course) → more ≤ time_limit → IsSound o.state → limit ≤ more
    → all_fired pick more o ≡ all_fired pick more (fired_by pick k limit o)
unfolding fired_by
goes_on_later pick zero limit more o within sound le = refl
goes_on_later pick (suc k) limit more o within sound le = by_found (due_by limit (earliest o.state))
    (λ none. sym (ap (λ found. all_fired pick more (goes pick k limit o found)) none))
    (λ entry is. unrolled pick more o entry within sound (later_due limit more entry o.state.timers le is)
    ∙ goes_on_later pick k limit more (fired pick o entry) within (sound_fired pick limit o entry (omega (arith, le, within)) sound is) le
    ∙ sym (ap (λ found. all_fired pick more (goes pick k limit o found)) is))

-- the time at which the firing begins is of no matter at its end, nor what was marked before
abbrev begun : ℕ → Course → Course
begun time o = course_of (with_time o.state time) o.notices []

abbrev seen_at : ℕ → Course → Outcome
seen_at time o = outcome_of (at_end time o)

begun_at : (pick : Pick) (limit time : ℕ) (o : Course) → limit ≤ time_limit → IsSound o.state → IsSound (begun time o).state
    → seen_at limit (all_fired pick limit (begun time o)) ≡ seen_at limit (all_fired pick limit o)
unfolding fired
begun_at pick limit time o within sound later = by_found (due_by limit (earliest o.state))
    (λ none. ap (seen_at limit) (all_fired_end pick limit (begun time o) none) ∙ sym (ap (seen_at limit) (all_fired_end pick limit o none)))
    (λ entry is. ap (seen_at limit) (unrolled pick limit (begun time o) entry within later is)
    ∙ sym (ap (seen_at limit) (unrolled pick limit o entry within sound is)))

from_none : (s : StateView) (base : List Notice) → course_of s base [] ≡ after_notices base (course_of s [] [])
from_none s base = ap (λ notices. course_of s notices []) (sym (append-nil base))

ticks_join : (s : StateView) (a b : ℕ) (pick : Pick) → s.time + a + b ≤ time_limit → IsSound s
    → next s (Tick (a + b)) pick ≡ outcome (next (next s (Tick a) pick).state (Tick b) pick).state
    ((next s (Tick a) pick).notices ++ (next (next s (Tick a) pick).state (Tick b) pick).notices)
unfolding next ticked all_fired
ticks_join s a b pick within sound =
    let first = all_fired pick (s.time + a) (course_of s [] []) in
    let fired_sound = sound_before_end pick (s.time + a) (course_of s [] []) (omega arith) sound in
    let same_end : s.time + (a + b) ≡ s.time + a + b = omega arith in
    ap (λ time. seen_at time (all_fired pick time (course_of s [] []))) same_end
    ∙ ap (seen_at (s.time + a + b))
    (goes_on_later pick (timer_count (course_of s [] [])) (s.time + a) (s.time + a + b) (course_of s [] []) within sound (omega arith))
    ∙ sym (begun_at pick (s.time + a + b) (s.time + a) first within fired_sound.0 fired_sound.1)
    ∙ ap (λ o. seen_at (s.time + a + b) (all_fired pick (s.time + a + b) o)) (from_none (with_time first.state (s.time + a)) first.notices)
    ∙ ap (seen_at (s.time + a + b)) (all_fired_after first.notices pick (s.time + a + b) (course_of (with_time first.state (s.time + a)) [] []))

-- when a tick isn't refused
accepted : (time ms : ℕ) → first_that_applies ((ms == 0, ZeroTick) ∷ (nat_lt time_limit (time + ms), TimeLimit) ∷ []) ≡ None
    → (ms == 0 ≡ false) × (nat_lt time_limit (time + ms) ≡ false)
accepted time ms fine = by (ms == 0) (nat_lt time_limit (time + ms)) refl refl fine
  where
    by : (zero late : Bool) → ms == 0 ≡ zero → nat_lt time_limit (time + ms) ≡ late → cond zero (Some ZeroTick) (cond late (Some TimeLimit) None) ≡ None
        → (ms == 0 ≡ false) × (nat_lt time_limit (time + ms) ≡ false)
    by true late e f h = absurd (cc h)
    by false true e f h = absurd (cc h)
    by false false e f h = (e, f)

join_accepted : (s : StateView) (a b : ℕ) (pick : Pick) → refused s (Tick a) ≡ None → refused (next s (Tick a) pick).state (Tick b) ≡ None
    → refused s (Tick (a + b)) ≡ None
unfolding refused next ticked
join_accepted s a b pick first second =
    let one = accepted s.time a first in
    let two = accepted (s.time + a) b second in
    let zero_is : (a + b == 0) ≡ false = grind (arith, nat_tests, one.0) in
    let late_is : nat_lt time_limit (s.time + (a + b)) ≡ false = grind (arith, nat_tests, two.1) in
    ap (λ (zero : Bool). cond zero (Some ZeroTick) (cond (nat_lt time_limit (s.time + (a + b))) (Some TimeLimit) None)) zero_is
    ∙ ap (λ (late : Bool). cond late (Some TimeLimit) None) late_is

pub ticks_add_up : TicksAddUp
ticks_add_up s a b pick valid first second =
    let fine = join_accepted s a b pick first second in
    let within = (accepted_tick s (a + b) fine).limit in
    (fine, ticks_join s a b pick (omega (arith, within)) valid.sound)
