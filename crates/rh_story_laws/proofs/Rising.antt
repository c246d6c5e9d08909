-- Times don't fall along the states that a simulation has passed through.
use Rattle.std.proofs.Common.{◌≡◌, ◌≤◌, ◌+◌, ℕ, zero, suc, List, [], ◌∷◌, ◌++◌, Bool, true, false, cond, length, fold, map, Option, Some, All, refl, sym, ◌∙◌, subst, arith}
use Rattle.rh_model.specs.declared.node.Node.{Node}
use Rattle.rh_model.specs.declared.node.App.{App}
use Rattle.rh_model.specs.ClusterView.{mandatory_of}
use Rattle.rh_state.specs.Limits.{time_limit}
use Rattle.rh_state.specs.declared.status.Standing.{Standing}
use Rattle.rh_state.specs.declared.status.Standing.TheVariants.{Lost}
use Rattle.rh_state.specs.declared.status.Timer.{Timer}
use Rattle.rh_state.specs.declared.status.Timer.TheVariants.{Sync, Failover}
use Rattle.rh_state.specs.StateView.{StateView, earliest, standing_of}
use Rattle.rh_rules.specs.declared.pick.Pick.{Pick}
use Rattle.rh_rules.specs.declared.event.Event.{Event}
use Rattle.rh_rules.specs.declared.event.Event.TheVariants.{Tick}
use Rattle.rh_rules.specs.Course.{Course, course_of}
use Rattle.rh_rules.specs.NodesStart.{all_alive, come_up, ready_come_up}
use Rattle.rh_rules.specs.NodesEnd.{ended, wanted_if_lost}
use Rattle.rh_rules.specs.Steps.{followed, next}
use Rattle.rh_rules.specs.Time.{due_by, effect, taken_off, fired, ticked}
use Rattle.rh_trace.specs.Validity.{IsSound, IsValid}
use Rattle.rh_settle.proofs.Unchanged.{settled_time}
use Rattle.rh_events.proofs.Fields.{ended_time}
use Rattle.rh_events.proofs.SoundComingUp.{come_up_time, ready_come_up_time}
use Rattle.rh_step.specs.Firings.{fired_in}
use Rattle.rh_step.proofs.Fuel.{by_found, due_stands_first, due_within, sound_fired}
use Rattle.rh_step.proofs.TimeLaws.{followed_time}
use Rattle.rh_step.specs.Runs.{step}
use Rattle.rh_courses.specs.declared.course.Change.{Change}
use Rattle.rh_courses.specs.Moments.{if_found, behind_timers, behind_firings, passed_in, passed}
use Rattle.rh_courses.specs.Courses.{moment, same_place, changes_from}
use Rattle.rh_courses.specs.Laws.{began_by, DontFall}

-- these states come one after the other, from one time on and up to another
abbrev pub Rising : ℕ → List StateView → ℕ → Type 0
Rising from [] to = from ≤ to
Rising from (s ∷ states) to = (from ≤ s.time) × Rising s.time states to

earlier : (a b : ℕ) (states : List StateView) (to : ℕ) → a ≤ b → Rising b states to → Rising a states to
earlier a b [] to l r = omega (arith, l, r)
earlier a b (s ∷ states) to l r = (omega (arith, l, r.0), r.1)

rising_append : (from : ℕ) (xs : List StateView) (mid : ℕ) (ys : List StateView) (to : ℕ) → Rising from xs mid → Rising mid ys to → Rising from (xs ++ ys) to
rising_append from [] mid ys to a b = earlier from mid ys to a b
rising_append from (s ∷ xs) mid ys to a b = (a.0, rising_append s.time xs mid ys to a.1 b)

-- ---- so the changes of a course come one after the other
pub changes_dont_fall : (a : App) (states : List StateView) (from to : ℕ) (place : Option Node) → Rising from states to
    → DontFall to (changes_from place (map (moment a) states)) × (from ≤ began_by to (changes_from place (map (moment a) states)))
unfolding changes_from
changes_dont_fall a [] from to place r = (tt, r)
changes_dont_fall a (s ∷ states) from to place r =
    by (same_place place (moment a s).place) (changes_dont_fall a states s.time to (moment a s).place r.1)
  where
    rest : List Change
    rest = changes_from (moment a s).place (map (moment a) states)

    by : (b : Bool)
        → DontFall to (changes_from (moment a s).place (map (moment a) states)) × (s.time ≤ began_by to (changes_from (moment a s).place (map (moment a) states)))
        → DontFall to (cond b (changes_from (moment a s).place (map (moment a) states)) (moment a s ∷ changes_from (moment a s).place (map (moment a) states)))
        × (from ≤ began_by to (cond b (changes_from (moment a s).place (map (moment a) states)) (moment a s ∷ changes_from (moment a s).place (map (moment a) states))))
    by true h = let l = r.0 in (h.0, omega (arith, l, h.1))
    by false h = ((h.1, h.0), r.0)

-- ---- the states behind the timers of a tick
effect_time : (o : Course) (t : Timer) → (effect o t).state.time ≡ o.state.time
effect_time o (Sync n) = by (all_alive o.state (mandatory_of o.state.cluster n))
  where
    by : (b : Bool) → (cond b (come_up o n) (ended o n)).state.time ≡ o.state.time
    by true = come_up_time o n
    by false = ended_time o n
effect_time o (Failover a) = by (standing_of o.state a)
  where
    by : (standing : Standing) → (wanted_if_lost o.state a standing).time ≡ o.state.time
    by (Lost n) = refl
    by _ = refl

-- behind a timer that fires it is as late as it was due
fired_time : (pick : Pick) (o : Course) (entry : ℕ × Timer) → (fired pick o entry).state.time ≡ entry.0
unfolding fired
fired_time pick o entry =
    let q = effect (taken_off o entry) entry.1 in
    settled_time pick (ready_come_up q) ∙ ready_come_up_time q ∙ effect_time (taken_off o entry) entry.1

due_now : (limit : ℕ) (s : StateView) (entry : ℕ × Timer) → IsSound s → due_by limit (earliest s) ≡ Some entry → s.time ≤ entry.0
due_now limit s entry sound is =
    let first = due_stands_first limit s.timers entry is in
    subst (λ (xs : List (ℕ × Timer)). All (λ e. s.time ≤ e.0) xs) first.1 sound.timers.due 0 entry (omega arith)

timers_rise : (pick : Pick) (most limit : ℕ) (s : StateView) → limit ≤ time_limit → IsSound s → s.time ≤ limit
    → Rising s.time (behind_timers pick most limit s) limit
unfolding behind_timers
timers_rise pick zero limit s within sound l = l
timers_rise pick (suc most) limit s within sound l = by_found (due_by limit (earliest s))
    (λ none. subst (λ found. Rising s.time (if_found found next_states) limit) (sym none) l)
    (λ entry is.
    let p = fired_in pick s entry in
    let now = due_now limit s entry sound is in
    let time = fired_time pick (course_of s [] []) entry in
    let due = due_within limit (earliest s) entry is in
    let least : s.time ≤ p.state.time = omega (arith, now, time) in
    let most_time : p.state.time ≤ limit = omega (arith, due, time) in
    subst (λ found. Rising s.time (if_found found next_states) limit) (sym is)
    (least, timers_rise pick most limit p.state within (sound_fired pick limit (course_of s [] []) entry within sound is) most_time))
  where
    next_states : ℕ × Timer → List StateView
    next_states = λ entry. (fired_in pick s entry).state ∷ behind_timers pick most limit (fired_in pick s entry).state

-- ---- the states that events lead through
no_time : (pick : Pick) (s : StateView) (e : Event) → s.time ≤ (followed pick (course_of s [] []) e).state.time
no_time pick s e = let same = followed_time pick (course_of s [] []) e in omega (arith, same)

event_rises : (pick : Pick) (s : StateView) (e : Event) → IsValid s → IsValid (step pick s e) → Rising s.time (passed_in pick s e) (step pick s e).time
unfolding step next ticked behind_firings
event_rises pick s (Tick ms) valid later =
    let limit : ℕ = s.time + ms in
    let within : limit ≤ time_limit = later.sound.shaped.time in
    rising_append s.time (behind_timers pick (length s.timers) limit s) limit (step pick s (Tick ms) ∷ []) limit
    (timers_rise pick (length s.timers) limit s within valid.sound (omega arith)) (omega arith, omega arith)
event_rises pick s e valid later = (no_time pick s e, omega arith)

-- before and behind each of these events the state is one that a cluster reaches
abbrev pub AllValid : Pick → StateView → List Event → Type 0
AllValid pick s [] = IsValid s
AllValid pick s (e ∷ es) = IsValid s × AllValid pick (step pick s e) es

first_valid : (pick : Pick) (s : StateView) (es : List Event) → AllValid pick s es → IsValid s
first_valid pick s [] all = all
first_valid pick s (e ∷ es) all = all.0

pub events_rise : (pick : Pick) (s : StateView) (es : List Event) → AllValid pick s es → Rising s.time (passed pick s es) (fold (step pick) s es).time
unfolding passed
events_rise pick s [] all = omega arith
events_rise pick s (e ∷ es) all =
    rising_append s.time (passed_in pick s e) (step pick s e).time (passed pick (step pick s e) es) (fold (step pick) (step pick s e) es).time
    (event_rises pick s e all.0 (first_valid pick (step pick s e) es all.1)) (events_rise pick (step pick s e) es all.1)
