-- The states that events lead through.
use Rattle.std.proofs.Common.{◌≡◌, ◌<◌, ◌≤◌, ◌+◌, ℕ, zero, suc, List, [], ◌∷◌, ◌++◌, length, take, fold, slice_get, Option, Some, None}
use Rattle.std.proofs.Common.{refl, sym, ap, ◌∙◌, append_assoc, arith}
use Rattle.std.proofs.lemmas.List.{append-nil, take_more}
use Rattle.std.proofs.lemmas.List.Sums.{fold_push}
use Rattle.std.proofs.lemmas.Option.{get_or_from_slice_get}
use Rattle.rh_state.specs.First.{first}
use Rattle.rh_state.specs.declared.status.Timer.{Timer}
use Rattle.rh_state.specs.Limits.{time_limit}
use Rattle.rh_state.specs.StateView.{StateView, earliest}
use Rattle.rh_rules.specs.declared.event.Event.{Event}
use Rattle.rh_rules.specs.declared.event.Event.TheVariants.{Tick}
use Rattle.rh_rules.specs.declared.pick.Pick.{Pick}
use Rattle.rh_rules.specs.Course.{Course, course_of}
use Rattle.rh_rules.specs.NodesStart.{ready_come_up}
use Rattle.rh_rules.specs.Steps.{change, followed, next}
use Rattle.rh_rules.specs.Time.{due_by, effect, taken_off, fired, all_fired, ticked}
use Rattle.rh_settle.proofs.Unchanged.{settled_cluster}
use Rattle.rh_events.proofs.SoundComingUp.{ready_come_up_cluster}
use Rattle.rh_events.proofs.EachEvent.{change_cluster}
use Rattle.rh_step.proofs.Firing.{effect_cluster}
use Rattle.rh_trace.specs.Validity.{IsSound}
use Rattle.rh_step.specs.Firings.{fired_in}
use Rattle.rh_step.proofs.Fuel.{by_found, by_firing, nothing_due, fired_fewer, sound_fired}
use Rattle.rh_step.specs.Runs.{step, after}
use Rattle.rh_trail.specs.SimView.{SimView, state_of}
use Rattle.rh_courses.specs.Moments.{if_found, behind_timers, behind_firings, passed_in, passed, states_of}

-- the states where this is found due
abbrev from : Pick → ℕ → ℕ → StateView → Option (ℕ × Timer) → List StateView
from pick most limit s found = if_found found
    (λ entry. (fired_in pick s entry).state ∷ behind_timers pick most limit (fired_in pick s entry).state)

-- with enough firings, more change nothing
enough_states : (pick : Pick) (k j limit : ℕ) (s : StateView) → limit ≤ time_limit → IsSound s → length s.timers ≤ k → length s.timers ≤ j
    → behind_timers pick k limit s ≡ behind_timers pick j limit s
unfolding behind_timers
enough_states pick zero zero limit s within sound a b = refl
enough_states pick zero (suc j) limit s within sound a b = sym (ap (from pick j limit s) (nothing_due limit s.timers a))
enough_states pick (suc k) zero limit s within sound a b = ap (from pick k limit s) (nothing_due limit s.timers b)
enough_states pick (suc k) (suc j) limit s within sound a b = by_found (due_by limit (earliest s))
    (λ none. ap (from pick k limit s) none ∙ sym (ap (from pick j limit s) none))
    (λ entry is. let fewer = fired_fewer pick limit (course_of s [] []) entry sound is in
    ap (from pick k limit s) is
    ∙ ap (λ rest. (fired_in pick s entry).state ∷ rest)
    (enough_states pick k j limit (fired_in pick s entry).state within (sound_fired pick limit (course_of s [] []) entry within sound is)
    (omega (arith, a, fewer)) (omega (arith, b, fewer)))
    ∙ sym (ap (from pick j limit s) is))

-- all states are the first one and then all the others
pub first_and_others : (pick : Pick) (limit : ℕ) (s : StateView) (entry : ℕ × Timer) → limit ≤ time_limit → IsSound s → due_by limit (earliest s) ≡ Some entry
    → behind_timers pick (length s.timers) limit s ≡ (fired_in pick s entry).state
    ∷ behind_timers pick (length (fired_in pick s entry).state.timers) limit (fired_in pick s entry).state
unfolding behind_timers
first_and_others pick limit s entry within sound is =
    let fewer = fired_fewer pick limit (course_of s [] []) entry sound is in
    let later = sound_fired pick limit (course_of s [] []) entry within sound is in
    enough_states pick (length s.timers) (suc (length s.timers)) limit s within sound (omega arith) (omega arith)
    ∙ ap (from pick (length s.timers) limit s) is
    ∙ ap (λ rest. (fired_in pick s entry).state ∷ rest)
    (enough_states pick (length s.timers) (length (fired_in pick s entry).state.timers) limit (fired_in pick s entry).state within later
    (omega (arith, fewer)) (omega arith))

-- where none is due, no state is passed
pub none_passed : (pick : Pick) (k limit : ℕ) (s : StateView) → due_by limit (earliest s) ≡ None → behind_timers pick k limit s ≡ []
unfolding behind_timers
none_passed pick zero limit s none = refl
none_passed pick (suc k) limit s none = ap (from pick k limit s) none

-- an event that is no tick leads through the state behind it alone
pub no_tick : (pick : Pick) (s : StateView) (e : Event) → ((ms : ℕ) → e ≡ Tick ms → ⊥) → behind_firings pick s e ≡ []
unfolding behind_firings
no_tick pick s (Tick ms) not = absurd (not ms refl)
no_tick pick s e not = refl

-- one event more
pub passed_more : (pick : Pick) (s : StateView) (es : List Event) (e : Event)
    → passed pick s (es ++ e ∷ []) ≡ passed pick s es ++ passed_in pick (fold (step pick) s es) e
unfolding passed
passed_more pick s [] e = append-nil (passed_in pick s e)
passed_more pick s (x ∷ es) e =
    ap (λ states. passed_in pick s x ++ states) (passed_more pick (step pick s x) es e)
    ∙ sym (append_assoc (passed_in pick s x) (passed pick (step pick s x) es) (passed_in pick (fold (step pick) (step pick s x) es) e))

-- a timer that fires leaves the cluster
fired_keeps : (pick : Pick) (o : Course) (entry : ℕ × Timer) → (fired pick o entry).state.cluster ≡ o.state.cluster
unfolding fired
fired_keeps pick o entry =
    let q = effect (taken_off o entry) entry.1 in
    settled_cluster pick (ready_come_up q) ∙ ready_come_up_cluster q ∙ effect_cluster (taken_off o entry) entry.1

pub fired_cluster : (pick : Pick) (s : StateView) (entry : ℕ × Timer) → (fired_in pick s entry).state.cluster ≡ s.cluster
fired_cluster pick s entry = fired_keeps pick (course_of s [] []) entry

-- and so does each event
followed_cluster : (pick : Pick) (o : Course) (e : Event) → (followed pick o e).state.cluster ≡ o.state.cluster
unfolding followed
followed_cluster pick o e = settled_cluster pick (ready_come_up (change o e)) ∙ ready_come_up_cluster (change o e) ∙ change_cluster o e

step_cluster : (pick : Pick) (s : StateView) (e : Event) → (step pick s e).cluster ≡ s.cluster
unfolding step next ticked all_fired
step_cluster pick s (Tick ms) =
    by_firing (λ p. p.state.cluster ≡ s.cluster) pick (s.time + ms) (λ o entry is due. fired_keeps pick o entry ∙ is)
    (length s.timers) (course_of s [] []) refl
step_cluster pick s e = followed_cluster pick (course_of s [] []) e

steps_cluster : (pick : Pick) (s : StateView) (es : List Event) → (fold (step pick) s es).cluster ≡ s.cluster
steps_cluster pick s [] = refl
steps_cluster pick s (e ∷ es) = steps_cluster pick (step pick s e) es ∙ step_cluster pick s e

pub state_cluster : (s : SimView) → (state_of s).cluster ≡ s.cluster
state_cluster s = steps_cluster s.pick (first s.cluster) (take s.cursor s.trail)

-- ---- in a simulation

-- the events that stand, with one more of them
one_more : (trail : List Event) (k : ℕ) (e : Event) → slice_get trail k ≡ Some e → k < length trail → take (k + 1) trail ≡ take k trail ++ e ∷ []
one_more trail k e is inside = take_more trail k e inside ∙ ap (λ (x : Event). take k trail ++ x ∷ []) (get_or_from_slice_get trail k e e is)

module _ (s : SimView) (e : Event) (is : slice_get s.trail s.cursor ≡ Some e) (inside : s.cursor < length s.trail) where
  pub state_more : state_of (record s { cursor = s.cursor + 1 }) ≡ step s.pick (state_of s) e
  state_more =
      ap (after s.cluster s.pick) (one_more s.trail s.cursor e is inside)
      ∙ fold_push (step s.pick) (first s.cluster) (take s.cursor s.trail) e

  pub states_more : states_of (record s { cursor = s.cursor + 1 }) ≡ states_of s ++ passed_in s.pick (state_of s) e
  states_more =
      ap (passed s.pick (first s.cluster)) (one_more s.trail s.cursor e is inside)
      ∙ passed_more s.pick (first s.cluster) (take s.cursor s.trail) e

-- a tick ends at its time
pub tick_end : (pick : Pick) (s : StateView) (ms : ℕ) → (step pick s (Tick ms)).time ≡ s.time + ms
unfolding step next ticked
tick_end pick s ms = refl

-- the states behind its firings are those behind the timers that are due by then
pub tick_firings : (pick : Pick) (s : StateView) (ms : ℕ) → behind_firings pick s (Tick ms) ≡ behind_timers pick (length s.timers) (s.time + ms) s
unfolding behind_firings
tick_firings pick s ms = refl

-- none where the first timer is due later
pub none_in_tick : (pick : Pick) (s : StateView) (ms : ℕ) → due_by (s.time + ms) (earliest s) ≡ None → behind_firings pick s (Tick ms) ≡ []
none_in_tick pick s ms none = tick_firings pick s ms ∙ none_passed pick (length s.timers) (s.time + ms) s none

-- before the first event no state was passed
pub none_yet : (s : SimView) → s.cursor ≡ 0 → states_of s ≡ []
unfolding passed
none_yet s start = ap (λ k. passed s.pick (first s.cluster) (take k s.trail)) start
