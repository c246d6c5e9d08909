-- Time passes alike at a later time, and each step is alike.
use Rattle.std.proofs.Common.{◌≡◌, ◌+◌, ℕ, zero, suc, cond, nat_le, List, [], ◌∷◌, length, map, slice_get, Option, Some, None, refl, ap, ◌∙◌, add_assoc}
use Rattle.rh_model.specs.ClusterView.{mandatory_of}
use Rattle.rh_state.specs.declared.status.Standing.{Standing}
use Rattle.rh_state.specs.declared.status.Standing.TheVariants.{Quiet, Wanted, Running, Lost}
use Rattle.rh_state.specs.declared.status.Timer.{Timer}
use Rattle.rh_state.specs.declared.status.Timer.TheVariants.{Sync, Failover}
use Rattle.rh_state.specs.Setters.{with_time}
use Rattle.rh_state.specs.StateView.{StateView, earliest, standing_of}
use Rattle.rh_rules.specs.declared.event.Event.{Event}
use Rattle.rh_rules.specs.declared.event.Event.TheVariants.{Tick}
use Rattle.rh_rules.specs.declared.pick.Pick.{Pick}
use Rattle.rh_rules.specs.Course.{Course, now_in, course_of}
use Rattle.rh_rules.specs.NodesStart.{all_alive, ready_come_up}
use Rattle.rh_rules.specs.NodesEnd.{wanted_if_lost}
use Rattle.rh_rules.specs.Settling.{settled}
use Rattle.rh_rules.specs.Time.{due_by, effect, taken_off, fired, go_on, fired_by, all_fired, ticked}
use Rattle.rh_rules.specs.Steps.{change, followed, Outcome, outcome, next}
use Rattle.rh_keys.proofs.Changing.{change_later, ended_later, ready_up_later, up_later}
use Rattle.rh_keys.proofs.Settling.{settled_later}
use Rattle.rh_keys.proofs.Shifting.{later, shifted, shifted_course, either_way, same_order, timer_off}

-- ---- a timer fires
effect_later : (d : ℕ) (o : Course) (t : Timer) → effect (shifted_course d o) t ≡ shifted_course d (effect o t)
unfolding all_alive
effect_later d o (Sync n) = either_way (shifted_course d) (all_alive o.state (mandatory_of o.state.cluster n)) (up_later d o n) (ended_later d o n)
effect_later d o (Failover a) = ap (now_in o) (by (standing_of o.state a))
  where
    by : (st : Standing) → wanted_if_lost (shifted d o.state) a st ≡ shifted d (wanted_if_lost o.state a st)
    by (Lost n) = refl
    by Quiet = refl
    by (Wanted from) = refl
    by (Running n) = refl

taken_off_later : (d : ℕ) (o : Course) (entry : ℕ × Timer) → taken_off (shifted_course d o) (later d entry) ≡ shifted_course d (taken_off o entry)
taken_off_later d o entry = ap (λ (s : StateView). course_of (with_time s (d + entry.0)) o.notices []) (timer_off d o.state entry.1)

fired_later : (d : ℕ) (pick : Pick) (o : Course) (entry : ℕ × Timer) → fired pick (shifted_course d o) (later d entry) ≡ shifted_course d (fired pick o entry)
unfolding fired
fired_later d pick o entry =
    let p : Course = taken_off o entry in
    ap (λ q. settled pick (ready_come_up (effect q entry.1))) (taken_off_later d o entry)
    ∙ ap (λ q. settled pick (ready_come_up q)) (effect_later d p entry.1)
    ∙ ap (settled pick) (ready_up_later d (effect p entry.1))
    ∙ settled_later d pick (ready_come_up (effect p entry.1))

-- ---- all that are due
-- a timer as it is later, if there is one
abbrev later_if_some : ℕ → Option (ℕ × Timer) → Option (ℕ × Timer)
later_if_some d None = None
later_if_some d (Some entry) = Some (later d entry)

earliest_later : (d : ℕ) (timers : List (ℕ × Timer)) → slice_get (map (later d) timers) 0 ≡ later_if_some d (slice_get timers 0)
earliest_later d [] = refl
earliest_later d (x ∷ xs) = refl

due_later : (d limit : ℕ) (next : Option (ℕ × Timer)) → due_by (d + limit) (later_if_some d next) ≡ later_if_some d (due_by limit next)
due_later d limit None = refl
due_later d limit (Some entry) =
    ap (λ b. cond b (Some (later d entry)) None) (same_order d entry.0 limit)
    ∙ either_way (later_if_some d) (nat_le entry.0 limit) refl refl

fired_by_later : (d : ℕ) (pick : Pick) (most limit : ℕ) (o : Course)
    → fired_by pick most (d + limit) (shifted_course d o) ≡ shifted_course d (fired_by pick most limit o)
unfolding fired_by
fired_by_later d pick zero limit o = refl
fired_by_later d pick (suc most) limit o =
    ap (λ entry. go_on (shifted_course d o) entry (λ x. fired_by pick most (d + limit) (fired pick (shifted_course d o) x)))
    (ap (due_by (d + limit)) (earliest_later d o.state.timers) ∙ due_later d limit (earliest o.state))
    ∙ by (due_by limit (earliest o.state)) (λ p. fired_by_later d pick most limit p)
  where
    by : (next : Option (ℕ × Timer))
        → ((p : Course) → fired_by pick most (d + limit) (shifted_course d p) ≡ shifted_course d (fired_by pick most limit p))
        → go_on (shifted_course d o) (later_if_some d next) (λ x. fired_by pick most (d + limit) (fired pick (shifted_course d o) x))
        ≡ shifted_course d (go_on o next (λ x. fired_by pick most limit (fired pick o x)))
    by None rest = refl
    by (Some entry) rest = ap (fired_by pick most (d + limit)) (fired_later d pick o entry) ∙ rest (fired pick o entry)

same_length : (d : ℕ) (timers : List (ℕ × Timer)) → length (map (later d) timers) ≡ length timers
same_length d [] = refl
same_length d (x ∷ xs) = ap suc (same_length d xs)

all_fired_later : (d : ℕ) (pick : Pick) (limit : ℕ) (o : Course) → all_fired pick (d + limit) (shifted_course d o) ≡ shifted_course d (all_fired pick limit o)
unfolding all_fired
all_fired_later d pick limit o =
    ap (λ most. fired_by pick most (d + limit) (shifted_course d o)) (same_length d o.state.timers)
    ∙ fired_by_later d pick (length o.state.timers) limit o

ticked_later : (d : ℕ) (pick : Pick) (o : Course) (ms : ℕ) → ticked pick (shifted_course d o) ms ≡ shifted_course d (ticked pick o ms)
unfolding ticked
ticked_later d pick o ms =
    let end : ℕ = o.state.time + ms in
    ap (λ limit. let p : Course = all_fired pick limit (shifted_course d o) in now_in p (with_time p.state limit)) (add_assoc d o.state.time ms)
    ∙ ap (λ (p : Course). now_in p (with_time p.state (d + end))) (all_fired_later d pick end o)

-- ---- a step
-- where it leads, later
abbrev pub outcome_later : ℕ → Outcome → Outcome
outcome_later d p = outcome (shifted d p.state) p.notices

followed_later : (d : ℕ) (pick : Pick) (o : Course) (e : Event) → followed pick (shifted_course d o) e ≡ shifted_course d (followed pick o e)
unfolding followed
followed_later d pick o e =
    ap (λ p. settled pick (ready_come_up p)) (change_later d o e)
    ∙ ap (settled pick) (ready_up_later d (change o e))
    ∙ settled_later d pick (ready_come_up (change o e))

pub next_later : (d : ℕ) (s : StateView) (e : Event) (pick : Pick) → next (shifted d s) e pick ≡ outcome_later d (next s e pick)
unfolding next
next_later d s (Tick ms) pick = ap (λ (p : Course). outcome p.state p.notices) (ticked_later d pick (course_of s [] []) ms)
next_later d s e pick = ap (λ (p : Course). outcome p.state p.notices) (followed_later d pick (course_of s [] []) e)
