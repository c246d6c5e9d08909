-- A plan goes alike from two simulations of the same cells, where there is room for its events in both.
use Rattle.std.proofs.Common.{◌≡◌, ◌<◌, ◌≤◌, ◌+◌, ℕ, Bool, true, false, cond, List, [], ◌∷◌, length, None, refl, sym, ap, ◌∙◌, arith}
use Rattle.rh_rules.specs.declared.event.Event.{Event}
use Rattle.rh_otp_sim.specs.declared.stepping.Outcome.{Outcome}
use Rattle.rh_otp_sim.specs.declared.stepping.Outcome.TheVariants as outcome
use Rattle.rh_otp_sim.specs.Sim.{LiveSimView, without_past}
use Rattle.rh_otp_sim.specs.Stepping.{stepped, outcome_of as comes_to}
use Rattle.rh_otp_sweep.specs.declared.outcome.EventAnswer.{EventAnswer}
use Rattle.rh_otp_sweep.specs.declared.sharing.TheConstants.{STEP_LIMIT}
use Rattle.rh_otp_sweep.specs.Outcomes.{Course, is_ok, ended, course_by, course_of}
use Rattle.rh_otp_sweep_laws.proofs.Bare.{comes_bare, leaves_bare, one_more}

-- a course with its simulation without its past
abbrev pub bare : Course → Course
bare c = record c { sim = without_past c.sim }

answered_bare : (b : Bool) (a : EventAnswer) (c : Course)
    → bare (cond b c (record c { answers = a ∷ c.answers })) ≡ cond b (bare c) (record (bare c) { answers = a ∷ c.answers })
answered_bare true a c = refl
answered_bare false a c = refl

by_bare : (made : ℕ) (sim : LiveSimView) (o : Outcome) (c : Course)
    → bare (course_by made sim o c) ≡ course_by made (without_past sim) o (bare c)
by_bare made sim (outcome.Refused why) c = refl
by_bare made sim outcome.Endless c = refl
by_bare made sim (outcome.Done h) c = answered_bare (is_ok h.answer) (record { event = made + 1; answer = h.answer }) c

pub goes_alike : (events : List Event) (made : ℕ) (one other : LiveSimView) → without_past one ≡ without_past other
    → one.history.cursor + length events ≤ STEP_LIMIT → other.history.cursor + length events ≤ STEP_LIMIT
    → bare (course_of made one events) ≡ bare (course_of made other events)
unfolding course_of
goes_alike [] made one other same room room' = ap (λ (s : LiveSimView). ended made None s) same
goes_alike (e ∷ events) made one other same room room' =
    let more : one.history.cursor < STEP_LIMIT = omega (arith, room) in
    let more' : other.history.cursor < STEP_LIMIT = omega (arith, room') in
    let comes : comes_to e one ≡ comes_to e other = sym (comes_bare e one more) ∙ ap (comes_to e) same ∙ comes_bare e other more' in
    let leaves : without_past (stepped e one) ≡ without_past (stepped e other) =
    sym (leaves_bare e one more) ∙ ap (λ (s : LiveSimView). without_past (stepped e s)) same ∙ leaves_bare e other more' in
    let later : bare (course_of (made + 1) (stepped e one) events) ≡ bare (course_of (made + 1) (stepped e other) events) =
    goes_alike events (made + 1) (stepped e one) (stepped e other) leaves
    (omega (arith, room, one_more e one)) (omega (arith, room', one_more e other)) in
    by_bare made one (comes_to e one) (course_of (made + 1) (stepped e one) events)
    ∙ (λ i. course_by made (same i) (comes i) (later i))
    ∙ sym (by_bare made other (comes_to e other) (course_of (made + 1) (stepped e other) events))
