-- What comes of a plan is what comes of its events in a run.
use Rattle.std.proofs.Common.{◌≡◌, ◌≤◌, ◌+◌, ℕ, zero, suc, Bool, true, false, cond, List, [], ◌∷◌, length, refl, sym, ap, subst, ◌∙◌, arith}
use Rattle.rh_rules.specs.declared.event.Event.{Event}
use Rattle.rh_otp_report.specs.Report.{report_of}
use Rattle.rh_otp_sim.specs.declared.stepping.Outcome.{Outcome}
use Rattle.rh_otp_sim.specs.declared.stepping.Outcome.TheVariants as outcome
use Rattle.rh_otp_sim.specs.Sim.{LiveSimView, without_past}
use Rattle.rh_otp_sim.specs.Stepping.{stepped, outcome_of as comes_to}
use Rattle.rh_otp_sweep.specs.declared.outcome.EventAnswer.{EventAnswer}
use Rattle.rh_otp_sweep.specs.Outcomes.{Course, is_ok, course_by, course_of, told, outcome_in}
use Rattle.rh_otp_sweep_laws.specs.Runs.{behind_first, PlansAreRuns}
use Rattle.rh_otp_sweep_laws.proofs.Beside.{bare, goes_alike}

-- ---- how many events are made

least_answered : (b : Bool) (a : EventAnswer) (made : ℕ) (c : Course) → made + 1 ≤ c.accepted
    → made ≤ (cond b c (record c { answers = a ∷ c.answers })).accepted
least_answered true a made c more = omega (arith, more)
least_answered false a made c more = omega (arith, more)

least_by : (made : ℕ) (sim : LiveSimView) (o : Outcome) (c : Course) → made + 1 ≤ c.accepted → made ≤ (course_by made sim o c).accepted
least_by made sim (outcome.Refused why) c more = omega arith
least_by made sim outcome.Endless c more = omega arith
least_by made sim (outcome.Done h) c more = least_answered (is_ok h.answer) (record { event = made + 1; answer = h.answer }) made c more

least : (events : List Event) (made : ℕ) (sim : LiveSimView) → made ≤ (course_of made sim events).accepted
unfolding course_of
least [] made sim = omega arith
least (e ∷ events) made sim =
    least_by made sim (comes_to e sim) (course_of (made + 1) (stepped e sim) events) (least events (made + 1) (stepped e sim))

-- ---- where a plan ends

module _ (made : ℕ) (sim : LiveSimView) (e : Event) (events : List Event) (later : Course) (more : made + 1 ≤ later.accepted)
    (ends : (k : ℕ) → later.accepted ≡ made + 1 + k → later.sim ≡ behind_first k events (stepped e sim)) where
  goes_on : (k : ℕ) → later.accepted ≡ made + k → later.sim ≡ behind_first k (e ∷ events) sim
  goes_on zero is = absurd (omega (arith, is, more))
  goes_on (suc k) is = ends k (omega (arith, is))

  answered_on : (b : Bool) (a : EventAnswer) (k : ℕ) → (cond b later (record later { answers = a ∷ later.answers })).accepted ≡ made + k
      → (cond b later (record later { answers = a ∷ later.answers })).sim ≡ behind_first k (e ∷ events) sim
  answered_on true a k is = goes_on k is
  answered_on false a k is = goes_on k is

  stays : (k : ℕ) → made ≡ made + k → sim ≡ behind_first k (e ∷ events) sim
  stays k is =
      let none : 0 ≡ k = omega (arith, is) in
      subst (λ (n : ℕ). sim ≡ behind_first n (e ∷ events) sim) none refl

  ends_by : (o : Outcome) (k : ℕ) → (course_by made sim o later).accepted ≡ made + k
      → (course_by made sim o later).sim ≡ behind_first k (e ∷ events) sim
  ends_by (outcome.Refused why) k is = stays k is
  ends_by outcome.Endless k is = stays k is
  ends_by (outcome.Done h) k is = answered_on (is_ok h.answer) (record { event = made + 1; answer = h.answer }) k is

ends_behind : (events : List Event) (made k : ℕ) (sim : LiveSimView) → (course_of made sim events).accepted ≡ made + k
    → (course_of made sim events).sim ≡ behind_first k events sim
unfolding course_of
ends_behind [] made zero sim is = refl
ends_behind [] made (suc k) sim is = refl
ends_behind (e ∷ events) made k sim is =
    ends_by made sim e events (course_of (made + 1) (stepped e sim) events) (least events (made + 1) (stepped e sim))
    (λ n at. ends_behind events (made + 1) n (stepped e sim) at) (comes_to e sim) k is

-- ---- what is told of it

pub report_bare : (sim : LiveSimView) → report_of (without_past sim) ≡ report_of sim
unfolding report_of
report_bare sim = refl

told_bare : (c : Course) → told c (report_of c.sim) ≡ told (bare c) (report_of (bare c).sim)
told_bare c = ap (told c) (sym (report_bare c.sim))

pub plans_run : PlansAreRuns
unfolding outcome_in
plans_run base events room =
    let alone : Course = course_of 0 (without_past base) events in
    let run : Course = course_of 0 base events in
    let same : bare alone ≡ bare run = goes_alike events 0 (without_past base) base refl (omega (arith, room)) room in
    told_bare alone
    ∙ ap (λ (c : Course). told c (report_of c.sim)) same
    ∙ sym (told_bare run)
    ∙ ap (λ (s : LiveSimView). told run (report_of s)) (ends_behind events 0 run.accepted base (omega arith))
