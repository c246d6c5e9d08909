-- What events come to doesn't depend on the steps that a simulation has behind and before it, but for their number.
use Rattle.std.proofs.Common.{◌≡◌, ◌+◌, ℕ, Bool, true, false, cond, List, [], ◌∷◌, Option, Some, None, refl, sym, ap, ◌∙◌}
use Rattle.rh_model.specs.ClusterView.{node_count}
use Rattle.rh_rules.specs.declared.event.Event.{Event}
use Rattle.rh_rules.specs.declared.event.Event.TheVariants as event
use Rattle.rh_rules.specs.declared.refusal.Refusal.{Refusal}
use Rattle.rh_otp_report.specs.Report.{report_of}
use Rattle.rh_otp_sim.specs.Acting.{most_moves, done_first, acted, is_acted, acted_at_once, is_quiet_at_once}
use Rattle.rh_otp_sim.specs.declared.lines.Answer.{Answer}
use Rattle.rh_otp_sim.specs.declared.stepping.Outcome.{Outcome}
use Rattle.rh_otp_sim.specs.declared.stepping.Outcome.TheVariants as outcome
use Rattle.rh_otp_sim.specs.Refusing.{refusal_of, or_full, is_full, refused}
use Rattle.rh_otp_sim.specs.Sim.{LiveSimView, net_in, without_past}
use Rattle.rh_otp_sim.specs.Stepping.{begun, happened, cells_behind, ends_with, system_with, with_step, outcome_with, stepped_with, outcome_if, stepped_if, stepped, outcome_of as comes_to}
use Rattle.rh_otp_system.specs.Moves.{settled, is_settled_by}
use Rattle.rh_otp_system.specs.Resting.{rested}
use Rattle.rh_otp_system.specs.State.{SystemView}
use Rattle.rh_otp_system.specs.Views.{NetView}
use Rattle.rh_otp_system.specs.declared.cell.Cell.{Cell}
use Rattle.rh_otp_sweep.specs.declared.outcome.EventAnswer.{EventAnswer}
use Rattle.rh_otp_sweep.specs.Outcomes.{Course, is_ok, answered, course_by, course_of, told, outcome_in}

-- without the steps
abbrev pub bare : LiveSimView → LiveSimView
bare sim = record sim { history = record sim.history { states = [] } }

-- ---- a step

refusal_bare : (clock : ℕ) (e : Event) (sim : LiveSimView) → refusal_of clock e (bare sim) ≡ refusal_of clock e sim
refusal_bare clock (event.Boot n) sim = refl
refusal_bare clock (event.Crash n) sim = refl
refusal_bare clock (event.Tick ms) sim = refl
refusal_bare clock (event.Start n a restart) sim = refl
refusal_bare clock (event.Stop n a) sim = refl
refusal_bare clock (event.Permit n a allow) sim = refl
refusal_bare clock (event.Takeover n a restart) sim = refl
refusal_bare clock (event.Exit n a normal) sim = refl
refusal_bare clock (event.StartAll a restart) sim = refl
refusal_bare clock (event.StopAll a) sim = refl

first_bare : (e : Event) (sim : LiveSimView) (s : SystemView) → done_first e (bare sim) s ≡ done_first e sim s
first_bare (event.Boot n) sim s = refl
first_bare (event.Crash n) sim s = refl
first_bare (event.Tick ms) sim s = refl
first_bare (event.Start n a restart) sim s = refl
first_bare (event.Stop n a) sim s = refl
first_bare (event.Permit n a allow) sim s = refl
first_bare (event.Takeover n a restart) sim s = refl
first_bare (event.Exit n a normal) sim s = refl
first_bare (event.StartAll a restart) sim s = refl
first_bare (event.StopAll a) sim s = refl

at_once_bare : (most : ℕ) (e : Event) (sim : LiveSimView) (s : SystemView) → acted_at_once most e (bare sim) s ≡ acted_at_once most e sim s
unfolding acted_at_once
at_once_bare most e sim s = ap (settled most sim.order) (first_bare e sim s)

quiet_bare : (most : ℕ) (e : Event) (sim : LiveSimView) (s : SystemView) → is_quiet_at_once most e (bare sim) s ≡ is_quiet_at_once most e sim s
unfolding is_quiet_at_once
quiet_bare most e sim s = ap (is_settled_by most sim.order) (first_bare e sim s)

acted_bare : (e : Event) (sim : LiveSimView) (s : SystemView) → acted e (bare sim) s ≡ acted e sim s
unfolding acted
acted_bare (event.Boot n) sim s = at_once_bare most_moves (event.Boot n) sim s
acted_bare (event.Crash n) sim s = at_once_bare most_moves (event.Crash n) sim s
acted_bare (event.Tick ms) sim s = refl
acted_bare (event.Start n a restart) sim s = at_once_bare most_moves (event.Start n a restart) sim s
acted_bare (event.Stop n a) sim s = at_once_bare most_moves (event.Stop n a) sim s
acted_bare (event.Permit n a allow) sim s = at_once_bare most_moves (event.Permit n a allow) sim s
acted_bare (event.Takeover n a restart) sim s = at_once_bare most_moves (event.Takeover n a restart) sim s
acted_bare (event.Exit n a normal) sim s = at_once_bare most_moves (event.Exit n a normal) sim s
acted_bare (event.StartAll a restart) sim s = at_once_bare most_moves (event.StartAll a restart) sim s
acted_bare (event.StopAll a) sim s = at_once_bare most_moves (event.StopAll a) sim s

is_acted_bare : (e : Event) (sim : LiveSimView) (s : SystemView) → is_acted e (bare sim) s ≡ is_acted e sim s
unfolding is_acted
is_acted_bare (event.Boot n) sim s = quiet_bare most_moves (event.Boot n) sim s
is_acted_bare (event.Crash n) sim s = quiet_bare most_moves (event.Crash n) sim s
is_acted_bare (event.Tick ms) sim s = refl
is_acted_bare (event.Start n a restart) sim s = quiet_bare most_moves (event.Start n a restart) sim s
is_acted_bare (event.Stop n a) sim s = quiet_bare most_moves (event.Stop n a) sim s
is_acted_bare (event.Permit n a allow) sim s = quiet_bare most_moves (event.Permit n a allow) sim s
is_acted_bare (event.Takeover n a restart) sim s = quiet_bare most_moves (event.Takeover n a restart) sim s
is_acted_bare (event.Exit n a normal) sim s = quiet_bare most_moves (event.Exit n a normal) sim s
is_acted_bare (event.StartAll a restart) sim s = quiet_bare most_moves (event.StartAll a restart) sim s
is_acted_bare (event.StopAll a) sim s = quiet_bare most_moves (event.StopAll a) sim s

refused_bare : (e : Event) (sim : LiveSimView)
    → refused (net_in (bare sim)).clock (net_in (bare sim)).last_call e (bare sim) ≡ refused (net_in sim).clock (net_in sim).last_call e sim
refused_bare e sim = ap (or_full (is_full (net_in sim).last_call sim)) (refusal_bare (net_in sim).clock e sim)

outcome_with_bare : (net : NetView) (e : Event) (sim : LiveSimView) → outcome_with net e (bare sim) ≡ outcome_with net e sim
outcome_with_bare net e sim =
    let s : SystemView = begun net e sim in
    λ i. cond (is_acted_bare e sim s i) (outcome.Done (happened net (rested (acted_bare e sim s i)))) outcome.Endless

-- a step that is made, or isn't
made_bare : (b : Bool) (cells : List Cell) (sim : LiveSimView)
    → bare (cond b (with_step cells (bare sim)) (bare sim)) ≡ bare (cond b (with_step cells sim) sim)
made_bare true cells sim = refl
made_bare false cells sim = refl

stepped_with_bare : (net : NetView) (e : Event) (sim : LiveSimView) → bare (stepped_with net e (bare sim)) ≡ bare (stepped_with net e sim)
stepped_with_bare net e sim =
    let s : SystemView = begun net e sim in
    (λ i. bare (cond (is_acted_bare e sim s i) (with_step (cells_behind net (node_count sim.cluster) (rested (acted_bare e sim s i))) (bare sim)) (bare sim)))
    ∙ made_bare (ends_with net e sim) (cells_behind net (node_count sim.cluster) (system_with net e sim)) sim

outcome_if_bare : (why : Option Refusal) (net : NetView) (e : Event) (sim : LiveSimView) → outcome_if why net e (bare sim) ≡ outcome_if why net e sim
outcome_if_bare (Some why) net e sim = refl
outcome_if_bare None net e sim = outcome_with_bare net e sim

stepped_if_bare : (why : Option Refusal) (net : NetView) (e : Event) (sim : LiveSimView)
    → bare (stepped_if why net e (bare sim)) ≡ bare (stepped_if why net e sim)
stepped_if_bare (Some why) net e sim = refl
stepped_if_bare None net e sim = stepped_with_bare net e sim

comes_bare : (e : Event) (sim : LiveSimView) → comes_to e (bare sim) ≡ comes_to e sim
comes_bare e sim =
    ap (λ (why : Option Refusal). outcome_if why (net_in sim) e (bare sim)) (refused_bare e sim)
    ∙ outcome_if_bare (refused (net_in sim).clock (net_in sim).last_call e sim) (net_in sim) e sim

stepped_bare : (e : Event) (sim : LiveSimView) → bare (stepped e (bare sim)) ≡ bare (stepped e sim)
stepped_bare e sim =
    ap (λ (why : Option Refusal). bare (stepped_if why (net_in sim) e (bare sim))) (refused_bare e sim)
    ∙ stepped_if_bare (refused (net_in sim).clock (net_in sim).last_call e sim) (net_in sim) e sim

-- ---- a course

abbrev bared : Course → Course
bared c = record c { sim = bare c.sim }

answered_bare : (b : Bool) (a : EventAnswer) (c d : Course) → bared c ≡ bared d
    → bared (cond b c (record c { answers = a ∷ c.answers })) ≡ bared (cond b d (record d { answers = a ∷ d.answers }))
answered_bare true a c d same = same
answered_bare false a c d same = ap (λ (x : Course). record x { answers = a ∷ x.answers }) same

by_bare : (made : ℕ) (sim : LiveSimView) (o : Outcome) (c d : Course) → bared c ≡ bared d
    → bared (course_by made (bare sim) o c) ≡ bared (course_by made sim o d)
by_bare made sim (outcome.Refused why) c d same = refl
by_bare made sim outcome.Endless c d same = refl
by_bare made sim (outcome.Done h) c d same = answered_bare (is_ok h.answer) (record { event = made + 1; answer = h.answer }) c d same

course_bare : (made : ℕ) (sim : LiveSimView) (events : List Event) → bared (course_of made (bare sim) events) ≡ bared (course_of made sim events)
unfolding course_of
course_bare made sim [] = refl
course_bare made sim (e ∷ events) =
    let c : Course = course_of (made + 1) (stepped e (bare sim)) events in
    let d : Course = course_of (made + 1) (stepped e sim) events in
    let same : bared c ≡ bared d =
    sym (course_bare (made + 1) (stepped e (bare sim)) events)
    ∙ ap (λ (s : LiveSimView). bared (course_of (made + 1) s events)) (stepped_bare e sim)
    ∙ course_bare (made + 1) (stepped e sim) events in
    ap (λ (o : Outcome). bared (course_by made (bare sim) o c)) (comes_bare e sim) ∙ by_bare made sim (comes_to e sim) c d same

-- what is told of a course, too
told_bare : (c : Course) → told (bared c) (report_of (bared c).sim) ≡ told c (report_of c.sim)
unfolding report_of
told_bare c = refl

-- so where no step is done it makes no difference whether the past was dropped
pub same_told : (sim : LiveSimView) (events : List Event) → sim.history.cursor ≡ 0
    → told (course_of 0 (without_past sim) events) (report_of (course_of 0 (without_past sim) events).sim)
    ≡ told (course_of 0 sim events) (report_of (course_of 0 sim events).sim)
same_told sim events start =
    let past : LiveSimView = without_past sim in
    let alike : bare past ≡ bare sim =
    λ i. record sim { history = record { now = sim.history.now; states = []; cursor = (sym start) i } } in
    let same : bared (course_of 0 past events) ≡ bared (course_of 0 sim events) =
    sym (course_bare 0 past events) ∙ ap (λ (s : LiveSimView). bared (course_of 0 s events)) alike ∙ course_bare 0 sim events in
    sym (told_bare (course_of 0 past events))
    ∙ ap (λ (c : Course). told c (report_of c.sim)) same
    ∙ told_bare (course_of 0 sim events)

-- the outcome of a plan is that from any simulation with the same cells
pub outcome_there : (sim base : LiveSimView) (events : List Event) → without_past sim ≡ without_past base → outcome_in sim events ≡ outcome_in base events
unfolding outcome_in
outcome_there sim base events same = ap (λ (s : LiveSimView). told (course_of 0 s events) (report_of (course_of 0 s events).sim)) same
