-- The course of a plan, event by event.
use Rattle.std.proofs.Common.{◌≡◌, ◌+◌, ◌<◌, ℕ, suc, Bool, true, false, cond, List, [], ◌∷◌, ◌++◌, drop, length, get_or, Option, Some, None, refl, sym, ap, ◌∙◌, append_assoc, arith}
use Rattle.std.proofs.lemmas.List.{append-nil}
use Rattle.std.proofs.Math.Seq.{drop-cons}
use Rattle.rh_rules.specs.declared.event.Event.{Event}
use Rattle.rh_rules.specs.declared.refusal.Refusal.{Refusal}
use Rattle.rh_otp_sim.specs.declared.lines.Answer.{Answer}
use Rattle.rh_otp_sim.specs.declared.stepping.Outcome.{Outcome}
use Rattle.rh_otp_sim.specs.declared.stepping.Outcome.TheVariants as outcome
use Rattle.rh_otp_sim.specs.Refusing.{refused}
use Rattle.rh_otp_sim.specs.Sim.{LiveSimView, net_in}
use Rattle.rh_otp_sim.specs.Stepping.{ends_with, outcome_if, stepped_if, stepped, with_step, outcome_of as comes_to}
use Rattle.rh_otp_sim.specs.Views.{HappenedView}
use Rattle.rh_otp_system.specs.Views.{NetView}
use Rattle.rh_otp_sweep.specs.declared.outcome.EventAnswer.{EventAnswer}
use Rattle.rh_otp_sweep.specs.declared.outcome.Stop.{Stop}
use Rattle.rh_otp_sweep.specs.declared.outcome.Stop.TheVariants as stop
use Rattle.rh_otp_sweep.specs.Outcomes.{Course, is_ok, ended, answered, course_by, course_of}

-- ---- an event that changes nothing

either_stays : (b : Bool) (h : HappenedView) (o : Outcome) (next sim : LiveSimView) → cond b (outcome.Done h) outcome.Endless ≡ o
    → (o ≡ outcome.Done h → ⊥) → cond b next sim ≡ sim
either_stays true h o next sim is other = absurd (other (sym is))
either_stays false h o next sim is other = refl

-- ---- the answers that came before

-- with these in front
abbrev pub with_answers : List EventAnswer → Course → Course
with_answers before c = record c { answers = before ++ c.answers }

-- those of an event more
abbrev pub with_event : List EventAnswer → ℕ → Answer → List EventAnswer
with_event before number told = cond (is_ok told) before (before ++ record { event = number; answer = told } ∷ [])

answers_on : (b : Bool) (before : List EventAnswer) (a : EventAnswer) (later : Course)
    → with_answers before (cond b later (record later { answers = a ∷ later.answers }))
    ≡ with_answers (cond b before (before ++ a ∷ [])) later
answers_on true before a later = refl
answers_on false before a later = ap (λ (xs : List EventAnswer). record later { answers = xs }) (sym (append_assoc before (a ∷ []) later.answers))

-- ---- in the midst of a plan: so many events of it were made

module _ (start : LiveSimView) (events : List Event) (i : ℕ) (sim : LiveSimView) (before : List EventAnswer)
    (so_far : course_of 0 start events ≡ with_answers before (course_of i sim (drop i events))) where
  module _ (e : Event) (rest : List Event) (at : drop i events ≡ e ∷ rest) where
    here : (o : Outcome) → comes_to e sim ≡ o
        → course_of 0 start events ≡ with_answers before (course_by i sim o (course_of (i + 1) (stepped e sim) rest))
    unfolding course_of
    here o is =
        so_far
        ∙ ap (λ (es : List Event). with_answers before (course_of i sim es)) at
        ∙ ap (λ (o' : Outcome). with_answers before (course_by i sim o' (course_of (i + 1) (stepped e sim) rest))) is

    pub goes_on : (h : HappenedView) → comes_to e sim ≡ outcome.Done h
        → course_of 0 start events ≡ with_answers (with_event before (i + 1) h.answer) (course_of (i + 1) (stepped e sim) rest)
    goes_on h is =
        here (outcome.Done h) is
        ∙ answers_on (is_ok h.answer) before (record { event = i + 1; answer = h.answer }) (course_of (i + 1) (stepped e sim) rest)

    pub ends_here : (o : Outcome) (why : Stop) (next : LiveSimView) → comes_to e sim ≡ o → next ≡ sim
        → ((later : Course) → course_by i sim o later ≡ ended i (Some why) sim)
        → course_of 0 start events ≡ record { accepted = i; answers = before; stop = Some why; sim = next }
    ends_here o why next is same ends =
        here o is
        ∙ ap (with_answers before) (ends (course_of (i + 1) (stepped e sim) rest))
        ∙ (λ j. record { accepted = i; answers = append-nil before j; stop = Some why; sim = (sym same) j })

  pub ends_there : drop i events ≡ [] → (made : ℕ) → i ≡ made
      → course_of 0 start events ≡ record { accepted = made; answers = before; stop = None; sim = sim }
  unfolding course_of
  ends_there none made all =
      so_far
      ∙ ap (λ (es : List Event). with_answers before (course_of i sim es)) none
      ∙ (λ j. record { accepted = all j; answers = append-nil before j; stop = None; sim = sim })

-- an event at its place
pub next_event : (events : List Event) (i : ℕ) (d : Event) → i < length events → drop i events ≡ get_or events i d ∷ drop (i + 1) events
next_event events i d at =
    let one : suc i ≡ i + 1 = omega arith in
    drop-cons events i d at ∙ ap (λ n. get_or events i d ∷ drop n events) one

-- ---- what can't be given to a node, or has no end, changes nothing

stays_if : (why : Option Refusal) (net : NetView) (e : Event) (sim : LiveSimView) (o : Outcome) → outcome_if why net e sim ≡ o
    → ((h : HappenedView) → o ≡ outcome.Done h → ⊥) → stepped_if why net e sim ≡ sim
stays_if (Some why) net e sim o is other = refl
stays_if None net e sim o is other = either_stays (ends_with net e sim) _ o _ sim is (other _)

pub stays : (e : Event) (sim : LiveSimView) (o : Outcome) → comes_to e sim ≡ o → ((h : HappenedView) → o ≡ outcome.Done h → ⊥)
    → stepped e sim ≡ sim
stays e sim o is other = stays_if (refused (net_in sim).clock (net_in sim).last_call e sim) (net_in sim) e sim o is other
