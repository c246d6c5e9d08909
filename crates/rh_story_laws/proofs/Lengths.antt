-- In each simulation the lengths of a course add up.
use Rattle.std.proofs.Common.{◌≡◌, ◌≤◌, ◌-◌, ℕ, zero, suc, List, [], ◌∷◌, ◌++◌, length, take, replicate, fold, None, refl, sym, ap, ◌∙◌, subst, arith}
use Rattle.rh_model.specs.declared.node.App.{App}
use Rattle.rh_model.specs.ClusterView.{ClusterView, IsWithin}
use Rattle.rh_state.specs.First.{first}
use Rattle.rh_state.specs.StateView.{StateView}
use Rattle.rh_rules.specs.declared.pick.Pick.{Pick}
use Rattle.rh_rules.specs.declared.event.Event.{Event}
use Rattle.rh_trace.specs.Validity.{IsValid}
use Rattle.rh_calls.specs.declared.call.Call.{Call}
use Rattle.rh_calls.specs.declared.call.Call.TheVariants as call
use Rattle.rh_step.specs.Runs.{step, after}
use Rattle.rh_trail.specs.SimView.{SimView, state_of}
use Rattle.rh_trail.specs.Lone.{opened, served, sim_after}
use Rattle.rh_trail.proofs.Reversals.{calls_reversible}
use Rattle.rh_courses.specs.Courses.{course_in}
use Rattle.rh_courses.specs.Laws.{DontFall}
use Rattle.rh_courses.specs.Moments.{states_of}
use Rattle.rh_courses.proofs.Lengths.{lengths_add_up}
use Rattle.rh_story_laws.specs.Lengths.{LengthsAddUpInSimulations}
use Rattle.rh_story_laws.proofs.Rising.{AllValid, events_rise, changes_dont_fall}

-- calls behind calls
pub after_both : (s : SimView) (xs ys : List Call) → sim_after s (xs ++ ys) ≡ sim_after (sim_after s xs) ys
after_both s [] ys = refl
after_both s (x ∷ xs) ys = after_both (served s x).sim xs ys

-- a front of a front
take_both : {A : Type 0} (k n : ℕ) (xs : List A) → k ≤ n → take k (take n xs) ≡ take k xs
take_both zero n xs l = refl
take_both (suc k) zero xs l = absurd (omega (arith, l))
take_both (suc k) (suc n) [] l = refl
take_both (suc k) (suc n) (x ∷ xs) l = ap (λ ys. x ∷ ys) (take_both k n xs (omega (arith, l)))

length_front : {A : Type 0} (n : ℕ) (xs : List A) → length (take n xs) ≤ n
length_front zero xs = omega arith
length_front (suc n) [] = omega arith
length_front (suc n) (x ∷ xs) = let rest = length_front n xs in omega (arith, rest)

all_valid : (pick : Pick) (s : StateView) (es : List Event) → ((k : ℕ) → k ≤ length es → IsValid (fold (step pick) s (take k es))) → AllValid pick s es
all_valid pick s [] each = each 0 (omega arith)
all_valid pick s (e ∷ es) each = (each 0 (omega arith), all_valid pick (step pick s e) es (λ k l. each (suc k) (omega (arith, l))))

module _ (c : ClusterView) (pick : Pick) (calls : List Call) (within : IsWithin c) where
  abbrev sim : SimView
  sim = sim_after (opened c pick) calls

  -- undoing leads to each state before
  front_valid : (k : ℕ) → k ≤ sim.cursor → IsValid (after sim.cluster sim.pick (take k sim.trail))
  front_valid k l =
      let back : ℕ = sim.cursor - k in
      let undone = (calls_reversible c pick (calls ++ replicate back call.Undo) within).valid in
      let there = (calls_reversible c pick calls within).moves.back_to back (omega arith) in
      let place : sim.cursor - back ≡ k = omega (arith, l) in
      subst IsValid
      (ap state_of (after_both (opened c pick) calls (replicate back call.Undo)) ∙ there ∙ ap (λ (n : ℕ). after sim.cluster sim.pick (take n sim.trail)) place)
      undone

  valid_along : AllValid sim.pick (first sim.cluster) (take sim.cursor sim.trail)
  valid_along = all_valid sim.pick (first sim.cluster) (take sim.cursor sim.trail) (λ k l.
      let few = length_front sim.cursor sim.trail in
      let fits : k ≤ sim.cursor = omega (arith, l, few) in
      subst (λ (es : List Event). IsValid (after sim.cluster sim.pick es)) (sym (take_both k sim.cursor sim.trail fits)) (front_valid k fits))

  pub times_dont_fall : (a : App) → DontFall (course_in sim a).time (course_in sim a).changes
  times_dont_fall a =
      (changes_dont_fall a (states_of sim) (first sim.cluster).time (state_of sim).time None
      (events_rise sim.pick (first sim.cluster) (take sim.cursor sim.trail) valid_along)).0

pub lengths_add_up_in_simulations : LengthsAddUpInSimulations
lengths_add_up_in_simulations c pick calls a within = lengths_add_up (course_in (sim_after (opened c pick) calls) a) (times_dont_fall c pick calls within a)
