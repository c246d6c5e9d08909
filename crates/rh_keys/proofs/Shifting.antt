-- A state at a later time, and what a change of one part makes of it.
use Rattle.std.proofs.Common.{◌≡◌, ◌+◌, ℕ, Bool, true, false, cond, not, nat_le, List, [], ◌∷◌, map, fold, refl, ap, ◌∙◌, arith, add_assoc}
use Rattle.std.proofs.lemmas.Bool.Decides.{nat_tests}
use Rattle.rh_wheel.specs.Firing.{behind}
use Rattle.rh_state.specs.declared.status.Timer.{Timer}
use Rattle.rh_state.specs.Timers.{same_timer, without_timer}
use Rattle.rh_state.specs.StateView.{StateView}
use Rattle.rh_state.specs.Setters.{with_timer, without_due}
use Rattle.rh_rules.specs.Course.{Course, now_in}

-- ---- the same state so many milliseconds later, without incarnations and start kinds
abbrev pub later : ℕ → ℕ × Timer → ℕ × Timer
later d entry = (d + entry.0, entry.1)

abbrev pub shifted : ℕ → StateView → StateView
shifted d s = record s { time = d + s.time; incarnations = []; kinds = []; timers = map (later d) s.timers }

abbrev pub shifted_course : ℕ → Course → Course
shifted_course d o = record o { state = shifted d o.state }

-- ---- what goes the same way in two cases, or in each step
pub either_way : {A B : Type 0} (h : A → B) (b : Bool) {x y : A} {p q : B} → p ≡ h x → q ≡ h y → cond b p q ≡ h (cond b x y)
either_way h true e f = e
either_way h false e f = f

pub each_step : {S A : Type 0} (h : S → S) (f : S → A → S) → ((s : S) (x : A) → f (h s) x ≡ h (f s x)) → (s : S) (xs : List A)
    → fold f (h s) xs ≡ h (fold f s xs)
each_step h f each s [] = refl
each_step h f each s (x ∷ xs) = ap (λ t. fold f t xs) (each s x) ∙ each_step h f each (f s x) xs

-- ---- timers
pub same_order : (d a b : ℕ) → nat_le (d + a) (d + b) ≡ nat_le a b
same_order d a b = grind (arith, nat_tests)

pub behind_later : (d due : ℕ) (t : Timer) (xs : List (ℕ × Timer)) → behind (d + due, t) (map (later d) xs) ≡ map (later d) (behind (due, t) xs)
behind_later d due t [] = refl
behind_later d due t (x ∷ xs) =
    ap (λ b. cond b (later d x ∷ behind (d + due, t) (map (later d) xs)) ((d + due, t) ∷ (later d x ∷ map (later d) xs))) (same_order d x.0 due)
    ∙ either_way (map (later d)) (nat_le x.0 due) (ap (λ ys. later d x ∷ ys) (behind_later d due t xs)) refl

pub without_later : (d : ℕ) (t : Timer) (xs : List (ℕ × Timer)) → without_timer t (map (later d) xs) ≡ map (later d) (without_timer t xs)
without_later d t [] = refl
without_later d t (x ∷ xs) =
    either_way (map (later d)) (not (same_timer t x.1)) (ap (λ ys. later d x ∷ ys) (without_later d t xs)) (without_later d t xs)

pub timer_set : (d : ℕ) (s : StateView) (ms : ℕ) (t : Timer) → with_timer (shifted d s) (d + s.time + ms) t ≡ shifted d (with_timer s (s.time + ms) t)
timer_set d s ms t = λ i. record (shifted d s) {
  timers = (ap (λ due. behind (due, t) (map (later d) s.timers)) (add_assoc d s.time ms) ∙ behind_later d (s.time + ms) t s.timers) i;
}

pub timer_off : (d : ℕ) (s : StateView) (t : Timer) → without_due (shifted d s) t ≡ shifted d (without_due s t)
timer_off d s t = λ i. record (shifted d s) { timers = without_later d t s.timers i }

-- ---- a course whose state changes so
pub course_on : (d : ℕ) (o : Course) (t : StateView) {s : StateView} → s ≡ shifted d t → now_in (shifted_course d o) s ≡ shifted_course d (now_in o t)
course_on d o t e = ap (now_in (shifted_course d o)) e
