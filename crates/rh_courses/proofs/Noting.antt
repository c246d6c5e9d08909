-- What courses have noted behind a list of states.
use Rattle.std.proofs.Common.{◌≡◌, ◌<◌, ◌≤◌, ℕ, zero, suc, Bool, true, false, cond, List, [], ◌∷◌, ◌++◌, map, fold, take, drop, length, get_or, slice_get, unwrap_or, replicate, Option}
use Rattle.std.proofs.Common.{refl, sym, ap, ◌∙◌, subst, append_assoc, arith}
use Rattle.std.proofs.Math.ListN.{set}
use Rattle.std.proofs.lemmas.List.{append-nil, drop_all, map-id, take_all}
use Rattle.std.proofs.lemmas.List.Sums.{fold-append, fold_push}
use Rattle.std.proofs.lemmas.List.Elements.{All-map}
use Rattle.rh_model.specs.ClusterView.{ClusterView, app_count}
use Rattle.rh_model.specs.declared.node.App.{App}
use Rattle.rh_state.specs.declared.status.Standing.TheVariants.{Quiet}
use Rattle.rh_state.specs.First.{first}
use Rattle.rh_state.specs.StateView.{StateView}
use Rattle.rh_rules.specs.declared.event.Event.{Event}
use Rattle.rh_rules.specs.declared.pick.Pick.{Pick}
use Rattle.rh_step.specs.Runs.{step}
use Rattle.rh_trail.specs.SimView.{SimView}
use Rattle.rh_courses.specs.declared.course.Change.{Change}
use Rattle.rh_courses.specs.Moments.{behind_firings, passed_in, passed, states_of}
use Rattle.rh_courses.specs.Courses.{CourseView, place_of, place_in, moment, same_place, changes_from, course_in, courses_in, distributed}
use Rattle.rh_courses.specs.Working.{not_run, noted, all_noted, noted_along, AreOf}
use Rattle.rh_model.specs.declared.node.Node.{Node}

-- ---- one course

-- the first moment and then the others
changes_more : (place : Option Node) (m : Change) (ms : List Change) → changes_from place (m ∷ []) ++ changes_from m.place ms ≡ changes_from place (m ∷ ms)
unfolding changes_from
changes_more place m ms = by (same_place place m.place)
  where
    by : (b : Bool) → cond b [] (m ∷ []) ++ changes_from m.place ms ≡ cond b (changes_from m.place ms) (m ∷ changes_from m.place ms)
    by true = refl
    by false = refl

pub noted_app : (c : CourseView) (ss : List StateView) → (fold noted c ss).app ≡ c.app
unfolding noted
noted_app c [] = refl
noted_app c (s ∷ ss) = noted_app (noted c s) ss

pub noted_changes : (c : CourseView) (ss : List StateView) → (fold noted c ss).changes ≡ c.changes ++ changes_from c.place (map (moment c.app) ss)
unfolding noted changes_from
noted_changes c [] = sym (append-nil c.changes)
noted_changes c (s ∷ ss) =
    noted_changes (noted c s) ss
    ∙ append_assoc c.changes (changes_from c.place (moment c.app s ∷ [])) (changes_from (place_in s c.app) (map (moment c.app) ss))
    ∙ ap (λ (ms : List Change). c.changes ++ ms) (changes_more c.place (moment c.app s) (map (moment c.app) ss))

-- a course says where the application runs in a state, and when that is
record IsIn (s : StateView) (c : CourseView) (a : App) : Type 0 where
  place : c.place ≡ place_in s a
  time : c.time ≡ s.time

-- behind events it says so of the state behind them
noted_last : (pick : Pick) (s : StateView) (es : List Event) (c : CourseView) → IsIn s c c.app
    → IsIn (fold (step pick) s es) (fold noted c (passed pick s es)) c.app
unfolding passed noted
noted_last pick s [] c is = is
noted_last pick s (e ∷ es) c is =
    let t = step pick s e in
    let inside = behind_firings pick s e in
    let d : CourseView = fold noted c inside in
    let one : fold noted c (inside ++ t ∷ []) ≡ noted d t = fold_push noted c inside t in
    let all : fold noted c (passed_in pick s e ++ passed pick t es) ≡ fold noted (noted d t) (passed pick t es) =
    fold-append noted c (inside ++ t ∷ []) (passed pick t es) ∙ ap (λ (k : CourseView). fold noted k (passed pick t es)) one in
    let later : IsIn (fold (step pick) t es) (fold noted (noted d t) (passed pick t es)) d.app =
    noted_last pick t es (noted d t) (record { place = refl; time = refl }) in
    subst (λ (k : CourseView). IsIn (fold (step pick) t es) k c.app) (sym all)
    (subst (λ (a : App). IsIn (fold (step pick) t es) (fold noted (noted d t) (passed pick t es)) a) (noted_app c inside) later)

-- before any event all applications are quiet
quiet_everywhere : (n k : ℕ) → unwrap_or (slice_get (replicate n Quiet) k) Quiet ≡ Quiet
quiet_everywhere zero k = refl
quiet_everywhere (suc n) zero = refl
quiet_everywhere (suc n) (suc k) = quiet_everywhere n k

pub course_is : (s : SimView) (a : App) → fold noted (not_run a) (states_of s) ≡ course_in s a
course_is s a =
    let start : IsIn (first s.cluster) (not_run a) a =
    record { place = sym (ap place_of (quiet_everywhere (app_count s.cluster) a.0)); time = refl } in
    let last = noted_last s.pick (first s.cluster) (take s.cursor s.trail) (not_run a) start in
    λ j. record {
      app = noted_app (not_run a) (states_of s) j;
      changes = noted_changes (not_run a) (states_of s) j;
      place = last.place j;
      time = last.time j;
    }

-- ---- all of them

map_twice : {A B C : Type 0} (f : B → C) (g : A → B) (xs : List A) → map f (map g xs) ≡ map (λ x. f (g x)) xs
map_twice f g [] = refl
map_twice f g (x ∷ xs) = ap (λ ys. f (g x) ∷ ys) (map_twice f g xs)

pub each_noted : (cs : List CourseView) (ss : List StateView) → noted_along cs ss ≡ map (λ c. fold noted c ss) cs
each_noted cs [] = sym (map-id cs)
each_noted cs (s ∷ ss) = each_noted (all_noted cs s) ss ∙ map_twice (λ c. fold noted c ss) (λ c. noted c s) cs

-- the courses of a simulation are what is noted along its states
pub courses_are : (s : SimView) → noted_along (map not_run (distributed s.cluster)) (states_of s) ≡ courses_in s
courses_are s =
    let apps = distributed s.cluster in
    each_noted (map not_run apps) (states_of s)
    ∙ map_twice (λ c. fold noted c (states_of s)) not_run apps
    ∙ ap (λ (f : App → CourseView). map f apps) (λ j a. course_is s a j)

pub along_more : (cs : List CourseView) (ss ts : List StateView) → noted_along (noted_along cs ss) ts ≡ noted_along cs (ss ++ ts)
along_more cs ss ts = sym (fold-append all_noted cs ss ts)

-- they stay courses of the cluster's applications
pub still_of : (cluster : ClusterView) (cs : List CourseView) (s : StateView) → AreOf cluster cs → AreOf cluster (all_noted cs s)
unfolding noted
still_of cluster cs s are = All-map (λ (c : CourseView). c.app.0 < app_count cluster) (λ c. noted c s) cs are

-- ---- one of them after the other

module _ (s : StateView) where
  abbrev pub so_far : ℕ → List CourseView → List CourseView
  so_far i cs = map (λ c. noted c s) (take i cs) ++ drop i cs

  -- behind those that noted a state stand the others
  pub next_stands : (cs : List CourseView) (i : ℕ) (d : CourseView) → i < length cs → get_or (so_far i cs) i d ≡ get_or cs i d
  next_stands [] i d inside = absurd (omega arith)
  next_stands (c ∷ cs) zero d inside = refl
  next_stands (c ∷ cs) (suc i) d inside = next_stands cs i d (omega arith)

  -- and then it notes it too
  pub next_notes : (cs : List CourseView) (i : ℕ) (d : CourseView) → i < length cs → set (so_far i cs) i (noted (get_or cs i d) s) ≡ so_far (suc i) cs
  next_notes [] i d inside = absurd (omega arith)
  next_notes (c ∷ cs) zero d inside = refl
  next_notes (c ∷ cs) (suc i) d inside = ap (λ ds. noted c s ∷ ds) (next_notes cs i d (omega arith))

  -- behind the last of them all have
  pub all_note : (cs : List CourseView) (i : ℕ) → length cs ≤ i → so_far i cs ≡ all_noted cs s
  all_note cs i all =
      (λ j. map (λ c. noted c s) (take_all i cs all j) ++ drop_all i cs all j)
      ∙ append-nil (all_noted cs s)
