-- An application that is moved by hand to a node, whether or not it was started there.
use Rattle.std.proofs.Common.{◌≡◌, ◌≢◌, ℕ, zero, suc, Bool, true, false, cond, not, None, List, [], ◌∷◌, ◌++◌, slice_set, refl, ap, ◌∙◌, arith}
use Rattle.rh_model.specs.declared.node.Node.{Node}
use Rattle.rh_model.specs.declared.node.App.{App}
use Rattle.rh_state.specs.declared.status.Place.TheVariants.{Off}
use Rattle.rh_state.specs.declared.status.Kind.TheVariants as kind
use Rattle.rh_state.specs.declared.status.Standing.TheVariants.{Running}
use Rattle.rh_state.specs.Numbers.{same_app}
use Rattle.rh_state.specs.Shape.{IsShaped, IsNodeOf}
use Rattle.rh_state.specs.Tables.{row}
use Rattle.rh_state.specs.Lists.{has_app, without_app}
use Rattle.rh_state.specs.StateView.{StateView, runs_at, place_of}
use Rattle.rh_state.specs.Setters.{with_waiting, with_running, with_kind, with_standing, unlisted}
use Rattle.rh_trace.proofs.Every.{filter_no}
use Rattle.rh_base.proofs.Truths.{same_refl, or_right}
use Rattle.rh_trace.proofs.Places.{at_set_here, append_gives, started_on}
use Rattle.rh_rules.specs.declared.notice.Move.TheVariants.{Takeover}
use Rattle.rh_rules.specs.declared.notice.Notice.TheVariants as notice
use Rattle.rh_trace.specs.Traces.{TraceView, course}
use Rattle.rh_trace.specs.Ways.{TellsNothing}
use Rattle.rh_rules.specs.Course.{told}
use Rattle.rh_rules.specs.Moves.{moved, with_stopped}

-- an application that enters a list and leaves it again
without_pushed : (xs : List App) (a : App) → without_app (xs ++ a ∷ []) a ≡ without_app xs a
without_pushed [] a = filter_no (λ b. not (same_app a b)) a [] (ap not (same_refl a.0))
without_pushed (x ∷ xs) a = by (not (same_app a x)) (without_pushed xs a)
  where
    by : (b : Bool) → without_app (xs ++ a ∷ []) a ≡ without_app xs a → cond b (x ∷ without_app (xs ++ a ∷ []) a) (without_app (xs ++ a ∷ []) a)
        ≡ cond b (x ∷ without_app xs a) (without_app xs a)
    by true h = ap (λ ys. x ∷ ys) h
    by false h = h

put_and_taken : (table : List (List App)) (n : ℕ) (a : App) → slice_set (slice_set table n (row table n ++ a ∷ [])) n
    (without_app (row (slice_set table n (row table n ++ a ∷ [])) n) a) ≡ slice_set table n (without_app (row table n) a)
put_and_taken [] n a = refl
put_and_taken (xs ∷ table) zero a = ap (λ ys. ys ∷ table) (without_pushed xs a)
put_and_taken (xs ∷ table) (suc n) a = ap (λ ys. xs ∷ ys) (put_and_taken table n a)

pub unlisted_waiting : (s : StateView) (n : Node) (a : App) → unlisted (with_waiting s n a) n a ≡ unlisted s n a
unlisted_waiting s n a = ap (λ table. record s { running = slice_set s.running n.0 (without_app (row s.running n.0) a); waiting = table })
    (put_and_taken s.waiting n.0 a)

pub waits_now : (s : StateView) (n : Node) (a : App) → IsShaped s → IsNodeOf s.cluster n → place_of (with_waiting s n a) n a ≢ Off
waits_now s n a shape number =
    started_on (with_waiting s n a) n a
    (or_right (runs_at s n a) _
    (ap (λ xs. has_app xs a) (at_set_here s.waiting n.0 (row s.waiting n.0 ++ a ∷ []) [] (let e = shape.waiting in omega (arith, e, number)))
    ∙ append_gives (row s.waiting n.0) a a (same_refl a.0)))

-- a takeover takes its application out of the lists of the node first
abbrev taken_to : StateView → App → Node → Node → StateView
taken_to u a m n = with_standing (with_stopped (with_kind (with_running u n a) n a (kind.Takeover m)) m a) a (Running n)

pub same_takeover : (s t : StateView) (a : App) (m n : Node) (old new : TraceView) → TellsNothing old new → unlisted t n a ≡ unlisted s n a
    → moved (course t new) (Takeover a m n) ≡ moved (course s old) (Takeover a m n)
same_takeover s t a m n old new same e =
    λ i. told (told (record { state = taken_to (e i) a m n; notices = same.notices i; marked = same.marked i; freed = same.freed i }) (notice.Started a n (kind.Takeover m) None)) (notice.Stopped a m)

-- a state that is said otherwise, with a trace that told, marked and freed nothing more
pub same_course : (s t : StateView) (old new : TraceView) → t ≡ s → TellsNothing old new → course t new ≡ course s old
same_course s t old new e same = λ i. record { state = e i; notices = same.notices i; marked = same.marked i; freed = same.freed i }
