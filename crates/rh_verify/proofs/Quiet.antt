-- Scripts in which nothing is expected.
use Rattle.std.proofs.Common.{◌≡◌, ◌+◌, ℕ, List, [], ◌∷◌, length, filter, All, true, false, not, Option, Some, None, is_some, refl, true≢false}
use Rattle.std.specs.Prelude.{◌||◌}
use Rattle.std.proofs.lemmas.List.Elements.{All-nil, All-cons, All-head, All-tail}
use Rattle.rh_model.specs.ClusterView.{ClusterView}
use Rattle.rh_script.specs.declared.script.Line.{Line}
use Rattle.rh_script.specs.declared.script.Line.TheVariants.{Nothing, Asks, Bad}
use Rattle.rh_script.specs.Commands.{line_of}
use Rattle.rh_script.specs.Notes.{note_of}
use Rattle.rh_verify.specs.Rules.{Rules}
use Rattle.rh_verify.specs.Expected.{Check, check_of, asked_by, ahead, checks, numbered, stray, is_expectation, answer_in, wanted_in, answers_in, wanted_among}
use Rattle.rh_verify.specs.Blocks.{holds}

-- nothing is expected by any of these lines
abbrev pub IsQuiet : List (List ℕ) → Type 0
IsQuiet lines = All (λ line. is_expectation line ≡ false) lines

neither : (a w : Option (List ℕ)) → (is_some a || is_some w) ≡ false → (a ≡ None) × (w ≡ None)
neither None None h = (refl, refl)
neither None (Some x) h = absurd (true≢false h)
neither (Some x) w h = absurd (true≢false h)

nothing_given : (lines : List (List ℕ)) → IsQuiet lines → (answers_in lines ≡ []) × (wanted_among lines ≡ [])
nothing_given [] q = (refl, refl)
nothing_given (line ∷ lines) q =
    let here = neither (answer_in (note_of line)) (wanted_in (note_of line)) (All-head (λ l. is_expectation l ≡ false) line lines q) in
    let later = nothing_given lines (All-tail (λ l. is_expectation l ≡ false) line lines q) in
    (rw (here.0, later.0) refl, rw (here.1, later.1) refl)

-- so all of it holds
quiet_holds : (x : Check) → IsQuiet x.behind → holds x ≡ true
quiet_holds x q = let none = nothing_given x.behind q in rw (none.0, none.1) refl

quiet_ahead : (c : ClusterView) (lines : List (List ℕ)) → IsQuiet lines → IsQuiet (ahead (asked_by c lines))
quiet_ahead c [] q = All-nil (λ l. is_expectation l ≡ false)
quiet_ahead c (line ∷ lines) q = by (line_of c line) (quiet_ahead c lines (All-tail (λ l. is_expectation l ≡ false) line lines q))
  where
    by : (a : Line) → IsQuiet (ahead (asked_by c lines)) → IsQuiet (ahead ((line, a) ∷ asked_by c lines))
    by Nothing rest = All-cons (λ l. is_expectation l ≡ false) line (ahead (asked_by c lines)) (All-head (λ l. is_expectation l ≡ false) line lines q) rest
    by (Asks call) rest = All-nil (λ l. is_expectation l ≡ false)
    by Bad rest = All-nil (λ l. is_expectation l ≡ false)

-- no command differs
pub quiet_checks : {V : Type 0} (r : Rules V) (c : ClusterView) (sim : V) (k : ℕ) (lines : List (List ℕ)) → IsQuiet lines
    → length (filter (λ x. not (holds x)) (checks r sim k (asked_by c lines))) ≡ 0
quiet_checks r c sim k [] q = refl
quiet_checks {V = V} r c sim k (line ∷ lines) q =
    by (line_of c line) (λ s. quiet_checks r c s (k + 1) lines (All-tail (λ l. is_expectation l ≡ false) line lines q))
  where
    by : (a : Line) → ((s : V) → length (filter (λ x. not (holds x)) (checks r s (k + 1) (asked_by c lines))) ≡ 0)
        → length (filter (λ x. not (holds x)) (checks r sim k ((line, a) ∷ asked_by c lines))) ≡ 0
    by Nothing rest = rest sim
    by (Asks call) rest =
        rw (quiet_holds (check_of r k line sim call (ahead (asked_by c lines)))
        (quiet_ahead c lines (All-tail (λ l. is_expectation l ≡ false) line lines q)))
        (rest (r.behind sim call))
    by Bad rest = refl

-- and nothing is expected without a command
none_numbered : (k : ℕ) (lines : List (List ℕ)) → IsQuiet lines → length (filter (λ at. is_expectation at.1) (numbered k lines)) ≡ 0
none_numbered k [] q = refl
none_numbered k (line ∷ lines) q =
    rw (All-head (λ l. is_expectation l ≡ false) line lines q)
    (none_numbered (k + 1) lines (All-tail (λ l. is_expectation l ≡ false) line lines q))

pub quiet_stray : (c : ClusterView) (k : ℕ) (lines : List (List ℕ)) → IsQuiet lines → length (stray k (asked_by c lines)) ≡ 0
quiet_stray c k lines q = none_numbered k (ahead (asked_by c lines)) (quiet_ahead c lines q)
