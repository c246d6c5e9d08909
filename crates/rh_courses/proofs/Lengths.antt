-- The lengths of a course's stays.
use Rattle.std.proofs.Common.{◌≡◌, ◌≤◌, ◌+◌, ◌-◌, ℕ, List, [], ◌∷◌, cond, slice_get, Option, Some, None, refl, arith}
use Rattle.std.specs.List.{sum_by}
use Rattle.std.proofs.lemmas.List.Sums.{sum_by-cons}
use Rattle.rh_model.specs.declared.node.Node.{Node}
use Rattle.rh_courses.specs.declared.course.Change.{Change}
use Rattle.rh_courses.specs.declared.course.Stay.{Stay}
use Rattle.rh_courses.specs.Courses.{stay, stays_of, length_by, is_run, is_gap, ran, away}
use Rattle.rh_courses.specs.Laws.{began_by, DontFall, LengthsAddUp}

abbrev run_length : ℕ → Stay → ℕ
run_length now st = cond (is_run st) (length_by now st) 0

abbrev gap_length : ℕ → Stay → ℕ
gap_length now st = cond (is_gap st) (length_by now st) 0

began_before : (now : ℕ) (cs : List Change) → DontFall now cs → began_by now cs ≤ now
began_before now [] fall = omega arith
began_before now (c ∷ cs) fall = let later = began_before now cs fall.1 in omega (arith, fall.0, later)

-- a stay is a run or a gap
one_or_other : (now : ℕ) (st : Stay) → run_length now st + gap_length now st ≡ length_by now st
one_or_other now st = by st.place
  where
    by : (place : Option Node) → run_length now (record st { place = place }) + gap_length now (record st { place = place }) ≡ length_by now st
    by (Some n) = omega arith
    by None = omega arith

sums_add_up : (now : ℕ) (cs : List Change) → DontFall now cs
    → sum_by (run_length now) (stays_of cs) + sum_by (gap_length now) (stays_of cs) ≡ now - began_by now cs
unfolding stays_of
sums_add_up now [] fall = omega arith
sums_add_up now (c ∷ cs) fall =
    let st = stay c (slice_get cs 0) in
    let rest = sums_add_up now cs fall.1 in
    let here = one_or_other now st in
    let later = began_before now cs fall.1 in
    let runs : sum_by (run_length now) (stays_of (c ∷ cs)) ≡ run_length now st + sum_by (run_length now) (stays_of cs) =
    sum_by-cons (run_length now) st (stays_of cs) in
    let gaps : sum_by (gap_length now) (stays_of (c ∷ cs)) ≡ gap_length now st + sum_by (gap_length now) (stays_of cs) =
    sum_by-cons (gap_length now) st (stays_of cs) in
    let long : length_by now st ≡ began_by now cs - c.time = refl in
    omega (arith, rest, here, later, fall.0, runs, gaps, long)

pub lengths_add_up : LengthsAddUp
unfolding ran away
lengths_add_up c fall = sums_add_up c.time c.changes fall
