-- How many edits a part of a step keeps, put together from its own parts.
use Rattle.std.proofs.Common.{◌≡◌, ◌≤◌, ◌+◌, ℕ, List, [], ◌∷◌, ◌++◌, length, length-append, Result, Ok, Err, OnOk, ap, arith}
use Rattle.std.proofs.lemmas.List.Sums.{sum_by_push, sum_by-cons, sum_by-append}
use Rattle.rh_model.specs.ClusterView.{ClusterView}
use Rattle.rh_rules.specs.declared.notice.Notice.{Notice}
use Rattle.rh_rules.specs.declared.notice.Notice.TheVariants.{Up, Ended}
use Rattle.rh_trace.specs.Traces.{TraceView}
use Rattle.rh_trace.specs.Counts.{FewEdits, FewWeighed, weight, weights}
use Rattle.rh_trace.specs.Ways.{Tells}

-- one notice more
pub weights_told : (c : ClusterView) (notices : List Notice) (n : Notice) → weights c (notices ++ n ∷ []) ≡ weights c notices + weight c n
unfolding weights
weights_told c notices n = sum_by_push (weight c) notices n

pub weights_joined : (c : ClusterView) (ns ms : List Notice) → weights c (ns ++ ms) ≡ weights c ns + weights c ms
unfolding weights
weights_joined c ns ms = sum_by-append (weight c) ns ms

-- each notice weighs something
weighs : (c : ClusterView) (n : Notice) → 1 ≤ weight c n
weighs c (Up n) = omega arith
weighs c (Ended n) = omega arith
weighs c _ = omega arith

pub heavy : (c : ClusterView) (notices : List Notice) → length notices ≤ weights c notices
unfolding weights
heavy c [] = omega arith
heavy c (n ∷ notices) =
    let all = sum_by-cons (weight c) n notices in
    let rest = heavy c notices in
    let one = weighs c n in omega (arith, all, rest, one)

-- so what is few by the number of notices is few by their weights
pub weighed : (c : ClusterView) (more : ℕ) (old new : TraceView) → Tells old.notices new.notices → FewEdits more old new → FewWeighed c more old new
weighed c more old new tells few =
    let count = ap length tells.is in
    let sum = ap (weights c) tells.is in
    let counted = length-append old.notices tells.more in
    let summed = weights_joined c old.notices tells.more in
    let rest = heavy c tells.more in
    omega (arith, count, sum, counted, summed, rest, few)

-- one part was made, and then another
pub weighed_more : (c : ClusterView) (j k : ℕ) (s t u : TraceView) → FewWeighed c j s t → FewWeighed c k t u → FewWeighed c (j + k) s u
weighed_more c j k s t u g h = omega (arith, g, h)

-- what holds whatever was answered
pub on_ok_any : {T E P : Type 0} (r : Result T E) → P → OnOk r P
on_ok_any (Ok x) p = p
on_ok_any (Err e) p = tt
