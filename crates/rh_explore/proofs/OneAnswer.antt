-- A search has one answer.
use Rattle.std.proofs.Common.{◌≡◌, ◌<◌, ◌≤◌, ◌+◌, ℕ, zero, suc, true, List, [], ◌∷◌, ◌++◌, length, get_or, map, sum_by, take, slice_get, Some, All, inl, inr, refl, sym, ap, ◌∙◌, subst, arith}
use Rattle.std.specs.Prelude.{Any, Contains}
use Rattle.std.specs.List.{AllZip}
use Rattle.std.proofs.lemmas.Bool.{cases_lt}
use Rattle.std.proofs.lemmas.List.{length_push}
use Rattle.std.proofs.lemmas.List.Sums.{sum_by-cons}
use Rattle.std.proofs.lemmas.Option.{slice_get_within, slice_get-get_or}
use Rattle.rh_base.proofs.Truths.{both}
use Rattle.rh_state.specs.StateView.{StateView}
use Rattle.rh_rules.specs.declared.event.Event.{Event}
use Rattle.rh_trace.specs.Validity.{IsValid}
use Rattle.rh_step.specs.Runs.{step}
use Rattle.rh_keys.specs.Codes.{code}
use Rattle.rh_keys.specs.Shifts.{timeless, Alike}
use Rattle.rh_keys.specs.ShiftLaws.{meets_limit}
use Rattle.rh_keys.proofs.KeysApart.{packed_alike}
use Rattle.rh_keys.proofs.Places.{at_of, pair_of}
use Rattle.rh_explore.specs.declared.answers.Explored.{Explored}
use Rattle.rh_explore.specs.declared.answers.Verdict.{Verdict}
use Rattle.rh_explore.specs.declared.answers.Verdict.TheVariants.{Holds, Fails}
use Rattle.rh_explore.specs.declared.asking.Ask.{Ask}
use Rattle.rh_explore.specs.declared.bounds.Bounds.{Bounds}
use Rattle.rh_explore.specs.declared.bounds.Covered.{Covered}
use Rattle.rh_explore.specs.declared.bounds.Covered.TheVariants as covered
use Rattle.rh_explore.specs.Asking.{holds_in}
use Rattle.rh_explore.specs.Before.{ComesBefore}
use Rattle.rh_explore.specs.Exploring.{key_length, StaysBelowLimits, IsCovered, IsFirst, IsVerdict, IsTooMuch, IsEndOf, IsAnswer}
use Rattle.rh_explore.specs.Laws.{told_of, MayAlwaysWait, AnswersAreOne}
use Rattle.rh_explore.specs.Reaching.{Scope, MayAllCome, Reaches, behind}
use Rattle.rh_explore.proofs.Alikes.{asked_alike}
use Rattle.rh_explore.proofs.InTurn.{at_take, within_take}
use Rattle.rh_explore.proofs.OneOrder.{one_order}
use Rattle.rh_explore.proofs.Searched.{may_push, behind_push, behind_valid}

-- a state that stands somewhere
any_at : {A : Type 0} (P : A → Type 0) (xs : List A) → Any P xs → (k : ℕ) × (x : A) × (slice_get xs k ≡ Some x) × P x
any_at P xs any = (any.0, any.1, slice_get-get_or xs any.0 any.1 any.2 ∙ ap Some any.3, any.4)

-- those that stand at one place are alike
abbrev AreAlike : List StateView → List StateView → ℕ → Type 0
AreAlike xs ys n = (k : ℕ) (s t : StateView) → k < n → slice_get xs k ≡ Some s → slice_get ys k ≡ Some t → Alike s t

alike_key : (s t : StateView) → Alike s t → key_length s ≡ key_length t
alike_key s t alike = ap (λ k. length (code k)) (packed_alike s t alike)

sums_alike : (xs ys : List StateView) (n : ℕ) → n ≤ length xs → n ≤ length ys → AreAlike xs ys n → sum_by key_length (take n xs) ≡ sum_by key_length (take n ys)
sums_alike xs ys zero l m alike = refl
sums_alike [] ys (suc n) l m alike = absurd (omega (arith, l))
sums_alike (x ∷ xs) [] (suc n) l m alike = absurd (omega (arith, m))
sums_alike (x ∷ xs) (y ∷ ys) (suc n) l m alike =
    let one = alike_key x y (alike 0 x y (omega arith) refl refl) in
    let rest = sums_alike xs ys n (omega (arith, l)) (omega (arith, m)) (λ k s t below a b. alike (suc k) s t (omega (arith, below)) a b) in
    sum_by-cons key_length x (take n xs) ∙ (λ i. one i + rest i) ∙ sym (sum_by-cons key_length y (take n ys))

take_whole : {A : Type 0} (xs : List A) → take (length xs) xs ≡ xs
take_whole [] = refl
take_whole (x ∷ xs) = ap (λ (l : List _). x ∷ l) (take_whole xs)

module _ (w : Scope) (bounds : Bounds) (asks : List Ask) (valid : IsValid w.base) (below : StaysBelowLimits w bounds.steps) where
  -- ---- the states
  -- where those of two are alike up to a place, no list that leads to the next of one comes before that of the other
  sooner : (x y : Explored) (a : IsAnswer w bounds asks x) (b : IsAnswer w bounds asks y) (n k : ℕ) (s t : StateView) → AreAlike a.found b.found n → k ≤ n
      → slice_get a.found k ≡ Some s → (there : slice_get b.found k ≡ Some t) (es : List Event) → MayAllCome w w.base es → behind w w.base es ≡ s
      → ComesBefore w es (b.reached.in_order k t there).events → ⊥
  sooner x y a b n k s t same l at there es may leads before =
      let e = any_at (Alike (behind w w.base es)) (take k b.found) ((b.reached.in_order k t there).first es may before) in
      let j_in = within_take b.found k e.0 e.1 e.2 in
      let u_there = sym (at_take b.found k e.0 j_in) ∙ e.2 in
      let inside : e.0 < length a.found = omega (arith, j_in, slice_get_within a.found k s at) in
      let v = get_or a.found e.0 s in
      let v_there = slice_get-get_or a.found e.0 s inside in
      let here = same e.0 v e.1 (omega (arith, j_in, l)) v_there u_there in
      pair_of (λ p q. Alike p q → ⊥) a.found e.0 k v s a.reached.different j_in v_there at (here ∙ sym e.3 ∙ ap timeless leads)

  module _ (x y : Explored) (a : IsAnswer w bounds asks x) (b : IsAnswer w bounds asks y) where
    -- up to a place, those of one are those of the other
    alike_below : (n : ℕ) → AreAlike a.found b.found n
    alike_below zero k s t l at there = absurd (omega (arith, l))
    alike_below (suc n) k s t l at there =
        let one = a.reached.in_order k s at in
        let other = b.reached.in_order k t there in
        let same = alike_below n in
        let k_in : k ≤ n = omega (arith, l) in
        elim (one_order w one.events other.events one.may_come) [
          | inl parts ↦ elim parts [
            | inl p ↦ absurd (sooner x y a b n k s t same k_in at there one.events one.may_come one.leads p)
            | inr p ↦
                absurd (sooner y x b a n k t s (λ j u v m here that. sym (same j v u m that here)) k_in there at other.events other.may_come other.leads p)
          ]
          | inr list ↦ ap timeless (sym one.leads ∙ ap (behind w w.base) list ∙ other.leads)
        ]

    -- a state of one is alike to that of the other
    found_again : (es : List Event) → length a.found ≡ length b.found → Any (Alike (behind w w.base es)) a.found
        → (k : ℕ) × (t : StateView) × (slice_get b.found k ≡ Some t) × Alike (behind w w.base es) t
    found_again es long any =
        let e = any_at (Alike (behind w w.base es)) a.found any in
        let within = slice_get_within a.found e.0 e.1 e.2 in
        let t = get_or b.found e.0 e.1 in
        let there = slice_get-get_or b.found e.0 e.1 (omega (arith, within, long)) in
        (e.0, t, there, e.3 ∙ alike_below (suc e.0) e.0 e.1 t (omega arith) e.2 there)

    -- there is always the base
    begins : 0 < length a.found
    begins = let at = any_at (λ s. (es : List Event) → MayAllCome w w.base es → Alike (behind w w.base es) s → x.deepest ≤ length es) a.found a.reached.farthest in
        omega (arith, slice_get_within a.found at.0 at.1 at.2)

    -- where one has fewer, another one was left out without a reason
    not_fewer : length a.found < length b.found → ⊥
    not_fewer fewer =
        let k = length a.found in
        let t = get_or b.found k w.base in
        let there = slice_get-get_or b.found k w.base fewer in
        let r = at_of (Reaches w y.deepest) b.found k t b.reached.reached there in
        let few = r.few in
        let all = b.deepest in
        by_end r.events r.may_come r.leads (omega (arith, few, all)) x.covered refl a.end
      where
        missing : (es : List Event) → MayAllCome w w.base es → behind w w.base es ≡ get_or b.found (length a.found) w.base → IsCovered x.covered es → ⊥
        missing es may leads in_covered =
            let e = any_at (Alike (behind w w.base es)) a.found (a.reached.complete es may in_covered) in
            let within = slice_get_within a.found e.0 e.1 e.2 in
            let v = get_or b.found e.0 e.1 in
            let v_there = slice_get-get_or b.found e.0 e.1 (omega (arith, within, fewer)) in
            let here = alike_below (suc e.0) e.0 e.1 v (omega arith) e.2 v_there in
            let there = slice_get-get_or b.found (length a.found) w.base fewer in
            pair_of (λ p q. Alike p q → ⊥) b.found e.0 (length a.found) v (get_or b.found (length a.found) w.base) b.reached.different within v_there there
            (sym here ∙ sym e.3 ∙ ap timeless leads)

        by_end : (es : List Event) → MayAllCome w w.base es → behind w w.base es ≡ get_or b.found (length a.found) w.base → length es ≤ bounds.steps
            → (c : Covered) → x.covered ≡ c → IsEndOf w bounds x.deepest a.found c → ⊥
        by_end es may leads few covered.All is end = missing es may leads (subst (λ c. IsCovered c es) (sym is) tt)
        by_end es may leads few (covered.UpTo n) is (inl end) =
            missing es may leads (subst (λ c. IsCovered c es) (sym is) (let n_is = end.0 in omega (arith, few, n_is)))
        by_end es may leads few (covered.UpTo n) is (inr (short, ds, d, can, long, inr (move, met))) =
            both (meets_limit (behind w w.base ds) d) met (below ds d can (omega (arith, short, long)) move)
        by_end es may leads few (covered.UpTo n) is (inr (short, ds, d, can, long, inl (inl full, one, new))) =
            let room = b.room (length a.found) begins fewer in
            let less = room.0 in
            omega (arith, less, full)
        by_end es may leads few (covered.UpTo n) is (inr (short, ds, d, can, long, inl (inr full, one, new))) =
            let room = b.room (length a.found) begins fewer in
            let less = room.1 in
            let k = length a.found in
            let sums = sums_alike a.found b.found k (omega arith) (omega (arith, fewer)) (λ j s t l at there. alike_below (suc j) j s t (omega arith) at there) in
            let whole = ap (sum_by key_length) (take_whole a.found) in
            omega (arith, less, full, sums, whole)

    -- no list is longer than the longest of the other
    not_deeper : length a.found ≡ length b.found → x.deepest ≤ y.deepest
    not_deeper long =
        let e = any_at (λ s. (es : List Event) → MayAllCome w w.base es → Alike (behind w w.base es) s → x.deepest ≤ length es) a.found a.reached.farthest in
        let within = slice_get_within a.found e.0 e.1 e.2 in
        let t = get_or b.found e.0 e.1 in
        let there = slice_get-get_or b.found e.0 e.1 (omega (arith, within, long)) in
        let r = at_of (Reaches w y.deepest) b.found e.0 t b.reached.reached there in
        let here = alike_below (suc e.0) e.0 e.1 t (omega arith) e.2 there in
        let l = e.3 r.events r.may_come (ap timeless r.leads ∙ sym here) in
        let few = r.few in
        omega (arith, l, few)

    -- an event that was too much for one is behind no list that the other covers
    not_cut : length a.found ≡ length b.found → (es : List Event) (e : Event) → MayAllCome w w.base es → length es < bounds.steps
        → IsTooMuch w bounds b.found (behind w w.base es) e → ((ds : List Event) → length ds ≡ length es + 1 → IsCovered x.covered ds) → ⊥
    not_cut long es e may short (inr (move, met)) covers = both (meets_limit (behind w w.base es) e) met (below es e may short move)
    not_cut long es e may short (inl (full, can, new)) covers =
        let more = es ++ e ∷ [] in
        let again = found_again more long (a.reached.complete more (may_push w w.base es e may can) (covers more (length_push es e))) in
        at_of (λ t. Alike t (step w.pick (behind w w.base es) e) → ⊥) b.found again.0 again.1 new again.2
        (sym again.3 ∙ ap timeless (behind_push w w.base es e))

    -- ---- the verdicts
    reached_valid : (k : ℕ) (s : StateView) → slice_get a.found k ≡ Some s → IsValid s
    reached_valid k s at =
        let r = at_of (Reaches w x.deepest) a.found k s a.reached.reached at in
        subst IsValid r.leads (behind_valid w w.base r.events valid r.may_come)

    -- what holds in each state of one fails in none of the other
    holds_not : length a.found ≡ length b.found → (ask : Ask) → MayAlwaysWait w ask → (es : List Event) → All (λ s. holds_in w.pick ask s ≡ true) a.found
        → IsFirst w bounds.steps ask es → Contains b.found (behind w w.base es) → ⊥
    holds_not long ask wait es all first has =
        let s = behind w w.base es in
        let k = has.0 in
        let within = has.1 in
        let s_there : slice_get b.found k ≡ Some s = slice_get-get_or b.found k s within ∙ ap Some has.2 in
        let t = get_or a.found k s in
        let t_there = slice_get-get_or a.found k s (omega (arith, within, long)) in
        let alike = alike_below (suc k) k t s (omega arith) t_there s_there in
        both (holds_in w.pick ask s)
        (asked_alike w.pick ask s t (behind_valid w w.base es valid first.may_come) (reached_valid k t t_there) (sym alike) (wait es first.may_come)
        (at_of (λ z. holds_in w.pick ask z ≡ true) a.found k t all t_there)) first.fails

  module _ (x y : Explored) (a : IsAnswer w bounds asks x) (b : IsAnswer w bounds asks y) (long : length a.found ≡ length b.found) where
    verdict_one : (ask : Ask) → MayAlwaysWait w ask → (p q : Verdict) → IsVerdict w bounds.steps x.covered a.found ask p
        → IsVerdict w bounds.steps y.covered b.found ask q → told_of p ≡ told_of q
    verdict_one ask wait Holds Holds one other = refl
    verdict_one ask wait Holds (Fails fs) one other = absurd (holds_not x y a b long ask wait fs.items one.1 other.0 other.1)
    verdict_one ask wait (Fails es) Holds one other = absurd (holds_not y x b a (sym long) ask wait es.items other.1 one.0 one.1)
    verdict_one ask wait (Fails es) (Fails fs) one other = elim (one_order w es.items fs.items one.0.may_come) [
      | inl parts ↦ elim parts [
        | inl p ↦
            absurd (both (holds_in w.pick ask (behind w w.base es.items)) (other.0.first es.items one.0.may_come p (wait es.items one.0.may_come)) one.0.fails)
        | inr p ↦
            absurd (both (holds_in w.pick ask (behind w w.base fs.items)) (one.0.first fs.items other.0.may_come p (wait fs.items other.0.may_come)) other.0.fails)
      ]
      | inr same ↦ ap Some same
    ]

    verdicts_all : (few : List Ask) → ((k : ℕ) (ask : Ask) → slice_get few k ≡ Some ask → MayAlwaysWait w ask) → (ps qs : List Verdict)
        → AllZip (IsVerdict w bounds.steps x.covered a.found) few ps → AllZip (IsVerdict w bounds.steps y.covered b.found) few qs → map told_of ps ≡ map told_of qs
    verdicts_all [] wait [] [] one other = refl
    verdicts_all [] wait [] (q ∷ qs) one other = absurd other
    verdicts_all [] wait (p ∷ ps) qs one other = absurd one
    verdicts_all (ask ∷ few) wait [] qs one other = absurd one
    verdicts_all (ask ∷ few) wait (p ∷ ps) [] one other = absurd other
    verdicts_all (ask ∷ few) wait (p ∷ ps) (q ∷ qs) one other =
        let first = verdict_one ask (wait 0 ask refl) p q one.0 other.0 in
        let rest = verdicts_all few (λ k z at. wait (suc k) z at) ps qs one.1 other.1 in
        λ i. first i ∷ rest i

    -- ---- how far they came
    bytes_same : sum_by key_length a.found ≡ sum_by key_length b.found
    bytes_same =
        ap (sum_by key_length) (sym (take_whole a.found))
        ∙ sums_alike a.found b.found (length a.found) (omega arith) (omega (arith, long)) (λ k s t l at there. alike_below x y a b (suc k) k s t (omega arith) at there)
        ∙ ap (λ n. sum_by key_length (take n b.found)) long
        ∙ ap (sum_by key_length) (take_whole b.found)

    deepest_same : x.deepest ≡ y.deepest
    deepest_same = let l = not_deeper x y a b long in let m = not_deeper y x b a (sym long) in omega (arith, l, m)

    covered_same : (p q : Covered) → x.covered ≡ p → y.covered ≡ q → IsEndOf w bounds x.deepest a.found p → IsEndOf w bounds y.deepest b.found q → p ≡ q
    covered_same covered.All covered.All is other end last = refl
    covered_same covered.All (covered.UpTo m) is other end (inl last) =
        let deep = last.1 in absurd (omega (arith, end, deep, deepest_same))
    covered_same covered.All (covered.UpTo m) is other end (inr (short, es, e, can, many, too)) =
        absurd (not_cut x y a b long es e can (omega (arith, short, many)) too (λ ds l. subst (λ c. IsCovered c ds) (sym is) tt))
    covered_same (covered.UpTo n) covered.All is other (inl end) last =
        let deep = end.1 in absurd (omega (arith, last, deep, deepest_same))
    covered_same (covered.UpTo n) covered.All is other (inr (short, es, e, can, many, too)) last =
        absurd (not_cut y x b a (sym long) es e can (omega (arith, short, many)) too (λ ds l. subst (λ c. IsCovered c ds) (sym other) tt))
    covered_same (covered.UpTo n) (covered.UpTo m) is other (inl end) (inl last) = ap covered.UpTo (end.0 ∙ sym last.0)
    covered_same (covered.UpTo n) (covered.UpTo m) is other (inl end) (inr (short, es, e, can, many, too)) =
        absurd (not_cut x y a b long es e can (omega (arith, short, many)) too
        (λ ds l. subst (λ c. IsCovered c ds) (sym is) (let n_is = end.0 in omega (arith, l, many, short, n_is))))
    covered_same (covered.UpTo n) (covered.UpTo m) is other (inr (short, es, e, can, many, too)) (inl last) =
        absurd (not_cut y x b a (sym long) es e can (omega (arith, short, many)) too
        (λ ds l. subst (λ c. IsCovered c ds) (sym other) (let m_is = last.0 in omega (arith, l, many, short, m_is))))
    covered_same (covered.UpTo n) (covered.UpTo m) is other (inr (short, es, e, can, many, too)) (inr (few, ds, d, may, most, over)) =
        elim (cases_lt n m) [
          | inl l ↦
              absurd (not_cut y x b a (sym long) es e can (omega (arith, short, many)) too
              (λ fs k. subst (λ c. IsCovered c fs) (sym other) (omega (arith, l, many, k))))
          | inr l ↦ elim (cases_lt m n) [
            | inl k ↦
                absurd (not_cut x y a b long ds d may (omega (arith, few, most)) over
                (λ fs j. subst (λ c. IsCovered c fs) (sym is) (omega (arith, k, most, j))))
            | inr k ↦ ap covered.UpTo (omega (arith, l, k))
          ]
        ]

  same_length : (x y : Explored) (a : IsAnswer w bounds asks x) (b : IsAnswer w bounds asks y) → length a.found ≡ length b.found
  same_length x y a b = elim (cases_lt (length a.found) (length b.found)) [
    | inl l ↦ absurd (not_fewer x y a b l)
    | inr l ↦ elim (cases_lt (length b.found) (length a.found)) [
      | inl m ↦ absurd (not_fewer y x b a m)
      | inr m ↦ omega (arith, l, m)
    ]
  ]

pub answers_are_one : AnswersAreOne
answers_are_one w bounds asks x y valid below waits a b =
    let long = same_length w bounds asks valid below x y a b in
    record {
      states = sym a.states ∙ long ∙ b.states;
      bytes = sym a.bytes ∙ bytes_same w bounds asks valid below x y a b long ∙ b.bytes;
      deepest = deepest_same w bounds asks valid below x y a b long;
      covered = covered_same w bounds asks valid below x y a b long x.covered y.covered refl refl a.end b.end;
      verdicts = verdicts_all w bounds asks valid below x y a b long asks (λ k ask at. at_of (MayAlwaysWait w) asks k ask waits at)
          x.verdicts.items y.verdicts.items a.verdicts b.verdicts;
    }
