-- Runs of entries that stand one behind the other, and what they say of the lists.
use Rattle.std.proofs.Common.{◌≡◌, ◌≢◌, ◌⊎◌, ℕ, suc, List, [], ◌∷◌, length, Option, Some, None, refl, sym, ap, subst, ◌∙◌, inl, inr}
use Rattle.std.specs.List.{slice_get}
use Rattle.std.proofs.lemmas.Bool.{cond-true, cond-false}
use Rattle.std.proofs.lemmas.Bool.Decides.{eqb_tells}
use Rattle.rh_arena.specs.Words.{Words, prev_of, next_of, head_of, tail_of, count_of}
use Rattle.rh_arena.specs.Lists.{walk, listed, after, before_from}
use Rattle.rh_arena.specs.WellFormed.{IsRun, IsList}
use Rattle.rh_arena.proofs.Members.{IsIn, AreDifferent}

-- words that agree at the entries of a run have it too
pub run_frame : (w v : Words) (p s : Option ℕ) (xs : List ℕ) (t : Option ℕ) → IsRun w p s xs t
    → ((j : ℕ) → IsIn j xs → prev_of v j ≡ prev_of w j) → ((j : ℕ) → IsIn j xs → next_of v j ≡ next_of w j) → IsRun v p s xs t
run_frame w v p s [] t r f g = r
run_frame w v p s (x ∷ xs) t r f g = (
  r.0,
  f x (inl refl) ∙ r.1,
  subst (λ u. IsRun v (Some x) u xs t) (sym (g x (inl refl))) (run_frame w v (Some x) (next_of w x) xs t r.2 (λ j m. f j (inr m)) (λ j m. g j (inr m))),
)

pub list_frame : (w v : Words) (l : ℕ) (xs : List ℕ) → IsList w l xs → head_of v l ≡ head_of w l → tail_of v l ≡ tail_of w l → count_of v l ≡ count_of w l
    → ((j : ℕ) → IsIn j xs → prev_of v j ≡ prev_of w j) → ((j : ℕ) → IsIn j xs → next_of v j ≡ next_of w j) → IsList v l xs
list_frame w v l xs g first last count f n = record {
  linked = subst (λ s. IsRun v None s xs (tail_of v l)) (sym first)
      (subst (λ t. IsRun v None (head_of w l) xs t) (sym last) (run_frame w v None (head_of w l) xs (tail_of w l) g.linked f n));
  counted = count ∙ g.counted;
  different = g.different;
}

-- the entries of a run are those of a walk from its start
pub run_walk : (w : Words) (p s : Option ℕ) (xs : List ℕ) (t : Option ℕ) → IsRun w p s xs t → walk w s (length xs) ≡ xs
run_walk w p s [] t r = refl
run_walk w p s (x ∷ xs) t r = ap (λ u. walk w u (suc (length xs))) r.0 ∙ ap (λ ys. x ∷ ys) (run_walk w (Some x) (next_of w x) xs t r.2)

pub is_listed : (w : Words) (l : ℕ) (xs : List ℕ) → IsList w l xs → listed w l ≡ xs
unfolding listed
is_listed w l xs h = ap (walk w (head_of w l)) h.counted ∙ run_walk w None (head_of w l) xs (tail_of w l) h.linked

-- ---- what the words of a run's entries are
pub run_first : (w : Words) (p s : Option ℕ) (xs : List ℕ) (t : Option ℕ) → IsRun w p s xs t → s ≡ slice_get xs 0
run_first w p s [] t r = r.0
run_first w p s (x ∷ xs) t r = r.0

pub run_next : (w : Words) (p s : Option ℕ) (xs : List ℕ) (t : Option ℕ) (i : ℕ) → IsRun w p s xs t → IsIn i xs → next_of w i ≡ after i xs
run_next w p s [] t i r m = absurd m
run_next w p s (x ∷ xs) t i r m = elim (eqb_tells x i) [
  | inl a ↦ ap (λ k. next_of w k) (sym a.1) ∙ run_first w (Some x) (next_of w x) xs t r.2 ∙ sym (cond-true _ _ _ a.0)
  | inr a ↦ elim m [
    | inl e ↦ absurd (a.1 (sym e))
    | inr n ↦ run_next w (Some x) (next_of w x) xs t i r.2 n ∙ sym (cond-false _ _ _ a.0)
  ]
]

pub run_prev : (w : Words) (p s : Option ℕ) (xs : List ℕ) (t : Option ℕ) (i : ℕ) → IsRun w p s xs t → IsIn i xs → prev_of w i ≡ before_from p i xs
run_prev w p s [] t i r m = absurd m
run_prev w p s (x ∷ xs) t i r m = elim (eqb_tells x i) [
  | inl a ↦ ap (λ k. prev_of w k) (sym a.1) ∙ r.1 ∙ sym (cond-true _ _ _ a.0)
  | inr a ↦ elim m [
    | inl e ↦ absurd (a.1 (sym e))
    | inr n ↦ run_prev w (Some x) (next_of w x) xs t i r.2 n ∙ sym (cond-false _ _ _ a.0)
  ]
]

-- ---- neighbours, and the ends of a run, are its entries
pub run_start_in : (w : Words) (p s : Option ℕ) (xs : List ℕ) (t : Option ℕ) (j : ℕ) → IsRun w p s xs t → s ≡ Some j → IsIn j xs
run_start_in w p s [] t j r e = absurd (let q : None ≡ Some j = sym r.0 ∙ e in cc)
run_start_in w p s (x ∷ xs) t j r e = inl (let q : j ≡ x = cc (r.0, e) in q)

pub run_last_behind : (w : Words) (p s : Option ℕ) (x : ℕ) (xs : List ℕ) (t : Option ℕ) (j : ℕ) → IsRun w p s (x ∷ xs) t → t ≡ Some j → IsIn j (x ∷ xs)
run_last_behind w p s x [] t j r e = inl (let q : j ≡ x = cc (r.2.1, e) in q)
run_last_behind w p s x (y ∷ ys) t j r e = inr (run_last_behind w (Some x) (next_of w x) y ys t j r.2 e)

pub run_last_in : (w : Words) (s : Option ℕ) (xs : List ℕ) (t : Option ℕ) (j : ℕ) → IsRun w None s xs t → t ≡ Some j → IsIn j xs
run_last_in w s [] t j r e = absurd (let q : None ≡ Some j = sym r.1 ∙ e in cc)
run_last_in w s (x ∷ xs) t j r e = run_last_behind w None s x xs t j r e

pub run_next_in : (w : Words) (p s : Option ℕ) (xs : List ℕ) (t : Option ℕ) (i j : ℕ) → IsRun w p s xs t → IsIn i xs → next_of w i ≡ Some j → IsIn j xs
run_next_in w p s [] t i j r m e = absurd m
run_next_in w p s (x ∷ xs) t i j r (inl q) e = inr (run_start_in w (Some x) (next_of w x) xs t j r.2 (ap (λ k. next_of w k) (sym q) ∙ e))
run_next_in w p s (x ∷ xs) t i j r (inr m) e = inr (run_next_in w (Some x) (next_of w x) xs t i j r.2 m e)

pub run_prev_in : (w : Words) (p s : Option ℕ) (xs : List ℕ) (t : Option ℕ) (i j : ℕ) → IsRun w p s xs t → IsIn i xs → prev_of w i ≡ Some j
    → IsIn j xs ⊎ (p ≡ Some j)
run_prev_in w p s [] t i j r m e = absurd m
run_prev_in w p s (x ∷ xs) t i j r (inl q) e = inr (sym r.1 ∙ ap (λ k. prev_of w k) (sym q) ∙ e)
run_prev_in w p s (x ∷ xs) t i j r (inr m) e = elim (run_prev_in w (Some x) (next_of w x) xs t i j r.2 m e) [
  | inl n ↦ inl (inr n)
  | inr q ↦ inl (inl (let k : j ≡ x = cc q in k))
]

-- ---- no entry is its own neighbour
pub run_not_prev : (w : Words) (p s : Option ℕ) (xs : List ℕ) (t : Option ℕ) (i : ℕ) → IsRun w p s xs t → AreDifferent xs → IsIn i xs → p ≢ Some i
    → prev_of w i ≢ Some i
run_not_prev w p s [] t i r d m n e = absurd m
run_not_prev w p s (x ∷ xs) t i r d (inl q) n e = n (sym r.1 ∙ ap (λ k. prev_of w k) (sym q) ∙ e)
run_not_prev w p s (x ∷ xs) t i r d (inr m) n e =
    run_not_prev w (Some x) (next_of w x) xs t i r.2 d.1 m (λ f. d.0 (subst (λ k. IsIn k xs) (let q : i ≡ x = cc f in q) m)) e

pub run_not_next : (w : Words) (p s : Option ℕ) (xs : List ℕ) (t : Option ℕ) (i : ℕ) → IsRun w p s xs t → AreDifferent xs → IsIn i xs
    → next_of w i ≢ Some i
run_not_next w p s [] t i r d m e = absurd m
run_not_next w p s (x ∷ xs) t i r d (inl q) e =
    d.0 (run_start_in w (Some x) (next_of w x) xs t x r.2 (ap (λ k. next_of w k) (sym q) ∙ e ∙ ap (λ k. Some k) q))
run_not_next w p s (x ∷ xs) t i r d (inr m) e = run_not_next w (Some x) (next_of w x) xs t i r.2 d.1 m e
