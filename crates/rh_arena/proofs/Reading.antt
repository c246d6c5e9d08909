-- What well-formed words say of their lists.
use Rattle.std.proofs.Common.{◌≡◌, ◌≢◌, ◌⊎◌, ◌<◌, ◌≤◌, ℕ, [], length, Some, None, sym, ap, subst, ◌∙◌, inl, inr, arith}
use Rattle.std.specs.List.{slice_get, Contains}
use Rattle.std.proofs.lemmas.List.{get_or_past}
use Rattle.std.proofs.lemmas.Bool.{cases_lt}
use Rattle.rh_arena.specs.Words.{Words, entry_count, list_count, prev_of, next_of, owner_of, head_of, tail_of, count_of}
use Rattle.rh_arena.specs.Lists.{walk, listed, after, before}
use Rattle.rh_arena.specs.WellFormed.{IsRun, IsWellFormed}
use Rattle.rh_arena.proofs.Members.{IsIn, AreDifferent, in_from_contains, contains_from_in, length-le_different, different_from_pairs}
use Rattle.rh_arena.proofs.Runs.{run_first, run_next, run_prev, run_start_in, run_last_in, run_next_in, run_prev_in, run_not_prev, run_not_next}

-- a list that isn't there has no entries
pub listed_past : (w : Words) (l : ℕ) → length w.count ≤ l → listed w l ≡ []
unfolding listed
listed_past w l out = ap (walk w (head_of w l)) (get_or_past w.count l 0 out)

pub listed_outside : (w : Words) (l : ℕ) → IsWellFormed w → ¬ (l < list_count w) → listed w l ≡ []
listed_outside w l h out = listed_past w l (let n : list_count w ≤ l = omega (arith, out) in omega (arith, n, h.count))

-- ---- an entry's list
pub in_from_owner : (w : Words) (l i : ℕ) → IsWellFormed w → owner_of w i ≡ Some l → IsIn i (listed w l)
in_from_owner w l i h o = in_from_contains i (listed w l) ((h.owners i l).0 o)

pub owner_from_in : (w : Words) (l i : ℕ) → IsWellFormed w → IsIn i (listed w l) → owner_of w i ≡ Some l
owner_from_in w l i h m = (h.owners i l).1 (contains_from_in i (listed w l) m)

-- it is one of the lists
pub owner_inside : (w : Words) (l i : ℕ) → IsWellFormed w → owner_of w i ≡ Some l → l < list_count w
owner_inside w l i h o = elim (cases_lt l (list_count w)) [
  | inl lt ↦ lt
  | inr le ↦ absurd (subst (λ xs. IsIn i xs) (listed_outside w l h (λ lt. omega (arith, le, lt))) (in_from_owner w l i h o))
]

-- and the entry is one of the entries
pub entry_inside : (w : Words) (l i : ℕ) → IsWellFormed w → owner_of w i ≡ Some l → i < entry_count w
entry_inside w l i h o = elim (cases_lt i (entry_count w)) [
  | inl lt ↦ lt
  | inr le ↦ absurd (let q : None ≡ Some l = sym (get_or_past w.owner i None (omega (arith, le, h.owner))) ∙ o in cc)
]

pub listed_below : (w : Words) (l i : ℕ) → IsWellFormed w → Contains (listed w l) i → i < entry_count w
listed_below w l i h c = entry_inside w l i h ((h.owners i l).1 c)

-- an entry is in one list at most
pub one_list : (w : Words) (l m i : ℕ) → IsWellFormed w → Contains (listed w l) i → Contains (listed w m) i → l ≡ m
one_list w l m i h a b = let e : owner_of w i ≡ Some l = (h.owners i l).1 a in let f : owner_of w i ≡ Some m = (h.owners i m).1 b in cc (e, f)

-- an entry without a list is in none of them
pub free_is_unlisted : (w : Words) (l i : ℕ) → IsWellFormed w → owner_of w i ≡ None → ¬ (Contains (listed w l) i)
free_is_unlisted w l i h free c = let q : None ≡ Some l = sym free ∙ (h.owners i l).1 c in cc

-- ---- how many a list has
pub count_listed : (w : Words) (l : ℕ) → IsWellFormed w → l < list_count w → count_of w l ≡ length (listed w l)
count_listed w l h lin = (h.lists l lin).counted

-- no more than there are entries
pub count_small : (w : Words) (l : ℕ) → IsWellFormed w → length (listed w l) ≤ entry_count w
count_small w l h = elim (cases_lt l (list_count w)) [
  | inl lt ↦ length-le_different (entry_count w) (listed w l) (h.lists l lt).different (λ i m. entry_inside w l i h (owner_from_in w l i h m))
  | inr le ↦ subst (λ xs. length xs ≤ entry_count w) (sym (listed_outside w l h (λ lt. omega (arith, le, lt)))) (omega arith)
]

-- ---- the words, read from the lists
pub first_listed : (w : Words) (l : ℕ) → IsWellFormed w → l < list_count w → head_of w l ≡ slice_get (listed w l) 0
first_listed w l h lin = run_first w None (head_of w l) (listed w l) (tail_of w l) (h.lists l lin).linked

run_of : (w : Words) (l i : ℕ) → IsWellFormed w → owner_of w i ≡ Some l → IsRun w None (head_of w l) (listed w l) (tail_of w l)
run_of w l i h o = (h.lists l (owner_inside w l i h o)).linked

pub next_listed : (w : Words) (l i : ℕ) → IsWellFormed w → owner_of w i ≡ Some l → next_of w i ≡ after i (listed w l)
next_listed w l i h o = run_next w None (head_of w l) (listed w l) (tail_of w l) i (run_of w l i h o) (in_from_owner w l i h o)

pub prev_listed : (w : Words) (l i : ℕ) → IsWellFormed w → owner_of w i ≡ Some l → prev_of w i ≡ before i (listed w l)
prev_listed w l i h o = run_prev w None (head_of w l) (listed w l) (tail_of w l) i (run_of w l i h o) (in_from_owner w l i h o)

-- ---- the entries that the words of a list, and of its entries, name are in that list
none_is_none : {P : Type 0} (j : ℕ) → P ⊎ (None ≡ Some j) → P
none_is_none j (inl p) = p
none_is_none j (inr e) = absurd cc

pub head_owner : (w : Words) (l j : ℕ) → IsWellFormed w → head_of w l ≡ Some j → owner_of w j ≡ Some l
head_owner w l j h e = elim (cases_lt l (list_count w)) [
  | inl lt ↦ owner_from_in w l j h (run_start_in w None (head_of w l) (listed w l) (tail_of w l) j (h.lists l lt).linked e)
  | inr le ↦ absurd (let q : None ≡ Some j = sym (get_or_past w.head l None le) ∙ e in cc)
]

pub tail_owner : (w : Words) (l j : ℕ) → IsWellFormed w → tail_of w l ≡ Some j → owner_of w j ≡ Some l
tail_owner w l j h e = elim (cases_lt l (list_count w)) [
  | inl lt ↦ owner_from_in w l j h (run_last_in w (head_of w l) (listed w l) (tail_of w l) j (h.lists l lt).linked e)
  | inr le ↦ absurd (let q : None ≡ Some j = sym (get_or_past w.tail l None (omega (arith, le, h.tail))) ∙ e in cc)
]

pub next_owner : (w : Words) (l i j : ℕ) → IsWellFormed w → owner_of w i ≡ Some l → next_of w i ≡ Some j → owner_of w j ≡ Some l
next_owner w l i j h o e =
    owner_from_in w l j h (run_next_in w None (head_of w l) (listed w l) (tail_of w l) i j (run_of w l i h o) (in_from_owner w l i h o) e)

pub prev_owner : (w : Words) (l i j : ℕ) → IsWellFormed w → owner_of w i ≡ Some l → prev_of w i ≡ Some j → owner_of w j ≡ Some l
prev_owner w l i j h o e =
    owner_from_in w l j h
    (none_is_none j (run_prev_in w None (head_of w l) (listed w l) (tail_of w l) i j (run_of w l i h o) (in_from_owner w l i h o) e))

-- so they are entries
pub tail_inside : (w : Words) (l j : ℕ) → IsWellFormed w → tail_of w l ≡ Some j → j < entry_count w
tail_inside w l j h e = entry_inside w l j h (tail_owner w l j h e)

pub next_inside : (w : Words) (l i j : ℕ) → IsWellFormed w → owner_of w i ≡ Some l → next_of w i ≡ Some j → j < entry_count w
next_inside w l i j h o e = entry_inside w l j h (next_owner w l i j h o e)

pub prev_inside : (w : Words) (l i j : ℕ) → IsWellFormed w → owner_of w i ≡ Some l → prev_of w i ≡ Some j → j < entry_count w
prev_inside w l i j h o e = entry_inside w l j h (prev_owner w l i j h o e)

-- and not the last one of any
pub free_is_not_last : (w : Words) (l i : ℕ) → IsWellFormed w → owner_of w i ≡ None → tail_of w l ≢ Some i
free_is_not_last w l i h free e = let q : None ≡ Some l = sym free ∙ tail_owner w l i h e in cc

-- ---- no entry is its own neighbour
different_of : (w : Words) (l i : ℕ) → IsWellFormed w → owner_of w i ≡ Some l → AreDifferent (listed w l)
different_of w l i h o = different_from_pairs (listed w l) (h.lists l (owner_inside w l i h o)).different

pub not_own_prev : (w : Words) (l i : ℕ) → IsWellFormed w → owner_of w i ≡ Some l → prev_of w i ≢ Some i
not_own_prev w l i h o = run_not_prev w None (head_of w l) (listed w l) (tail_of w l) i (run_of w l i h o) (different_of w l i h o)
    (in_from_owner w l i h o) (λ e. cc e)

pub not_own_next : (w : Words) (l i : ℕ) → IsWellFormed w → owner_of w i ≡ Some l → next_of w i ≢ Some i
not_own_next w l i h o = run_not_next w None (head_of w l) (listed w l) (tail_of w l) i (run_of w l i h o) (different_of w l i h o) (in_from_owner w l i h o)
