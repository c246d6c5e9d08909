-- An entry in no list, put at the end of one.
use Rattle.std.proofs.Common.{◌≡◌, ◌≢◌, ◌<◌, ◌+◌, ◌↔◌, ℕ, List, [], ◌∷◌, ◌++◌, length, Option, Some, None, get_or, set}
use Rattle.std.proofs.Common.{refl, sym, ap, subst, ◌∙◌, inl, inr, arith}
use Rattle.std.specs.List.{Contains}
use Rattle.std.proofs.lemmas.List.{length-set, get_or-set_same, get_or-set_other, length_push}
use Rattle.std.proofs.lemmas.List.Elements.{Contains-get_or, Contains-push, Contains-append_left, Contains-push_cases}
use Rattle.std.proofs.lemmas.List.Quantifiers.{all_pairs_push}
use Rattle.std.proofs.lemmas.Bool.{cases_eq}
use Rattle.rh_arena.specs.Words.{Words, entry_count, list_count, prev_of, next_of, owner_of, head_of, tail_of, count_of}
use Rattle.rh_arena.specs.Lists.{listed}
use Rattle.rh_arena.specs.Linking.{pushed}
use Rattle.rh_arena.specs.WellFormed.{IsRun, IsList, IsWellFormed}
use Rattle.rh_arena.proofs.Members.{IsIn, AreDifferent, different_from_pairs}
use Rattle.rh_arena.proofs.Runs.{run_last_behind, list_frame}
use Rattle.rh_arena.proofs.Reading.{owner_from_in, tail_owner, tail_inside, free_is_not_last, count_small}
use Rattle.rh_arena.proofs.Changed.{IsChanged, changed_listed, changed_others, changed_formed}
use Rattle.rh_arena.proofs.Linking.{length-set_at, set_at_other, set_at_same, set_unless_other, set_unless_some, set_unless_none}
use Rattle.rh_arena.proofs.Linking.{entry_count-pushed, list_count-pushed}

-- a run with one more entry i behind its last one
run_push : (w v : Words) (p s : Option ℕ) (x : ℕ) (xs : List ℕ) (t : Option ℕ) (i : ℕ) → IsRun w p s (x ∷ xs) t → AreDifferent (x ∷ xs)
    → ((j : ℕ) → IsIn j (x ∷ xs) → prev_of v j ≡ prev_of w j) → ((j : ℕ) → IsIn j (x ∷ xs) → t ≢ Some j → next_of v j ≡ next_of w j)
    → ((j : ℕ) → t ≡ Some j → next_of v j ≡ Some i) → prev_of v i ≡ t → next_of v i ≡ None → IsRun v p s (x ∷ xs ++ i ∷ []) (Some i)
run_push w v p s x [] t i r d f g last before behind = (r.0, f x (inl refl) ∙ r.1, (last x r.2.1, before ∙ r.2.1, (behind, refl)))
run_push w v p s x (y ∷ ys) t i r d f g last before behind =
    let other : t ≢ Some x = λ e. d.0 (run_last_behind w (Some x) (next_of w x) y ys t x r.2 e) in (
      r.0,
      f x (inl refl) ∙ r.1,
      subst (λ u. IsRun v (Some x) u (y ∷ ys ++ i ∷ []) (Some i)) (sym (g x (inl refl) other))
          (run_push w v (Some x) (next_of w x) y ys t i r.2 d.1 (λ j m. f j (inr m)) (λ j m. g j (inr m)) last before behind),
    )

module _ (w : Words) (l i : ℕ) (h : IsWellFormed w) (lin : l < list_count w) (iin : i < entry_count w) (free : owner_of w i ≡ None) where
  -- an entry with a list is another one
  owned_differs : (j m : ℕ) → owner_of w j ≡ Some m → j ≢ i
  owned_differs j m o e = let q : None ≡ Some m = sym free ∙ ap (λ k. owner_of w k) (sym e) ∙ o in cc

  prev_new : prev_of (pushed w l i) i ≡ tail_of w l
  prev_new = get_or-set_same w.prev i (tail_of w l) None iin

  prev_other : (j : ℕ) → j ≢ i → prev_of (pushed w l i) j ≡ prev_of w j
  prev_other j other = get_or-set_other w.prev i j (tail_of w l) None other

  next_new : next_of (pushed w l i) i ≡ None
  next_new = set_at_other (set w.next i None) (tail_of w l) (Some i) None i (free_is_not_last w l i h free)
      ∙ get_or-set_same w.next i None None (omega (arith, iin, h.next))

  next_other : (j : ℕ) → j ≢ i → tail_of w l ≢ Some j → next_of (pushed w l i) j ≡ next_of w j
  next_other j other last = set_at_other (set w.next i None) (tail_of w l) (Some i) None j last ∙ get_or-set_other w.next i j None None other

  next_last : (j : ℕ) → tail_of w l ≡ Some j → next_of (pushed w l i) j ≡ Some i
  next_last j e =
      let inside = tail_inside w l j h e in
      let same : length (set w.next i None) ≡ length w.next = length-set w.next i None in
      set_at_same (set w.next i None) (tail_of w l) (Some i) None j e (omega (arith, inside, same, h.next))

  owner_new : owner_of (pushed w l i) i ≡ Some l
  owner_new = get_or-set_same w.owner i (Some l) None (omega (arith, iin, h.owner))

  owner_other : (j : ℕ) → j ≢ i → owner_of (pushed w l i) j ≡ owner_of w j
  owner_other j other = get_or-set_other w.owner i j (Some l) None other

  -- the list has i at its end
  run_of : (xs : List ℕ) → xs ≡ listed w l → IsList w l xs → IsRun (pushed w l i) None (head_of (pushed w l i) l) (xs ++ i ∷ []) (Some i)
  run_of [] is g = (set_unless_none w.head (tail_of w l) l (Some i) None g.linked.1 lin, prev_new ∙ g.linked.1, (next_new, refl))
  run_of (x ∷ xs) is g =
      let apart : (j : ℕ) → IsIn j (x ∷ xs) → j ≢ i = λ j m. owned_differs j l (owner_from_in w l j h (subst (λ ys. IsIn j ys) is m)) in
      let first : head_of (pushed w l i) l ≡ head_of w l = first_stays x xs g.linked in
      subst (λ s. IsRun (pushed w l i) None s (x ∷ xs ++ i ∷ []) (Some i)) (sym first)
      (run_push w (pushed w l i) None (head_of w l) x xs (tail_of w l) i g.linked (different_from_pairs (x ∷ xs) g.different)
      (λ j m. prev_other j (apart j m))
      (λ j m last. next_other j (apart j m) last)
      next_last
      prev_new
      next_new)
    where
      last_there : (x : ℕ) (xs : List ℕ) (p s t : Option ℕ) → IsRun w p s (x ∷ xs) t → (j : ℕ) × (t ≡ Some j)
      last_there x [] p s t r = (x, r.2.1)
      last_there x (y ∷ ys) p s t r = last_there y ys (Some x) (next_of w x) t r.2

      first_stays : (x : ℕ) (xs : List ℕ) → IsRun w None (head_of w l) (x ∷ xs) (tail_of w l) → head_of (pushed w l i) l ≡ head_of w l
      first_stays x xs r =
          let t = last_there x xs None (head_of w l) (tail_of w l) r in
          ap (λ hs. get_or hs l None) (set_unless_some w.head (tail_of w l) l (Some i) t.0 t.1)

  apart : (xs : List ℕ) → xs ≡ listed w l → (j : ℕ) → Contains xs j → j ≢ i
  apart xs is j c = owned_differs j l ((h.owners j l).1 (subst (λ ys. Contains ys j) is c))

  list : (xs : List ℕ) → xs ≡ listed w l → IsList w l xs → IsList (pushed w l i) l (xs ++ i ∷ [])
  list xs is g = record {
    linked = subst (λ t. IsRun (pushed w l i) None (head_of (pushed w l i) l) (xs ++ i ∷ []) t)
        (sym (get_or-set_same w.tail l (Some i) None (omega (arith, lin, h.tail)))) (run_of xs is g);
    counted = get_or-set_same w.count l (count_of w l + 1) 0 (omega (arith, lin, h.count)) ∙ ap (λ n. n + 1) g.counted ∙ sym (length_push xs i);
    different = all_pairs_push (λ a b. a ≢ b) xs i g.different (λ k d lt. apart xs is (get_or xs k d) (Contains-get_or xs k d lt));
  }

  owned : (j : ℕ) → (owner_of (pushed w l i) j ≡ Some l) ↔ Contains (listed w l ++ i ∷ []) j
  owned j = (
    λ o. elim (cases_eq j i) [
      | inl e ↦ subst (λ k. Contains (listed w l ++ i ∷ []) k) (sym e) (Contains-push (listed w l) i)
      | inr other ↦ Contains-append_left (listed w l) (i ∷ []) j ((h.owners j l).0 (sym (owner_other j other) ∙ o))
    ],
    λ c. elim (Contains-push_cases (listed w l) i j c) [
      | inl m ↦ (let o : owner_of w j ≡ Some l = (h.owners j l).1 m in owner_other j (owned_differs j l o) ∙ o)
      | inr e ↦ subst (λ k. owner_of (pushed w l i) k ≡ Some l) e owner_new
    ],
  )

  owned_others : (j m : ℕ) → m ≢ l → (owner_of (pushed w l i) j ≡ Some m) ↔ (owner_of w j ≡ Some m)
  owned_others j m differ = (
    λ o. elim (cases_eq j i) [
      | inl e ↦ absurd (differ (let q : Some m ≡ Some l = sym o ∙ ap (λ k. owner_of (pushed w l i) k) e ∙ owner_new in let n : m ≡ l = cc q in n))
      | inr other ↦ sym (owner_other j other) ∙ o
    ],
    λ o. owner_other j (owned_differs j m o) ∙ o,
  )

  others : (m : ℕ) → m ≢ l → m < list_count w → IsList (pushed w l i) m (listed w m)
  others m differ lt =
      let apart : (j : ℕ) → IsIn j (listed w m) → j ≢ i = λ j n. owned_differs j m (owner_from_in w m j h n) in
      list_frame w (pushed w l i) m (listed w m) (h.lists m lt)
      (set_unless_other w.head (tail_of w l) l (Some i) None m differ)
      (get_or-set_other w.tail l m (Some i) None differ)
      (get_or-set_other w.count l m (count_of w l + 1) 0 differ)
      (λ j n. prev_other j (apart j n))
      (λ j n. next_other j (apart j n) (λ e. differ (let a = owner_from_in w m j h n in let b = tail_owner w l j h e in let q : m ≡ l = cc (a, b) in q)))

  changed : IsChanged w (pushed w l i) l (listed w l ++ i ∷ [])
  changed = record {
    prev = entry_count-pushed w l i;
    next = length-set_at (set w.next i None) (tail_of w l) (Some i) ∙ length-set w.next i None;
    owner = length-set w.owner i (Some l);
    head = list_count-pushed w l i;
    tail = length-set w.tail l (Some i);
    count = length-set w.count l (count_of w l + 1);
    list = list (listed w l) refl (h.lists l lin);
    owned = owned;
    others = others;
    owned_others = owned_others;
  }

  -- the words are those of lists
  pub pushed_formed : IsWellFormed (pushed w l i)
  pushed_formed = changed_formed w (pushed w l i) l (listed w l ++ i ∷ []) h changed

  -- the entry stands behind the others
  pub pushed_listed : listed (pushed w l i) l ≡ listed w l ++ i ∷ []
  pushed_listed = changed_listed w (pushed w l i) l (listed w l ++ i ∷ []) h changed

  -- the other lists stay
  pub pushed_others : (m : ℕ) → m ≢ l → listed (pushed w l i) m ≡ listed w m
  pushed_others = changed_others w (pushed w l i) l (listed w l ++ i ∷ []) h changed

  -- there are more entries than the list has
  pub room_for_one : count_of w l < entry_count w
  room_for_one =
      let few = count_small (pushed w l i) l pushed_formed in
      let more : length (listed (pushed w l i) l) ≡ length (listed w l) + 1 = ap length pushed_listed ∙ length_push (listed w l) i in
      let same = entry_count-pushed w l i in
      let now = (h.lists l lin).counted in
      omega (arith, few, more, same, now)
