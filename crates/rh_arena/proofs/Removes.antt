-- An entry of a list, taken out of it.
use Rattle.std.proofs.Common.{◌≡◌, ◌≢◌, ◌<◌, ◌+◌, ◌-◌, ◌↔◌, ℕ, suc, List, [], ◌∷◌, ◌++◌, length, Option, Some, None, get_or}
use Rattle.std.proofs.Common.{refl, sym, ap, subst, ◌∙◌, inl, inr, not, eqb, arith}
use Rattle.std.specs.List.{Contains}
use Rattle.std.proofs.lemmas.List.{length-set, get_or-set_same, get_or-set_other, length-append}
use Rattle.std.proofs.lemmas.List.Kept.{AllPairs-filter}
use Rattle.rh_arena.specs.Words.{Words, list_count, prev_of, next_of, owner_of, head_of, tail_of, count_of}
use Rattle.rh_arena.specs.Lists.{listed, without}
use Rattle.rh_arena.specs.Linking.{removed}
use Rattle.rh_arena.specs.WellFormed.{IsRun, IsList, IsWellFormed}
use Rattle.rh_arena.proofs.Without.{in_without, without_in, without_cut}
use Rattle.rh_arena.proofs.Members.{IsIn, AreDifferent, cut_at, in_front, in_behind, in_from_contains, contains_from_in, different_from_pairs}
use Rattle.rh_arena.proofs.Runs.{run_frame, list_frame, run_start_in}
use Rattle.rh_arena.proofs.Reading.{in_from_owner, owner_from_in, owner_inside, entry_inside, next_owner, prev_owner, next_inside, prev_inside}
use Rattle.rh_arena.proofs.Changed.{IsChanged, changed_listed, changed_others, changed_formed}
use Rattle.rh_arena.proofs.Linking.{length-set_at, set_at_other, set_at_same, length-set_unless, set_unless_other, set_unless_some, set_unless_none}
use Rattle.rh_arena.proofs.Linking.{entry_count-removed, list_count-removed}

-- ---- a run without one of its entries
-- the entry before i, where there is one, is one of those before it
run_before : (w : Words) (p s : Option ℕ) (y : ℕ) (ys zs : List ℕ) (i : ℕ) (t : Option ℕ) → IsRun w p s (y ∷ ys ++ i ∷ zs) t
    → (b : ℕ) × (prev_of w i ≡ Some b) × IsIn b (y ∷ ys)
run_before w p s y [] zs i t r = (y, r.2.1, inl refl)
run_before w p s y (x ∷ ys) zs i t r = let k = run_before w (Some y) (next_of w y) x ys zs i t r.2 in (k.0, k.1, inr k.2)

-- and the one behind it is one of those behind it
run_behind : (w : Words) (p s : Option ℕ) (ys zs : List ℕ) (i : ℕ) (t : Option ℕ) (j : ℕ) → IsRun w p s (ys ++ i ∷ zs) t → next_of w i ≡ Some j → IsIn j zs
run_behind w p s [] zs i t j r e = run_start_in w (Some i) (next_of w i) zs t j r.2 e
run_behind w p s (y ∷ ys) zs i t j r e = run_behind w (Some y) (next_of w y) ys zs i t j r.2 e

-- where the run starts afterwards
abbrev StartIs : List ℕ → Option ℕ → Option ℕ → Option ℕ → Type 0
StartIs [] s n start = start ≡ n
StartIs (y ∷ ys) s n start = start ≡ s

module _ (w v : Words) (i : ℕ) (zs : List ℕ) (t last : Option ℕ)
    (prev_other : (j : ℕ) → next_of w i ≢ Some j → prev_of v j ≡ prev_of w j)
    (prev_next : (j : ℕ) → next_of w i ≡ Some j → prev_of v j ≡ prev_of w i)
    (next_other : (j : ℕ) → prev_of w i ≢ Some j → next_of v j ≡ next_of w j)
    (next_prev : (j : ℕ) → prev_of w i ≡ Some j → next_of v j ≡ next_of w i)
    (last_end : next_of w i ≡ None → last ≡ prev_of w i)
    (last_kept : (j : ℕ) → next_of w i ≡ Some j → last ≡ t) where
  run_remove : (ys : List ℕ) (p s start : Option ℕ) → IsRun w p s (ys ++ i ∷ zs) t → AreDifferent (ys ++ i ∷ zs)
      → ((j : ℕ) → p ≡ Some j → ¬ (IsIn j (ys ++ i ∷ zs))) → StartIs ys s (next_of w i) start → IsRun v p start (ys ++ zs) last
  run_remove [] p s start r d apart at = behind zs r.2 d apart
    where
      behind : (zs : List ℕ) → IsRun w (Some i) (next_of w i) zs t → AreDifferent (i ∷ zs) → ((j : ℕ) → p ≡ Some j → ¬ (IsIn j (i ∷ zs)))
          → IsRun v p start zs last
      behind [] q d apart = (at ∙ q.0, last_end q.0 ∙ r.1)
      behind (z ∷ zs) q d apart = (
        at ∙ q.0,
        prev_next z q.0 ∙ r.1,
        subst (λ u. IsRun v (Some z) u zs last) (sym (next_other z (λ e. apart z (sym r.1 ∙ e) (inr (inl refl)))))
            (subst (λ u. IsRun v (Some z) (next_of w z) zs u) (sym (last_kept z q.0))
            (run_frame w v (Some z) (next_of w z) zs t q.2
            (λ j m. prev_other j (λ e. d.1.0 (subst (λ k. IsIn k zs) (let w : j ≡ z = cc (e, q.0) in w) m)))
            (λ j m. next_other j (λ e. apart j (sym r.1 ∙ e) (inr (inr m)))))),
      )
  run_remove (y ∷ []) p s start r d apart at = (
    at ∙ r.0,
    prev_other y (λ e. d.0 (inr (run_behind w (Some y) (next_of w y) [] zs i t y r.2 e))) ∙ r.1,
    run_remove [] (Some y) (next_of w y) (next_of v y) r.2 d.1
        (λ j e m. d.0 (subst (λ k. IsIn k (i ∷ zs)) (let q : j ≡ y = cc e in q) m)) (next_prev y r.2.1),
  )
  run_remove (y ∷ x ∷ ys) p s start r d apart at = (
    at ∙ r.0,
    prev_other y (λ e. d.0 (in_behind y i (x ∷ ys) zs (run_behind w (Some y) (next_of w y) (x ∷ ys) zs i t y r.2 e))) ∙ r.1,
    run_remove (x ∷ ys) (Some y) (next_of w y) (next_of v y) r.2 d.1
        (λ j e m. d.0 (subst (λ k. IsIn k (x ∷ ys ++ i ∷ zs)) (let q : j ≡ y = cc e in q) m))
        (next_other y (λ e. let b : (b : ℕ) × (prev_of w i ≡ Some b) × IsIn b (x ∷ ys) = run_before w (Some y) (next_of w y) x ys zs i t r.2 in
        d.0 (in_front y i (x ∷ ys) zs (subst (λ k. IsIn k (x ∷ ys)) (let q : b.0 ≡ y = cc (b.1, e) in q) b.2)))),
  )

-- ---- the words without the entry
module _ (w : Words) (l i : ℕ) (h : IsWellFormed w) (o : owner_of w i ≡ Some l) where
  lin : l < list_count w
  lin = owner_inside w l i h o

  prev_other : (j : ℕ) → next_of w i ≢ Some j → prev_of (removed w l i) j ≡ prev_of w j
  prev_other j other = set_at_other w.prev (next_of w i) (prev_of w i) None j other

  prev_next : (j : ℕ) → next_of w i ≡ Some j → prev_of (removed w l i) j ≡ prev_of w i
  prev_next j e = set_at_same w.prev (next_of w i) (prev_of w i) None j e (next_inside w l i j h o e)

  next_other : (j : ℕ) → prev_of w i ≢ Some j → next_of (removed w l i) j ≡ next_of w j
  next_other j other = set_at_other w.next (prev_of w i) (next_of w i) None j other

  next_prev : (j : ℕ) → prev_of w i ≡ Some j → next_of (removed w l i) j ≡ next_of w i
  next_prev j e =
      let inside = prev_inside w l i j h o e in
      set_at_same w.next (prev_of w i) (next_of w i) None j e (omega (arith, inside, h.next))

  last_end : next_of w i ≡ None → tail_of (removed w l i) l ≡ prev_of w i
  last_end e = set_unless_none w.tail (next_of w i) l (prev_of w i) None e (omega (arith, lin, h.tail))

  last_kept : (j : ℕ) → next_of w i ≡ Some j → tail_of (removed w l i) l ≡ tail_of w l
  last_kept j e = ap (λ ts. get_or ts l None) (set_unless_some w.tail (next_of w i) l (prev_of w i) j e)

  owner_gone : owner_of (removed w l i) i ≡ None
  owner_gone = get_or-set_same w.owner i None None (let inside = entry_inside w l i h o in omega (arith, inside, h.owner))

  owner_other : (j : ℕ) → j ≢ i → owner_of (removed w l i) j ≡ owner_of w j
  owner_other j other = get_or-set_other w.owner i j None None other

  -- an entry that has a list now is another one
  owned_differs : (j m : ℕ) → owner_of (removed w l i) j ≡ Some m → j ≢ i
  owned_differs j m k e = let q : None ≡ Some m = sym owner_gone ∙ ap (λ n. owner_of (removed w l i) n) (sym e) ∙ k in cc

  starts : (ys zs : List ℕ) → IsRun w None (head_of w l) (ys ++ i ∷ zs) (tail_of w l) → StartIs ys (head_of w l) (next_of w i) (head_of (removed w l i) l)
  starts [] zs r = set_unless_none w.head (prev_of w i) l (next_of w i) None r.1 lin
  starts (y ∷ ys) zs r =
      let b = run_before w None (head_of w l) y ys zs i (tail_of w l) r in
      ap (λ hs. get_or hs l None) (set_unless_some w.head (prev_of w i) l (next_of w i) b.0 b.1)

  cut_list : (ys zs : List ℕ) → IsList w l (ys ++ i ∷ zs) → IsList (removed w l i) l (without i (ys ++ i ∷ zs))
  cut_list ys zs g =
      let different : AreDifferent (ys ++ i ∷ zs) = different_from_pairs (ys ++ i ∷ zs) g.different in
      let is : without i (ys ++ i ∷ zs) ≡ ys ++ zs = without_cut i ys zs different in
      let before : length (ys ++ i ∷ zs) ≡ length ys + suc (length zs) = length-append ys (i ∷ zs) in
      let after : length (without i (ys ++ i ∷ zs)) ≡ length ys + length zs = ap length is ∙ length-append ys zs in
      let now : count_of (removed w l i) l ≡ count_of w l - 1 = get_or-set_same w.count l (count_of w l - 1) 0 (omega (arith, lin, h.count)) in
      record {
        linked = subst (λ xs. IsRun (removed w l i) None (head_of (removed w l i) l) xs (tail_of (removed w l i) l)) (sym is)
            (run_remove w (removed w l i) i zs (tail_of w l) (tail_of (removed w l i) l) prev_other prev_next next_other next_prev last_end last_kept
            ys None (head_of w l) (head_of (removed w l i) l) g.linked different (λ j e. absurd (cc e)) (starts ys zs g.linked));
        counted = let old = g.counted in omega (arith, now, before, after, old);
        different = AllPairs-filter (λ a b. a ≢ b) (λ x. not (eqb x i)) (ys ++ i ∷ zs) g.different;
      }

  list : IsList (removed w l i) l (without i (listed w l))
  list =
      let c = cut_at i (listed w l) (in_from_owner w l i h o) in
      subst (λ xs. IsList (removed w l i) l (without i xs)) (sym c.is) (cut_list c.front c.back (subst (λ xs. IsList w l xs) c.is (h.lists l lin)))

  owned : (j : ℕ) → (owner_of (removed w l i) j ≡ Some l) ↔ Contains (without i (listed w l)) j
  owned j = (
    λ k. let other = owned_differs j l k in
        contains_from_in j (without i (listed w l)) (in_without i j (listed w l) (in_from_owner w l j h (sym (owner_other j other) ∙ k)) other),
    λ c. let m = without_in i j (listed w l) (in_from_contains j (without i (listed w l)) c) in owner_other j m.1 ∙ owner_from_in w l j h m.0,
  )

  owned_others : (j m : ℕ) → m ≢ l → (owner_of (removed w l i) j ≡ Some m) ↔ (owner_of w j ≡ Some m)
  owned_others j m differ = (
    λ k. sym (owner_other j (owned_differs j m k)) ∙ k,
    λ k. owner_other j (λ e. differ (let q : Some m ≡ Some l = sym k ∙ ap (λ n. owner_of w n) e ∙ o in let n : m ≡ l = cc q in n)) ∙ k,
  )

  others : (m : ℕ) → m ≢ l → m < list_count w → IsList (removed w l i) m (listed w m)
  others m differ lt =
      let apart : (j : ℕ) → IsIn j (listed w m) → owner_of w j ≢ Some l =
      λ j n e. differ (let a = owner_from_in w m j h n in let q : m ≡ l = cc (a, e) in q) in
      list_frame w (removed w l i) m (listed w m) (h.lists m lt)
      (set_unless_other w.head (prev_of w i) l (next_of w i) None m differ)
      (set_unless_other w.tail (next_of w i) l (prev_of w i) None m differ)
      (get_or-set_other w.count l m (count_of w l - 1) 0 differ)
      (λ j n. prev_other j (λ e. apart j n (next_owner w l i j h o e)))
      (λ j n. next_other j (λ e. apart j n (prev_owner w l i j h o e)))

  changed : IsChanged w (removed w l i) l (without i (listed w l))
  changed = record {
    prev = entry_count-removed w l i;
    next = length-set_at w.next (prev_of w i) (next_of w i);
    owner = length-set w.owner i None;
    head = list_count-removed w l i;
    tail = length-set_unless w.tail (next_of w i) l (prev_of w i);
    count = length-set w.count l (count_of w l - 1);
    list = list;
    owned = owned;
    others = others;
    owned_others = owned_others;
  }

  -- the words are those of lists
  pub removed_formed : IsWellFormed (removed w l i)
  removed_formed = changed_formed w (removed w l i) l (without i (listed w l)) h changed

  -- the others of its list stay, in their order
  pub removed_listed : listed (removed w l i) l ≡ without i (listed w l)
  removed_listed = changed_listed w (removed w l i) l (without i (listed w l)) h changed

  -- the other lists stay
  pub removed_others : (m : ℕ) → m ≢ l → listed (removed w l i) m ≡ listed w m
  removed_others = changed_others w (removed w l i) l (without i (listed w l)) h changed
