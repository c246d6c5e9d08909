-- The stays of a course.
use Rattle.std.proofs.Common.{◌≡◌, ◌<◌, ◌≤◌, ◌+◌, ◌++◌, ℕ, zero, suc, Bool, List, [], ◌∷◌, length, take, filter, slice_get, Option, Some}
use Rattle.std.specs.List.{sum_by}
use Rattle.std.proofs.lemmas.List.{take_all}
use Rattle.std.proofs.lemmas.List.Sums.{sum_by_more}
use Rattle.std.proofs.lemmas.List.Elements.{filter_more}
use Rattle.std.proofs.lemmas.Option.{get_or_from_slice_get}
use Rattle.std.proofs.Common.{refl, sym, ap, ◌∙◌, arith}
use Rattle.std.specs.Option.{option_map}
use Rattle.rh_courses.specs.declared.course.Change.{Change}
use Rattle.rh_courses.specs.declared.course.Stay.{Stay}
use Rattle.rh_courses.specs.Courses.{stay, stays_of}

-- as many as there are changes
pub stays_count : (cs : List Change) → length (stays_of cs) ≡ length cs
unfolding stays_of
stays_count [] = refl
stays_count (c ∷ cs) = ap suc (stays_count cs)

-- each goes from its change up to the next one
pub stay_at : (cs : List Change) (i : ℕ) (c : Change) → slice_get cs i ≡ Some c → slice_get (stays_of cs) i ≡ Some (stay c (slice_get cs (suc i)))
unfolding stays_of
stay_at [] i c is = absurd (cc is)
stay_at (x ∷ cs) zero c is = let same : x ≡ c = cc is in ap (λ (d : Change). Some (stay d (slice_get cs 0))) same
stay_at (x ∷ cs) (suc i) c is = stay_at cs i c is

-- told of its parts
abbrev pub stayed : Change → Option ℕ → Stay
stayed c end = record { place = c.place; start = c.time; end = end }

pub stay_told : (cs : List Change) (i : ℕ) (c : Change) (end : Option ℕ) → slice_get cs i ≡ Some c → end ≡ option_map (λ (d : Change). d.time) (slice_get cs (i + 1))
    → slice_get (stays_of cs) i ≡ Some (stayed c end)
stay_told cs i c end is told =
    let one : suc i ≡ i + 1 = omega arith in
    stay_at cs i c is
    ∙ ap (λ (next : Option Change). Some (stay c next)) (ap (slice_get cs) one)
    ∙ ap (λ (e : Option ℕ). Some (stayed c e)) (sym told)

-- ---- one stay after the other

module _ (cs : List Change) (i : ℕ) where
  inside_stays : i < length cs → i < length (stays_of cs)
  inside_stays inside = let many = stays_count cs in omega (arith, inside, many)

  pub runs_next : (p : Stay → Bool) (st : Stay) → slice_get (stays_of cs) i ≡ Some st → i < length cs
      → filter p (take (i + 1) (stays_of cs)) ≡ filter p (take i (stays_of cs)) ++ filter p (st ∷ [])
  runs_next p st is inside =
      filter_more p (stays_of cs) i st (inside_stays inside)
      ∙ ap (λ (s : Stay). filter p (take i (stays_of cs)) ++ filter p (s ∷ [])) (get_or_from_slice_get (stays_of cs) i st st is)

  pub sum_next : (f : Stay → ℕ) (st : Stay) → slice_get (stays_of cs) i ≡ Some st → i < length cs
      → sum_by f (take (i + 1) (stays_of cs)) ≡ sum_by f (take i (stays_of cs)) + f st
  sum_next f st is inside =
      sum_by_more f (stays_of cs) i st (inside_stays inside)
      ∙ ap (λ (s : Stay). sum_by f (take i (stays_of cs)) + f s) (get_or_from_slice_get (stays_of cs) i st st is)

  -- behind the last change
  pub all_stays : length cs ≤ i → take i (stays_of cs) ≡ stays_of cs
  all_stays all = let many = stays_count cs in take_all i (stays_of cs) (omega (arith, all, many))
