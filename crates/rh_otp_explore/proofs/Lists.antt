-- Lists that are tried one after the other.
use Rattle.std.proofs.Common.{◌≡◌, ◌≤◌, ◌+◌, ◌++◌, ℕ, zero, suc, add-one, List, [], ◌∷◌, Option, Some, None, length, take, get_or, refl, sym, ap, ◌∙◌, subst, arith, append_assoc, append-nil}
use Rattle.std.specs.List.{flat_map, filter_map, cons_option}
use Rattle.std.specs.Prelude.{All, ◌-◌, ◌<◌}
use Rattle.std.proofs.lemmas.List.{take_more, take_all, take-append-le, length_push}
use Rattle.std.proofs.lemmas.List.Concat.{flat_map-append}
use Rattle.std.proofs.lemmas.List.Elements.{filter_map-append}
use Rattle.rh_base.proofs.Elements.{none_left, none_right}
use Rattle.rh_rules.specs.declared.event.Event.{Event}
use Rattle.rh_explore.specs.declared.moves.Move.{Move}
use Rattle.rh_otp_explore.specs.Listing.{Scope, Behind, next, nexts, level, below}

-- a list without its last event
pub popped : (xs ys : List Event) (e : Event) → ys ≡ xs ++ e ∷ [] → take (length ys - 1) ys ≡ xs
popped xs ys e is =
    let long : length ys ≡ length xs + 1 = ap (λ (es : List Event). length es) is ∙ length_push xs e in
    let one : length ys - 1 ≡ length xs = omega (arith, long) in
    (λ i. take (one i) (is i)) ∙ take-append-le (length xs) xs (e ∷ []) (omega arith) ∙ take_all (length xs) xs (omega arith)

module _ (w : Scope) where
  -- ---- longer by one event more
  pub level_more : (left : ℕ) (b : Behind) → 1 ≤ left → level w left b ≡ flat_map (level w (left - 1)) (nexts w b)
  level_more zero b some = absurd (omega (arith, some))
  level_more (suc n) b some = ap (λ (k : ℕ). flat_map (level w k) (nexts w b)) (omega arith)

  -- one move more
  module _ (n : ℕ) (b : Behind) (moves : List Move) (i : ℕ) (d : Move) (at : i < length moves) where
    moves_on : filter_map (next w b) (take (i + 1) moves) ≡ filter_map (next w b) (take i moves) ++ filter_map (next w b) (get_or moves i d ∷ [])
    moves_on =
        ap (filter_map (next w b)) (take_more moves i d at)
        ∙ filter_map-append (next w b) (take i moves) (get_or moves i d ∷ [])

    lists_on : flat_map (level w n) (filter_map (next w b) (take (i + 1) moves))
        ≡ flat_map (level w n) (filter_map (next w b) (take i moves)) ++ flat_map (level w n) (cons_option (next w b (get_or moves i d)) [])
    lists_on =
        ap (flat_map (level w n)) moves_on
        ∙ flat_map-append (level w n) (filter_map (next w b) (take i moves)) (filter_map (next w b) (get_or moves i d ∷ []))

    -- it is none there that may come
    pub goes_past : next w b (get_or moves i d) ≡ None
        → flat_map (level w n) (filter_map (next w b) (take (i + 1) moves)) ≡ flat_map (level w n) (filter_map (next w b) (take i moves))
    goes_past none =
        let so_far = flat_map (level w n) (filter_map (next w b) (take i moves)) in
        lists_on ∙ ap (λ (o : Option Behind). so_far ++ flat_map (level w n) (cons_option o [])) none ∙ append-nil so_far

    -- or it leads to another list
    pub goes_on : (c : Behind) → next w b (get_or moves i d) ≡ Some c
        → flat_map (level w n) (filter_map (next w b) (take (i + 1) moves)) ≡ flat_map (level w n) (filter_map (next w b) (take i moves)) ++ level w n c
    goes_on c is =
        let so_far = flat_map (level w n) (filter_map (next w b) (take i moves)) in
        lists_on
        ∙ ap (λ (o : Option Behind). so_far ++ flat_map (level w n) (cons_option o [])) is
        ∙ ap (λ (bs : List Behind). so_far ++ bs) (append-nil (level w n c))

  -- ---- where none has so many events, none has more
  none_longer : (n : ℕ) → ((b : Behind) → level w n b ≡ [] → level w (suc n) b ≡ []) → (bs : List Behind)
      → flat_map (level w n) bs ≡ [] → flat_map (level w (suc n)) bs ≡ []
  none_longer n on [] none = refl
  none_longer n on (b ∷ bs) none =
      let here = on b (none_left (level w n b) (flat_map (level w n) bs) none) in
      let there = none_longer n on bs (none_right (level w n b) (flat_map (level w n) bs) none) in
      λ i. here i ++ there i

  pub none_more : (n : ℕ) (b : Behind) → level w n b ≡ [] → level w (suc n) b ≡ []
  none_more zero b none = absurd (omega (arith, ap (λ (bs : List Behind). length bs) none))
  none_more (suc n) b none = none_longer n (none_more n) (nexts w b) none

  -- nor has any that is longer still
  none_behind : (n : ℕ) (b : Behind) (more m : ℕ) → m ≡ more + n → level w n b ≡ [] → level w m b ≡ []
  none_behind n b zero m is none = let same : m ≡ n = omega (arith, is) in ap (λ (k : ℕ). level w k b) same ∙ none
  none_behind n b (suc more) m is none =
      let one : m ≡ suc (more + n) = omega (arith, is) in
      ap (λ (k : ℕ). level w k b) one ∙ none_more (more + n) b (none_behind n b more (more + n) refl none)

  same_after : (n : ℕ) (b : Behind) (more m : ℕ) → m ≡ more + n → level w n b ≡ [] → below w m b ≡ below w n b
  same_after n b zero m is none = let same : m ≡ n = omega (arith, is) in ap (λ (k : ℕ). below w k b) same
  same_after n b (suc more) m is none =
      let one : m ≡ suc (more + n) = omega (arith, is) in
      ap (λ (k : ℕ). below w k b) one
      ∙ (λ i. same_after n b more (more + n) refl none i ++ none_behind n b more (more + n) refl none i)
      ∙ append-nil (below w n b)

  pub same_below : (n m : ℕ) (b : Behind) → n ≤ m → level w n b ≡ [] → below w m b ≡ below w n b
  same_below n m b few none = same_after n b (m - n) m (omega (arith, few)) none

  -- ---- fewer events come first
  below_after : (n : ℕ) (b : Behind) (more m : ℕ) → m ≡ more + n → (rest : List Behind) × (below w m b ≡ below w n b ++ rest)
  below_after n b zero m is =
      let same : m ≡ n = omega (arith, is) in
      ([], ap (λ (k : ℕ). below w k b) same ∙ sym (append-nil (below w n b)))
  below_after n b (suc more) m is =
      let one : m ≡ suc (more + n) = omega (arith, is) in
      let shorter = below_after n b more (more + n) refl in (
        shorter.0 ++ level w (more + n) b,
        ap (λ (k : ℕ). below w k b) one
            ∙ ap (λ (bs : List Behind). bs ++ level w (more + n) b) shorter.1
            ∙ append_assoc (below w n b) shorter.0 (level w (more + n) b),
      )

  pub first_below : (n m : ℕ) (b : Behind) → n ≤ m → (rest : List Behind) × (below w m b ≡ below w n b ++ rest)
  first_below n m b few = below_after n b (m - n) m (omega (arith, few))
