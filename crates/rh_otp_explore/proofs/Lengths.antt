-- All lists are tried, one length after the other.
use Rattle.std.proofs.Common.{◌≡◌, ◌≤◌, ◌<◌, ◌+◌, ◌-◌, ◌++◌, ℕ, zero, suc, Bool, true, false, ◌&&◌, ◌||◌, nat_lt, nat_le, List, [], ◌∷◌, length, refl, sym, ap, ◌∙◌, arith}
use Rattle.std.specs.List.{list_all}
use Rattle.std.proofs.lemmas.Bool.Decides.{nat_tests}
use Rattle.std.proofs.lemmas.List.{append-nil, length-append}
use Rattle.rh_base.proofs.Lists.{cases}
use Rattle.rh_explore.specs.declared.bounds.Covered.{Covered}
use Rattle.rh_explore.specs.declared.bounds.Covered.TheVariants as covered
use Rattle.rh_otp_explore.specs.Listing.{Scope, Behind, level, below, up_to}
use Rattle.rh_otp_explore.specs.Tallying.{TallyView, is_over, has_failed, all_tallied}
use Rattle.rh_otp_explore.specs.Working.{AreTried}
use Rattle.rh_otp_explore.proofs.Lists.{same_below, first_below}
use Rattle.rh_otp_explore.proofs.Tallies.{all_stay, all_on, all_tried, no_fewer, no_more}

-- it is over only where one was tried
some_if_over : (lists states : ℕ) (failed : Bool) → (nat_lt 0 lists && (nat_le states lists || failed)) ≡ true → 0 < lists
some_if_over lists states failed over =
    cases (nat_lt 0 lists) (λ some. grind (arith, nat_tests)) (λ none. absurd (cc ((λ i. (sym none) i && (nat_le states lists || failed)) ∙ over)))

-- no element stands in a list of length 0
none_of : (bs : List Behind) → length bs ≡ 0 → bs ≡ []
none_of [] none = refl
none_of (b ∷ bs) none = absurd (omega (arith, none))

module _ (w : Scope) (steps states : ℕ) (b : Behind) (first : TallyView) where
  -- the lists of fewer events were tried, and it isn't over
  pub record IsAt (n : ℕ) (t : TallyView) : Type 0 where
    pub short : n ≤ steps
    pub tally : t ≡ all_tallied states first (below w n b)
    pub all : t.lists ≡ length (below w n b)
    pub left : is_over states t ≡ false

  -- those of so many events are tried next
  module _ (n : ℕ) (t new : TallyView) (at : IsAt n t) (tried : new ≡ all_tallied states t (level w n b)) where
    with_these : new ≡ all_tallied states first (below w (suc n) b)
    with_these =
        tried ∙ ap (λ (u : TallyView). all_tallied states u (level w n b)) at.tally ∙ sym (all_on states first (below w n b) (level w n b))

    no_less : t.lists ≤ new.lists
    no_less =
        let same : new.lists ≡ (all_tallied states t (level w n b)).lists = ap (λ (u : TallyView). u.lists) tried in
        omega (arith, same, no_fewer states t (level w n b))

    counted : is_over states new ≡ false → new.lists ≡ t.lists + length (level w n b)
    counted left =
        ap (λ (u : TallyView). u.lists) tried ∙ all_tried states t (level w n b) (ap (is_over states) (sym tried) ∙ left)

    all_counted : is_over states new ≡ false → new.lists ≡ length (below w (suc n) b)
    all_counted left =
        let long : length (below w (suc n) b) ≡ length (below w n b) + length (level w n b) = length-append (below w n b) (level w n b) in
        omega (arith, counted left, at.all, long)

    shorter_tried : (m : ℕ) → n ≡ m → is_over states new ≡ true → length (up_to w (m - 1) b) ≤ new.lists
    shorter_tried zero here over =
        let one : length (up_to w (0 - 1) b) ≡ 1 = refl in
        omega (arith, one, some_if_over new.lists states (list_all has_failed new.asked) over)
    shorter_tried (suc m) here over =
        let same : suc m - 1 ≡ m = omega arith in
        let long : length (up_to w (suc m - 1) b) ≡ length (below w n b) =
        ap (λ (k : ℕ). length (below w (suc k) b)) same ∙ ap (λ (k : ℕ). length (below w k b)) (sym here) in
        omega (arith, long, at.all, no_less)

    most : new.lists ≤ length (below w (suc n) b)
    most =
        let same : new.lists ≡ (all_tallied states t (level w n b)).lists = ap (λ (u : TallyView). u.lists) tried in
        let long : length (below w (suc n) b) ≡ length (below w n b) + length (level w n b) = length-append (below w n b) (level w n b) in
        omega (arith, same, long, at.all, no_more states t (level w n b))

    no_longer : (m : ℕ) → n ≡ m → new.lists ≤ length (up_to w (suc (m - 1)) b)
    no_longer zero here =
        let less : 0 - 1 ≡ 0 = refl in
        let one : length (below w (suc n) b) ≡ length (up_to w 0 b) = ap (λ (k : ℕ). length (below w (suc k) b)) here in
        let two : length (up_to w (suc (0 - 1)) b) ≡ length (up_to w (suc 0) b) = ap (λ (k : ℕ). length (up_to w (suc k) b)) less in
        let more : length (up_to w (suc 0) b) ≡ length (up_to w 0 b) + length (level w (suc 0) b) =
        length-append (up_to w 0 b) (level w (suc 0) b) in
        omega (arith, most, one, two, more)
    no_longer (suc m) here =
        let same : suc (suc m - 1) ≡ n = omega (arith, here) in
        let long : length (up_to w (suc (suc m - 1)) b) ≡ length (below w (suc n) b) = ap (λ (k : ℕ). length (below w (suc k) b)) same in
        omega (arith, most, long)

    pub ends_over : is_over states new ≡ true → AreTried w steps states b first new (covered.UpTo (n - 1))
    ends_over over =
        let more = first_below w (suc n) (suc steps) b (omega (arith, at.short)) in
        record {
          tally =
              sym (all_stay states new more.0 over)
              ∙ ap (λ (u : TallyView). all_tallied states u more.0) with_these
              ∙ sym (all_on states first (below w (suc n) b) more.0)
              ∙ ap (all_tallied states first) (sym more.1);
          lengths = (omega (arith, at.short), shorter_tried n refl over, no_longer n refl);
          whole = λ not_over. absurd (not_over over);
        }

    none_left : is_over states new ≡ false → new.lists ≡ t.lists → level w n b ≡ []
    none_left left same = none_of (level w n b) (omega (arith, counted left, same))

    pub ends_none : is_over states new ≡ false → new.lists ≡ t.lists → AreTried w steps states b first new covered.All
    ends_none left same =
        let none = none_left left same in
        let here : below w (suc n) b ≡ below w n b = ap (λ (bs : List Behind). below w n b ++ bs) none ∙ append-nil (below w n b) in
        record {
          tally =
              with_these
              ∙ ap (all_tallied states first) (here ∙ sym (same_below w n (suc steps) b (omega (arith, at.short)) none));
          lengths = (n, at.short, none, omega (arith, all_counted left));
          whole = λ not_over. tt;
        }

    pub ends_full : is_over states new ≡ false → steps ≤ n → AreTried w steps states b first new (covered.UpTo steps)
    ends_full left full =
        let last : n ≡ steps = omega (arith, full, at.short) in
        let long : length (below w (suc n) b) ≡ length (up_to w steps b) = ap (λ (k : ℕ). length (below w (suc k) b)) last in
        let more : length (up_to w (suc steps) b) ≡ length (up_to w steps b) + length (level w (suc steps) b) =
        length-append (up_to w steps b) (level w (suc steps) b) in
        record {
          tally = with_these ∙ ap (λ (k : ℕ). all_tallied states first (below w (suc k) b)) last;
          lengths = (omega arith, omega (arith, all_counted left, long), omega (arith, all_counted left, long, more));
          whole = λ not_over. omega arith;
        }

    pub goes_on : is_over states new ≡ false → n < steps → IsAt (n + 1) new
    goes_on left short =
        let one : suc n ≡ n + 1 = omega arith in
        record {
          short = omega (arith, short);
          tally = with_these ∙ ap (λ (k : ℕ). all_tallied states first (below w k b)) one;
          all = all_counted left ∙ ap (λ (k : ℕ). length (below w k b)) one;
          left = left;
        }
