-- What is known behind all lists is what a search answers.
use Rattle.std.proofs.Common.{◌≡◌, ◌≤◌, ◌<◌, ◌++◌, ◌⊎◌, inl, inr, ℕ, suc, Bool, true, false, ◌&&◌, ◌||◌, nat_lt, nat_le, List, [], ◌∷◌, length, refl, sym, ap, ◌∙◌, subst, arith}
use Rattle.std.specs.List.{list_all}
use Rattle.std.proofs.lemmas.Bool.Decides.{nat_tests}
use Rattle.rh_base.proofs.Lists.{cases}
use Rattle.rh_explore.specs.declared.bounds.Covered.{Covered}
use Rattle.rh_explore_text.specs.Asks.{AskView}
use Rattle.rh_otp_sim.specs.Sim.{LiveSimView}
use Rattle.rh_otp_explore.specs.Listing.{Scope, Behind, below, up_to}
use Rattle.rh_otp_explore.specs.Searching.{LiveExploredView, IsEnough, IsLiveAnswer, at_base}
use Rattle.rh_otp_explore.specs.Tallying.{TallyView, has_failed, is_over, all_tallied, nothing_tried}
use Rattle.rh_otp_explore.specs.Working.{AreTried}
use Rattle.rh_otp_explore.proofs.Lists.{first_below}
use Rattle.rh_otp_explore.proofs.Tallies.{AreFirst, are_first, some_tried}

-- it is over where that was enough
enough_if_over : (lists states : ℕ) (failed : Bool) → (nat_lt 0 lists && (nat_le states lists || failed)) ≡ true → (states ≤ lists) ⊎ (failed ≡ true)
enough_if_over lists states failed over =
    cases (nat_le states lists) (λ full. inl (grind (arith, nat_tests)))
    (λ free. cases failed inr
    (λ held. cases (nat_lt 0 lists)
    (λ some. absurd (cc ((λ i. (sym some) i && ((sym free) i || (sym held) i)) ∙ over)))
    (λ none. absurd (cc ((λ i. (sym none) i && (nat_le states lists || failed)) ∙ over)))))

one_at_most : (lists states : ℕ) → 0 < lists → (lists ≤ states) ⊎ (lists ≤ 1) → (lists ≤ states) ⊎ (lists ≡ 1)
one_at_most lists states some (inl few) = inl few
one_at_most lists states some (inr one) = inr (omega (arith, some, one))

module _ (w : Scope) (base : LiveSimView) (steps states : ℕ) (asks : List AskView) (new : TallyView) (told : Covered)
    (are : AreTried w steps states (at_base base) (nothing_tried asks) new told) where
  abbrev all : List Behind
  all = up_to w steps (at_base base)

  some : 0 < new.lists
  some =
      let more = first_below w 1 (suc steps) (at_base base) (omega arith) in
      subst (λ (t : TallyView). 0 < t.lists) (sym are.tally)
      (subst (λ (bs : List Behind). 0 < (all_tallied states (nothing_tried asks) bs).lists) (sym more.1)
      (some_tried states asks (at_base base) more.0))

  firsts : AreFirst states asks all new
  firsts = subst (AreFirst states asks all) (sym are.tally) (are_first states asks all)

  pub is_answer : IsLiveAnswer w base steps states asks (record { lists = new.lists; covered = told; asked = new.asked })
  is_answer = record {
    some = some;
    few = one_at_most new.lists states some firsts.few;
    there = firsts.there;
    asked = firsts.known;
    prompt = firsts.prompt;
    covered = are.lengths;
    whole = λ not_enough. are.whole (λ over. not_enough (enough_if_over new.lists states (list_all has_failed new.asked) over));
  }
