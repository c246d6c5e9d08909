-- Two answers to one search tell the same lists and the same of each ask.
use Rattle.std.proofs.Common.{◌≡◌, ◌≤◌, ◌<◌, ◌⊎◌, inl, inr, ℕ, suc, true, nat_lt, List, length, map, take, sym, ap, ◌∙◌, arith}
use Rattle.std.specs.List.{list_all}
use Rattle.std.proofs.lemmas.Bool.{false≢true}
use Rattle.std.proofs.lemmas.Bool.Decides.{nat_tests}
use Rattle.rh_base.proofs.Lists.{cases}
use Rattle.rh_explore.specs.declared.bounds.Covered.{Covered}
use Rattle.rh_explore.specs.declared.bounds.Covered.TheVariants as covered
use Rattle.rh_explore_text.specs.Asks.{AskView}
use Rattle.rh_otp_sim.specs.Sim.{LiveSimView}
use Rattle.rh_otp_explore.specs.Listing.{Scope, Behind, below, up_to}
use Rattle.rh_otp_explore.specs.Searching.{LiveExploredView, IsLiveAnswer, IsCovered, IsEnough, CoversAll, at_base, asked_of}
use Rattle.rh_otp_explore.specs.Tallying.{has_failed}
use Rattle.rh_otp_explore.proofs.Lists.{same_below}
use Rattle.rh_otp_explore_laws.specs.Searches.{AnswersAreOne}

module _ (w : Scope) (base : LiveSimView) (steps states : ℕ) (asks : List AskView) where
  abbrev all : List Behind
  all = up_to w steps (at_base base)

  -- where all lists within the bound were tried, there are no more
  all_tried : (v : Covered) (lists : ℕ) → IsCovered w steps (at_base base) lists v → CoversAll steps v → length all ≤ lists
  all_tried (covered.UpTo n) lists (within, enough, most) full =
      let same : n ≡ steps = omega (arith, within, full) in
      let long : length (up_to w n (at_base base)) ≡ length all = ap (λ (k : ℕ). length (up_to w k (at_base base))) same in
      omega (arith, enough, long)
  all_tried covered.All lists (n, within, none, enough) full =
      let whole : length all ≡ length (below w n (at_base base)) =
      ap (λ (bs : List Behind). length bs) (same_below w n (suc steps) (at_base base) (omega (arith, within)) none) in
      let part : length (up_to w n (at_base base)) ≡ length (below w n (at_base base)) =
      ap (λ (bs : List Behind). length bs) (same_below w n (suc n) (at_base base) (omega arith) none) in
      omega (arith, enough, whole, part)

  module _ (x y : LiveExploredView) (one : IsLiveAnswer w base steps states asks x) (other : IsLiveAnswer w base steps states asks y)
      (fewer : x.lists < y.lists) where
    full_ends : states ≤ x.lists → ⊥
    full_ends full = by other.few
      where
        by : (y.lists ≤ states) ⊎ (y.lists ≡ 1) → ⊥
        by (inl few) = absurd (omega (arith, few, full, fewer))
        by (inr alone) = absurd (omega (arith, alone, fewer, one.some))

    failed_ends : list_all has_failed x.asked ≡ true → ⊥
    failed_ends failed =
        absurd (false≢true (sym (other.prompt x.lists one.some fewer) ∙ ap (list_all has_failed) (sym one.asked) ∙ failed))

    enough_ends : IsEnough states x → ⊥
    enough_ends (inl full) = full_ends full
    enough_ends (inr failed) = failed_ends failed

    pub no_fewer : ⊥
    no_fewer =
        let tried : length all ≤ x.lists = all_tried x.covered x.lists one.covered (one.whole enough_ends) in
        absurd (omega (arith, tried, other.there, fewer))

pub are_one : AnswersAreOne
are_one w base steps states asks x y one other =
    let same : x.lists ≡ y.lists =
    cases (nat_lt x.lists y.lists) (λ less. absurd (no_fewer w base steps states asks x y one other (grind (arith, nat_tests, less))))
    (λ no_less. cases (nat_lt y.lists x.lists) (λ less. absurd (no_fewer w base steps states asks y x other one (grind (arith, nat_tests, less))))
    (λ no_more. grind (arith, nat_tests, no_less, no_more))) in (
      same,
      one.asked ∙ ap (λ (k : ℕ). map (asked_of (take k (up_to w steps (at_base base)))) asks) same ∙ sym other.asked,
    )
