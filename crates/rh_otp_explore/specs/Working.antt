-- What is said within a search, where all lists of at most so many events are tried (ours).
use Rattle.std.specs.Prelude.{◌≡◌, ℕ, true}
use Rattle.rh_explore.specs.declared.bounds.Covered.{Covered}
use Rattle.rh_otp_explore.specs.Listing.{Scope, Behind, up_to}
use Rattle.rh_otp_explore.specs.Searching.{IsCovered, CoversAll}
use Rattle.rh_otp_explore.specs.Tallying.{TallyView, is_over, all_tallied}

-- they were tried behind what was known, in their order, and all of the told lengths were
pub record AreTried (w : Scope) (steps states : ℕ) (b : Behind) (old new : TallyView) (covered : Covered) : Type 0 where
  pub tally : new ≡ all_tallied states old (up_to w steps b)
  pub lengths : IsCovered w steps b new.lists covered
  pub whole : (is_over states new ≡ true → ⊥) → CoversAll steps covered
