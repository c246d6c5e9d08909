-- Moves that lead to no state that wasn't known, which an expansion doesn't tell.
use Rattle.std.proofs.Common.{◌≡◌, ◌+◌, ℕ, Bool, false, cond, List, [], ◌∷◌, length, filter, drop, slice_get, Some, sym, ap, ◌∙◌, subst, arith}
use Rattle.std.specs.List.{AllZip}
use Rattle.std.proofs.lemmas.List.{length-drop}
use Rattle.rh_base.proofs.Lists.{cases}
use Rattle.rh_explore.specs.declared.leads.Lead.{Lead}
use Rattle.rh_explore.specs.declared.leads.Lead.TheVariants as lead
use Rattle.rh_explore.specs.declared.moves.Move.{Move}
use Rattle.rh_explore.specs.declared.search.Search.{Search}
use Rattle.rh_explore.specs.declared.space.Space.{Space}
use Rattle.rh_explore.specs.Exploring.{scope_of}
use Rattle.rh_explore.specs.Families.{Knowing, LeadsSo, AreLeads, is_told}
use Rattle.rh_explore.specs.Kept.{seen_in, IsKept, IsKnown}
use Rattle.rh_explore.specs.Spaces.{Seen, IsExpandedAt}
use Rattle.rh_explore.proofs.Taken.{leads_nowhere, leads_back, all_made}
use Rattle.rh_explore.proofs.Zips.{zip_first, zip_long}

-- the first of a list, and the others
abbrev first_of : Lead → List Lead → Lead
first_of d [] = d
first_of d (l ∷ ls) = l

abbrev others_of : List Lead → List Lead
others_of [] = []
others_of (l ∷ ls) = ls

module _ (search : Search) (space : Space) (kept : IsKept (scope_of search) search.bounds search.asks.now space) (at : ℕ) (x : Seen)
    (here : slice_get (seen_in search space) at ≡ Some x) (k : Knowing) (knows : IsKnown k space) where
  abbrev R : Move → Lead → Type 0
  R m l = LeadsSo (scope_of search) search.asks.now k x.state m l

  abbrev IsMade : ℕ → Type 0
  IsMade made = IsExpandedAt (scope_of search) (seen_in search space) at made

  -- one that isn't told is made
  past : (l : Lead) (m : Move) (made : ℕ) → slice_get search.moves.now made ≡ Some m → IsMade made → is_told l ≡ false → R m l → IsMade (made + 1)
  past lead.Nowhere m made is so not leads =
      leads_nowhere (scope_of search) search.bounds search.asks.now space kept at x here k knows m made is so leads
  past lead.Known m made is so not leads =
      leads_back (scope_of search) search.bounds search.asks.now space kept at x here k knows m made is so leads
  past lead.AtLimit m made is so not leads = absurd (cc not)
  past (lead.To e marks) m made is so not leads = absurd (cc not)

  -- all moves before one are made, which leads so, and these are told of those behind it
  abbrev pub NextTold : Lead → List Lead → Type 0
  NextTold l rest = (made : ℕ) × (m : Move) × (slice_get search.moves.now made ≡ Some m) × IsMade made × R m l
      × AreLeads R (drop (made + 1) search.moves.now) rest

  pub next_told : (all : List Lead) (made : ℕ) (l : Lead) (rest : List Lead) → AllZip R (drop made search.moves.now) all → IsMade made
      → filter is_told all ≡ l ∷ rest → NextTold l rest
  next_told [] made l rest zip so is = absurd (omega (arith, ap (λ (ls : List Lead). length ls) is))
  next_told (d ∷ all) made l rest zip so is =
      let z = zip_first R search.moves.now made d all zip in
      cases (is_told d)
      (λ t.
      let same : d ∷ filter is_told all ≡ l ∷ rest = ap (λ (b : Bool). cond b (d ∷ filter is_told all) (filter is_told all)) (sym t) ∙ is in
      (made, z.0, z.1, so, subst (R z.0) (ap (first_of d) same) z.2, (all, z.3, sym (ap others_of same))))
      (λ f.
      let left : filter is_told all ≡ l ∷ rest = ap (λ (b : Bool). cond b (d ∷ filter is_told all) (filter is_told all)) (sym f) ∙ is in
      next_told all (made + 1) l rest z.3 (past d z.0 made z.1 so f z.2) left)

  -- where none is told of those that are left, all are made
  pub none_told : (all : List Lead) (made : ℕ) → AllZip R (drop made search.moves.now) all → IsMade made → filter is_told all ≡ []
      → IsMade (length search.moves.now)
  none_told [] made zip so is =
      let long = zip_long R (drop made search.moves.now) [] zip in
      all_made (scope_of search) (seen_in search space) at made (omega (arith, long, length-drop made search.moves.now)) so
  none_told (d ∷ all) made zip so is =
      let z = zip_first R search.moves.now made d all zip in
      cases (is_told d)
      (λ t.
      let same : d ∷ filter is_told all ≡ [] = ap (λ (b : Bool). cond b (d ∷ filter is_told all) (filter is_told all)) (sym t) ∙ is in
      absurd (omega (arith, ap (λ (ls : List Lead). length ls) same)))
      (λ f.
      let left : filter is_told all ≡ [] = ap (λ (b : Bool). cond b (d ∷ filter is_told all) (filter is_told all)) (sym f) ∙ is in
      none_told all (made + 1) z.3 (past d z.0 made z.1 so f z.2) left)
