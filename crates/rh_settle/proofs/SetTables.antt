-- A table with a set of nodes for each application, and one with a mark for each.
use Rattle.std.proofs.Common.{◌≡◌, ℕ, ◌<◌, false, cond, List, length, get_or, unwrap_or, slice_get, slice_set, nat_lt, refl, sym, ap, ◌∙◌, inl, inr, arith, Option}
use Rattle.std.proofs.Math.ListN.{replicate}
use Rattle.std.proofs.lemmas.List.{get_or-replicate, length-replicate}
use Rattle.std.proofs.lemmas.Option.{slice_get_past, slice_get-get_or, unwrap_or-slice_get}
use Rattle.std.proofs.lemmas.Bool.Decides.{eqb_tells}
use Rattle.rh_model.specs.declared.node.Node.{Node}
use Rattle.rh_model.specs.declared.node.App.{App}
use Rattle.rh_state.specs.Numbers.{same_app}
use Rattle.rh_base.proofs.Lists.{cases}
use Rattle.rh_place.specs.Sets.{NodeBits, has}
use Rattle.rh_place.proofs.Bits.{zero_has_none}
use Rattle.rh_settle.specs.Boards.{is_among}
use Rattle.rh_trace.proofs.Entries.{is_below, is_above}
use Rattle.rh_trace.proofs.Places.{at_set_here, at_set_there}

abbrev nobody : NodeBits
nobody = record { bits = 0 }

pub among_none : (e : NodeBits) (k : ℕ) → ((n : Node) → has e n ≡ false) → (a : App) (n : Node) → is_among (record { sets = replicate k e }) a n ≡ false
unfolding is_among
among_none e k none a n = cases (nat_lt a.0 k)
    (λ t. ap (λ x. has x n) (unwrap_or-slice_get (replicate k e) a.0 nobody ∙ get_or-replicate k a.0 e nobody (is_below a.0 k t)) ∙ none n)
    (λ f. ap (λ (o : Option NodeBits). has (unwrap_or o nobody) n)
    (slice_get_past (replicate k e) a.0 (let l = length-replicate k e in let g = is_above a.0 k f in omega (arith, l, g)))
    ∙ zero_has_none nobody refl n)

pub among_get : (xs : List NodeBits) (a : App) (d : NodeBits) → a.0 < length xs → (n : Node) → has (get_or xs a.0 d) n ≡ is_among (record { sets = xs }) a n
unfolding is_among
among_get xs a d lt n = sym (ap (λ (o : Option NodeBits). has (unwrap_or o nobody) n) (slice_get-get_or xs a.0 d lt))

pub among_set : (xs : List NodeBits) (app : App) (set : NodeBits) → app.0 < length xs → (a : App) (n : Node)
    → is_among (record { sets = slice_set xs app.0 set }) a n ≡ cond (same_app a app) (has set n) (is_among (record { sets = xs }) a n)
unfolding is_among
among_set xs app set lt a n = elim (eqb_tells a.0 app.0) [
  | inl same ↦ rw same.0 (ap (λ i. has (unwrap_or (slice_get (slice_set xs app.0 set) i) nobody) n) same.1
      ∙ ap (λ x. has x n) (at_set_here xs app.0 set nobody lt))
  | inr other ↦ rw other.0 (ap (λ x. has x n) (at_set_there xs app.0 a.0 set nobody other.1))
]
