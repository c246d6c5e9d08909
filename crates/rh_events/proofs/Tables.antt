-- More of a table of lists of applications, and a pair that waits by one more entry.
use Rattle.std.proofs.Common.{◌≡◌, ◌≢◌, ℕ, true, false, List, [], ◌∷◌, ◌∙◌, sym, ap, nat_eq}
use Rattle.rh_model.specs.declared.node.App.{App}
use Rattle.rh_state.specs.Tables.{row}
use Rattle.rh_state.specs.Lists.{has_app, without_app}
use Rattle.rh_base.proofs.Lists.{cases}
use Rattle.rh_trace.proofs.Places.{at_set}
use Rattle.rh_base.proofs.Truths.{same_number}
use Rattle.rh_trace.proofs.Entries.{taken}

pub differ : (i j : ℕ) → i ≢ j → nat_eq i j ≡ false
differ i j d = cases (nat_eq i j) (λ t. absurd (d (same_number i j t))) (λ f. f)

-- a list that has an application isn't empty
pub not_empty : {P : Type 0} (xs : List App) (a : App) → has_app xs a ≡ true → xs ≡ [] → P
not_empty [] a h e = cc
not_empty (x ∷ xs) a h e = cc

-- a list that was empty is so without an application
pub taken_empty : (table : List (List App)) (n m : ℕ) (a : App) → row table m ≡ [] → row (taken table n a) m ≡ []
taken_empty table n m a empty = at_set table n m (without_app (row table n) a) []
    (λ e. e ∙ empty)
    (λ e v. v ∙ ap (λ xs. without_app xs a) (ap (λ k. row table k) (sym e) ∙ empty))
