-- What a node that has synchronised knows of permissions: but for it itself only those that have told of themselves may run anything.
use Rattle.std.proofs.Common.{◌≡◌, ◌≢◌, ◌≤◌, ◌⊎◌, ◌==◌, ℕ, zero, suc, Bool, true, false, List, [], ◌∷◌, replicate, slice_get, slice_set, unwrap_or, Option, refl, sym, ap, ◌∙◌, inl, inr, arith}
use Rattle.std.proofs.lemmas.Bool.{eq-eqb, false≢true, cases_Bool}
use Rattle.rh_model.specs.declared.node.App.{App}
use Rattle.rh_model.specs.declared.node.Node.{Node}
use Rattle.rh_otp_model.specs.Flags.{flag}
use Rattle.rh_otp_dist.specs.State.{may_run, beginning}
use Rattle.rh_otp_joins.proofs.Introducing.{Told, Learnt, learn, learn_all}
use Rattle.rh_otp_joins.proofs.Lists.{more_if, count_of}

-- may the node run the application, by these rows?
abbrev pub may_in : List (List Bool) → Node → App → Bool
may_in rows m a = flag (unwrap_or (slice_get rows m.0) []) a

pub row_elsewhere : (rows : List (List Bool)) (k j : ℕ) (row : List Bool) → j ≢ k → slice_get (slice_set rows k row) j ≡ slice_get rows j
row_elsewhere [] k j row other = refl
row_elsewhere (x ∷ rows) zero zero row other = absurd (other refl)
row_elsewhere (x ∷ rows) zero (suc j) row other = refl
row_elsewhere (x ∷ rows) (suc k) zero row other = refl
row_elsewhere (x ∷ rows) (suc k) (suc j) row other = row_elsewhere rows k j row (λ same. other (ap suc same))

may_elsewhere : (rows : List (List Bool)) (x m : Node) (row : List Bool) (a : App) → m.0 ≢ x.0
    → may_in (slice_set rows x.0 row) m a ≡ may_in rows m a
may_elsewhere rows x m row a apart = ap (λ (o : Option (List Bool)). flag (unwrap_or o []) a) (row_elsewhere rows x.0 m.0 row apart)

-- where it might not before, it has told so
pub has_told : (o : Told) (nodes : List Node) (l : Learnt) (m : Node) (a : App) → may_in l.may m a ≡ false
    → may_in (learn_all o nodes l).may m a ≡ true → 1 ≤ count_of m nodes
has_told o [] l m a none may = absurd (false≢true (sym none ∙ may))
has_told o (x ∷ nodes) l m a none may = by (cases_Bool (x.0 == m.0)) (λ still. has_told o nodes (learn o x l) m a still may)
  where
    by : ((x.0 == m.0) ≡ true) ⊎ ((x.0 == m.0) ≡ false) → (may_in (learn o x l).may m a ≡ false → 1 ≤ count_of m nodes)
        → 1 ≤ more_if (x.0 == m.0) (count_of m nodes)
    by (inl same) rest =
        let one : more_if (x.0 == m.0) (count_of m nodes) ≡ suc (count_of m nodes) =
        ap (λ (c : Bool). more_if c (count_of m nodes)) same in
        omega (arith, one)
    by (inr other) rest =
        let same : more_if (x.0 == m.0) (count_of m nodes) ≡ count_of m nodes = ap (λ (c : Bool). more_if c (count_of m nodes)) other in
        let some : 1 ≤ count_of m nodes =
        rest (may_elsewhere l.may x m (o.allow x) a (λ is. false≢true (sym other ∙ eq-eqb x.0 m.0 (sym is))) ∙ none) in
        omega (arith, same, some)

-- ---- as it begins

none_set : (apps k : ℕ) → unwrap_or (slice_get (replicate apps false) k) false ≡ false
none_set zero k = refl
none_set (suc apps) zero = refl
none_set (suc apps) (suc k) = none_set apps k

none_allowed : (nodes apps k : ℕ) (a : App) → flag (unwrap_or (slice_get (replicate nodes (replicate apps false)) k) []) a ≡ false
none_allowed zero apps k a = refl
none_allowed (suc nodes) apps zero a = none_set apps a.0
none_allowed (suc nodes) apps (suc k) a = none_allowed nodes apps k a

-- no other node may run anything, as far as it knows then
pub none_before : (nodes apps : ℕ) (n m : Node) (own : List Bool) (a : App) → m.0 ≢ n.0 → may_run (beginning nodes apps n own) m a ≡ false
none_before nodes apps n m own a apart =
    may_elsewhere (replicate nodes (replicate apps false)) n m own a apart ∙ none_allowed nodes apps m.0 a
