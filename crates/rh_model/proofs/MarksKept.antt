-- The rows of marks that a cluster keeps.
use Rattle.std.proofs.Common.{◌≡◌, ◌≢◌, ◌+◌, ◌<◌, ◌==◌, ◌||◌, ◌&&◌, ℕ, zero, suc, Bool, true, false, List, [], ◌∷◌, length, nat_eq, get_or, take, filter_map, map, Some, unwrap_or, slice_get, slice_set, refl, sym, ap, ◌∙◌, inl, inr, arith, Option}
use Rattle.std.proofs.Math.ListN.{replicate}
use Rattle.std.specs.List.{list_any}
use Rattle.std.specs.Option.{option_to_list, option_and_then}
use Rattle.std.proofs.lemmas.Bool.{cases_lt}
use Rattle.std.proofs.lemmas.Bool.Decides.{eqb_tells, nat_tests}
use Rattle.std.proofs.lemmas.List.{get_or-replicate, length-replicate}
use Rattle.std.proofs.lemmas.List.Folds.{list_any-append}
use Rattle.std.proofs.lemmas.Option.{slice_get_past, slice_get-get_or, unwrap_or-slice_get}
use Rattle.rh_model.specs.declared.node.Node.{Node}
use Rattle.rh_model.specs.declared.node.App.{App}
use Rattle.rh_model.specs.ClusterView.{ClusterView, NodeView, is_permitted, app_numbered}
use Rattle.rh_model.specs.declared.settings.Dep.{Dep}
use Rattle.rh_model.specs.Needs.{listed}
use Rattle.rh_model.specs.Marks.{AppMarks, is_marked, is_marked_in, is_touched_by}
use Rattle.rh_model.proofs.Marks.{marked_none}
use Rattle.rh_model.proofs.NeedsKept.{listed_more}

abbrev none : AppMarks
none = record { marks = 0 }

at_set_here : {A : Type 0} (xs : List A) (i : ℕ) (v d : A) → i < length xs → unwrap_or (slice_get (slice_set xs i v) i) d ≡ v
at_set_here [] i v d h = absurd (omega arith)
at_set_here (x ∷ xs) zero v d h = refl
at_set_here (x ∷ xs) (suc i) v d h = at_set_here xs i v d (omega arith)

at_set_there : {A : Type 0} (xs : List A) (i j : ℕ) (v d : A) → j ≢ i → unwrap_or (slice_get (slice_set xs i v) j) d ≡ unwrap_or (slice_get xs j) d
at_set_there [] i j v d other = refl
at_set_there (x ∷ xs) zero zero v d other = absurd (other refl)
at_set_there (x ∷ xs) zero (suc j) v d other = refl
at_set_there (x ∷ xs) (suc i) zero v d other = refl
at_set_there (x ∷ xs) (suc i) (suc j) v d other = at_set_there xs i j v d (λ e. other (ap suc e))

pub row_none : (e : AppMarks) (k : ℕ) → ((a : App) → is_marked e a ≡ false) → (b a : App) → is_marked_in (record { rows = replicate k e }) b a ≡ false
unfolding is_marked_in
row_none e k empty b a = elim (cases_lt b.0 k) [
  | inl lt ↦ ap (λ x. is_marked x a) (unwrap_or-slice_get (replicate k e) b.0 none ∙ get_or-replicate k b.0 e none lt) ∙ empty a
  | inr ge ↦ ap (λ (o : Option AppMarks). is_marked (unwrap_or o none) a)
      (slice_get_past (replicate k e) b.0 (let l = length-replicate k e in omega (arith, l, ge)))
      ∙ marked_none a
]

pub row_get : (xs : List AppMarks) (b : App) (d : AppMarks) → b.0 < length xs → (a : App) → is_marked (get_or xs b.0 d) a ≡ is_marked_in (record { rows = xs }) b a
unfolding is_marked_in
row_get xs b d lt a = sym (ap (λ (o : Option AppMarks). is_marked (unwrap_or o none) a) (slice_get-get_or xs b.0 d lt))

or_false : (p : Bool) → p || false ≡ p
or_false true = refl
or_false false = refl

-- a row that gains a mark
pub row_marked : (xs : List AppMarks) (row app : App) (marks : AppMarks) → row.0 < length xs
    → ((a : App) → is_marked marks a ≡ (is_marked_in (record { rows = xs }) row a || a.0 == app.0)) → (b a : App)
    → is_marked_in (record { rows = slice_set xs row.0 marks }) b a ≡ (is_marked_in (record { rows = xs }) b a || (b.0 == row.0 && a.0 == app.0))
unfolding is_marked_in
row_marked xs row app marks lt new b a = elim (eqb_tells b.0 row.0) [
  | inl same ↦ rw same.0 (ap (λ i. is_marked (unwrap_or (slice_get (slice_set xs row.0 marks) i) none) a) same.1
      ∙ ap (λ x. is_marked x a) (at_set_here xs row.0 marks none lt) ∙ new a
      ∙ ap (λ i. is_marked (unwrap_or (slice_get xs i) none) a || a.0 == app.0) (sym same.1))
  | inr other ↦ rw other.0 (ap (λ x. is_marked x a) (at_set_there xs row.0 b.0 marks none other.1)
      ∙ sym (or_false (is_marked (unwrap_or (slice_get xs b.0) none) a)))
]

-- what is needed so far, and one more
pub need_more : (before here own : Bool) (b : App) (deps : List Dep) (n : ℕ) (d : Dep) → n < length deps
    → (before || (here && (own || list_any (λ (x : App). b.0 == x.0) (filter_map listed (take n deps)))))
    || (here && list_any (λ (x : App). b.0 == x.0) (option_to_list (listed (get_or deps n d))))
    ≡ before || (here && (own || list_any (λ (x : App). b.0 == x.0) (filter_map listed (take (n + 1) deps))))
need_more before here own b deps n d inside =
    together before here own (list_any is (filter_map listed (take n deps))) (list_any is (option_to_list (listed (get_or deps n d))))
    ∙ ap (λ p. before || (here && (own || p))) (sym (ap (list_any is) (listed_more deps n d inside)
    ∙ list_any-append is (filter_map listed (take n deps)) (option_to_list (listed (get_or deps n d)))))
  where
    is : App → Bool
    is x = b.0 == x.0

    together : (p h o q r : Bool) → (p || (h && (o || q))) || (h && r) ≡ p || (h && (o || (q || r)))
    together true h o q r = refl
    together false false o q r = refl
    together false true true q r = refl
    together false true false q r = refl

-- at first an application is marked in its own row, which is what it needs of nothing
pub own_row : (before : Bool) (b a app : App) → before || (b.0 == app.0 && a.0 == app.0) ≡ before || (a.0 == app.0 && is_touched_by b a [])
own_row before b a app = ap (λ p. before || p) (elim (eqb_tells a.0 app.0) [
  | inl same ↦ rw same.0 (both_true (b.0 == app.0) ∙ turned b.0 app.0 ∙ ap (λ i. i == b.0) (sym same.1) ∙ sym (or_false (a.0 == b.0)))
  | inr other ↦ rw other.0 (both_false (b.0 == app.0))
])
  where
    both_true : (p : Bool) → p && true ≡ p
    both_true true = refl
    both_true false = refl

    both_false : (p : Bool) → p && false ≡ false
    both_false true = refl
    both_false false = refl

    turned : (i j : ℕ) → nat_eq i j ≡ nat_eq j i
    turned i j = grind (arith, nat_tests)

-- a node's list of permissions has that of each application
pub permitted_at : (c : ClusterView) (n : Node) (v : NodeView) → slice_get c.nodes n.0 ≡ Some v → (row : List Bool) → row ≡ v.permissions
    → (k : ℕ) → k < length row → get_or row k false ≡ is_permitted c n (app_numbered k)
permitted_at c n v found row is k lt =
    sym (unwrap_or-slice_get row k false)
    ∙ ap (λ (xs : List Bool). unwrap_or (slice_get xs k) false) is
    ∙ ap (λ (o : Option NodeView). unwrap_or (option_and_then (λ (w : NodeView). slice_get w.permissions k) o) false) (sym found)

pub mapped_twice : {A B C : Type 0} (f : B → C) (g : A → B) (xs : List A) → map (λ x. f (g x)) xs ≡ map f (map g xs)
mapped_twice f g [] = refl
mapped_twice f g (x ∷ xs) = ap (λ ys. f (g x) ∷ ys) (mapped_twice f g xs)
