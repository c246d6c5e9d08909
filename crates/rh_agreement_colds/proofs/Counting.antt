-- Each node of a cluster, and each application, stands once among all; and of a list of entries each application has one at most.
use Rattle.std.proofs.Common.{◌≡◌, ◌≢◌, ◌<◌, ◌≤◌, ◌⊎◌, ◌+◌, ◌==◌, ◌&&◌, ◌||◌, ℕ, zero, suc, Bool, true, false, cond, List, [], ◌∷◌, filter, map, refl, sym, ap, subst, ◌∙◌, inl, inr, arith}
use Rattle.std.specs.List.{list_any, range_with_len}
use Rattle.std.specs.Prelude.{All, AllPairs}
use Rattle.std.proofs.lemmas.Bool.{cases_eq, eq-eqb, ne_eqb, false≢true}
use Rattle.std.proofs.lemmas.List.Elements.{All-nil, All-cons, All-head, All-tail}
use Rattle.rh_model.specs.ClusterView.{ClusterView, node_count, app_count, numbered, app_numbered}
use Rattle.rh_model.specs.declared.node.App.{App}
use Rattle.rh_model.specs.declared.node.Node.{Node}
use Rattle.rh_model.specs.declared.settings.Restart.{Restart}
use Rattle.rh_state.specs.Numbers.{nodes_of, apps_of}
use Rattle.rh_agreement_colds.proofs.Permuted.{passing}

-- ---- numbers

-- a test that this number alone passes
record Finds {A : Type 0} (make : ℕ → A) (p : A → Bool) (k : ℕ) : Type 0 where
  here : (j : ℕ) → j ≡ k → p (make j) ≡ true
  others : (j : ℕ) → j ≢ k → p (make j) ≡ false

module _ {A : Type 0} (make : ℕ → A) (p : A → Bool) (k : ℕ) (finds : Finds make p k) where
  -- how many of so many numbers do, from one on
  abbrev among : ℕ → ℕ → ℕ
  among n a = passing p (map make (range_with_len a n))

  none_of : (n a : ℕ) → k < a → among n a ≡ 0
  none_of zero a below = refl
  none_of (suc n) a below =
      ap (λ (b : Bool). cond b (suc (among n (a + 1))) (among n (a + 1))) (finds.others a (λ same. absurd (omega (arith, same, below))))
      ∙ none_of n (a + 1) (omega (arith, below))

  one_of : (n a : ℕ) → a ≤ k → k < a + n → among n a ≡ 1
  one_of zero a from to = absurd (omega (arith, from, to))
  one_of (suc n) a from to = by (cases_eq a k) (one_of n (a + 1))
    where
      by : (a ≡ k) ⊎ (a ≢ k) → (a + 1 ≤ k → k < a + 1 + n → among n (a + 1) ≡ 1) → among (suc n) a ≡ 1
      by (inl is) rest =
          ap (λ (b : Bool). cond b (suc (among n (a + 1))) (among n (a + 1))) (finds.here a is)
          ∙ ap suc (none_of n (a + 1) (omega (arith, is)))
      by (inr other) rest =
          ap (λ (b : Bool). cond b (suc (among n (a + 1))) (among n (a + 1))) (finds.others a other)
          ∙ rest (omega (arith, from, other)) (omega (arith, to))

-- each node once, whichever side of the test it stands on
pub node_once : (c : ClusterView) (k : ℕ) → k < node_count c → passing (λ (m : Node). m.0 == k) (nodes_of c) ≡ 1
unfolding nodes_of
node_once c k within =
    one_of numbered (λ (m : Node). m.0 == k) k (record { here = λ j is. eq-eqb j k is; others = λ j other. ne_eqb j k other })
    (node_count c) 0 (omega arith) (omega (arith, within))

pub node_once_too : (c : ClusterView) (k : ℕ) → k < node_count c → passing (λ (m : Node). k == m.0) (nodes_of c) ≡ 1
unfolding nodes_of
node_once_too c k within =
    one_of numbered (λ (m : Node). k == m.0) k
    (record { here = λ j is. eq-eqb k j (sym is); others = λ j other. ne_eqb k j (λ same. other (sym same)) })
    (node_count c) 0 (omega arith) (omega (arith, within))

pub app_once : (c : ClusterView) (k : ℕ) → k < app_count c → passing (λ (a : App). a.0 == k) (apps_of c) ≡ 1
unfolding apps_of
app_once c k within =
    one_of app_numbered (λ (a : App). a.0 == k) k (record { here = λ j is. eq-eqb j k is; others = λ j other. ne_eqb j k other })
    (app_count c) 0 (omega arith) (omega (arith, within))

-- all nodes have numbers that the cluster has
numbers_within : (n a most : ℕ) → a + n ≤ most → All (λ (m : Node). m.0 < most) (map numbered (range_with_len a n))
numbers_within zero a most within = All-nil (λ (m : Node). m.0 < most)
numbers_within (suc n) a most within =
    All-cons (λ (m : Node). m.0 < most) (numbered a) (map numbered (range_with_len (a + 1) n)) (omega (arith, within))
    (numbers_within n (a + 1) most (omega (arith, within)))

pub nodes_within : (c : ClusterView) → All (λ (m : Node). m.0 < node_count c) (nodes_of c)
unfolding nodes_of
nodes_within c = numbers_within (node_count c) 0 (node_count c) (omega arith)

-- a test that a node passes finds one of all
any_number : (p : Node → Bool) (k n a : ℕ) → a ≤ k → k < a + n → p (numbered k) ≡ true
    → list_any p (map numbered (range_with_len a n)) ≡ true
any_number p k zero a from to passes = absurd (omega (arith, from, to))
any_number p k (suc n) a from to passes = by (cases_eq a k) (any_number p k n (a + 1))
  where
    by : (a ≡ k) ⊎ (a ≢ k)
        → (a + 1 ≤ k → k < a + 1 + n → p (numbered k) ≡ true → list_any p (map numbered (range_with_len (a + 1) n)) ≡ true)
        → (p (numbered a) || list_any p (map numbered (range_with_len (a + 1) n))) ≡ true
    by (inl is) more =
        ap (λ (b : Bool). b || list_any p (map numbered (range_with_len (a + 1) n))) (ap (λ (j : ℕ). p (numbered j)) is ∙ passes)
    by (inr other) more = later (p (numbered a))
      where
        rest : list_any p (map numbered (range_with_len (a + 1) n)) ≡ true
        rest = more (omega (arith, from, other)) (omega (arith, to)) passes

        later : (b : Bool) → (b || list_any p (map numbered (range_with_len (a + 1) n))) ≡ true
        later true = refl
        later false = rest

pub any_node : (c : ClusterView) (p : Node → Bool) (m : Node) → m.0 < node_count c → p m ≡ true → list_any p (nodes_of c) ≡ true
unfolding nodes_of
any_node c p m within passes = any_number p m.0 (node_count c) 0 (omega arith) (omega (arith, within)) passes

-- one of those that a test finds
pub found : {A : Type 0} (p : A → Bool) (xs : List A) → list_any p xs ≡ true → (x : A) × (p x ≡ true)
found p [] is = absurd (false≢true is)
found {A} p (x ∷ xs) is = by (p x) refl is (found p xs)
  where
    by : (b : Bool) → p x ≡ b → (b || list_any p xs) ≡ true → (list_any p xs ≡ true → (y : A) × (p y ≡ true)) → (y : A) × (p y ≡ true)
    by true passes any rest = (x, passes)
    by false fails any rest = rest any

-- ---- entries

abbrev pub Apart : App × Restart → App × Restart → Type 0
Apart e later = e.0.0 ≢ later.0.0

pub first_apart : (e : App × Restart) (rows : List (App × Restart)) → AllPairs Apart (e ∷ rows) → All (Apart e) rows
first_apart e rows all = λ i d within. all 0 (suc i) d (omega arith) (omega (arith, within))

pub rest_apart : (e : App × Restart) (rows : List (App × Restart)) → AllPairs Apart (e ∷ rows) → AllPairs Apart rows
rest_apart e rows all = λ i j d below within. all (suc i) (suc j) d (omega (arith, below)) (omega (arith, within))

-- what one application has of the entries that pass a test
module _ {B : Type 0} (t : App → Bool) (f : App → B) (a : App) where
  abbrev of_app : List (App × Restart) → List (App × Restart)
  of_app rows = filter (λ (row : App × Restart). a.0 == row.0.0) (filter (λ (row : App × Restart). t row.0) rows)

  none_left : (rows : List (App × Restart)) → All (λ (row : App × Restart). a.0 ≢ row.0.0) rows → of_app rows ≡ []
  none_left [] all = refl
  none_left (row ∷ rows) all = by (t row.0) (none_left rows (All-tail (λ (r : App × Restart). a.0 ≢ r.0.0) row rows all))
    where
      by : (b : Bool) → of_app rows ≡ []
          → filter (λ (r : App × Restart). a.0 == r.0.0) (cond b (row ∷ filter (λ (r : App × Restart). t r.0) rows) (filter (λ
          (r : App × Restart). t r.0) rows)) ≡ []
      by true rest =
          ap (λ (c : Bool). cond c (row ∷ of_app rows) (of_app rows))
          (ne_eqb a.0 row.0.0 (All-head (λ (r : App × Restart). a.0 ≢ r.0.0) row rows all))
          ∙ rest
      by false rest = rest

  pub one_at_most : (rows : List (App × Restart)) → AllPairs Apart rows
      → map (λ (row : App × Restart). f row.0) (of_app rows)
      ≡ cond (list_any (λ (row : App × Restart). a.0 == row.0.0) rows && t a) (f a ∷ []) []
  one_at_most [] apart = refl
  one_at_most (row ∷ rows) apart = by (cases_eq a.0 row.0.0) (one_at_most rows (rest_apart row rows apart))
    where
      test : App × Restart → Bool
      test r = a.0 == r.0.0

      kept : List (App × Restart)
      kept = filter (λ (r : App × Restart). t r.0) rows

      given : App × Restart → B
      given r = f r.0

      by : (a.0 ≡ row.0.0) ⊎ (a.0 ≢ row.0.0)
          → map given (of_app rows) ≡ cond (list_any test rows && t a) (f a ∷ []) []
          → map given (filter test (cond (t row.0) (row ∷ kept) kept)) ≡ cond ((a.0 == row.0.0 || list_any test rows) && t a) (f a ∷ []) []
      by (inl is) rest =
          ap (λ (b : Bool). map given (filter test (cond b (row ∷ kept) kept))) (ap t (sym itself))
          ∙ here (t a)
          ∙ sym (ap (λ (b : Bool). cond ((b || list_any test rows) && t a) (f a ∷ []) []) (eq-eqb a.0 row.0.0 is))
        where
          itself : a ≡ row.0
          itself = ap app_numbered is

          none : of_app rows ≡ []
          none =
              none_left rows
              (subst (λ (b : App). All (λ (r : App × Restart). b.0 ≢ r.0.0) rows) (sym itself) (first_apart row rows apart))

          here : (b : Bool) → map given (filter test (cond b (row ∷ kept) kept)) ≡ cond b (f a ∷ []) []
          here true =
              ap (λ (c : Bool). map given (cond c (row ∷ of_app rows) (of_app rows))) (eq-eqb a.0 row.0.0 is)
              ∙ (λ i. f (sym itself i) ∷ map given (none i))
          here false = ap (map given) none
      by (inr other) rest =
          there (t row.0)
          ∙ rest
          ∙ sym (ap (λ (b : Bool). cond ((b || list_any test rows) && t a) (f a ∷ []) []) (ne_eqb a.0 row.0.0 other))
        where
          there : (b : Bool) → map given (filter test (cond b (row ∷ kept) kept)) ≡ map given (of_app rows)
          there true = ap (λ (c : Bool). map given (cond c (row ∷ of_app rows) (of_app rows))) (ne_eqb a.0 row.0.0 other)
          there false = refl
