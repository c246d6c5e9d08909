-- What boot lists tell of the applications that are booted, and small facts of numbers.
use Rattle.std.proofs.Common.{◌≡◌, ◌≢◌, ◌<◌, ◌+◌, ◌||◌, ℕ, Bool, true, false, cond, List, [], ◌∷◌, length, nat_eq, nat_lt, subst, sym, ap, ◌∙◌, arith}
use Rattle.std.specs.List.{list_any}
use Rattle.std.specs.Prelude.{All}
use Rattle.std.proofs.lemmas.Bool.{false≢true}
use Rattle.std.proofs.lemmas.Bool.Decides.{nat_tests}
use Rattle.std.proofs.lemmas.List.Elements.{All-weaker}
use Rattle.std.proofs.lemmas.List.Folds.{list_any_at}
use Rattle.rh_model.specs.ClusterView.{ClusterView, node_count, app_numbered, deps_of, is_platform}
use Rattle.rh_model.specs.declared.node.App.{App}
use Rattle.rh_model.specs.declared.node.Node.{Node}
use Rattle.rh_model.specs.declared.settings.Dep.{Dep}
use Rattle.rh_model.specs.declared.settings.Dep.TheVariants.{Listed, Platform}
use Rattle.rh_model.specs.declared.settings.Restart.{Restart}
use Rattle.rh_state.specs.Lists.{has_app}
use Rattle.rh_state.specs.Numbers.{nodes_of, same_app}
use Rattle.rh_base.specs.Lists.{lightest}
use Rattle.rh_base.proofs.Lists.{cases}
use Rattle.rh_base.proofs.Truths.{same_number, same_refl, or_left, or_right, both}
use Rattle.rh_rules.specs.Course.{is_local}
use Rattle.rh_step_laws.specs.Laws.{boots}
use Rattle.rh_trace.proofs.Entries.{is_false, either}
use Rattle.rh_trace.proofs.Numbered.{length_nodes, node_there}
use Rattle.rh_start_laws.specs.Starts.{IsBefore, InOrder}
use Rattle.rh_start_laws.proofs.Marks.{has_row}

-- ---- what an application needs where it is booted

-- what it needs is booted there too, and isn't distributed, or is a platform name of the node
abbrev pub IsThere : ClusterView → Node → Dep → Type 0
IsThere c m (Listed b) = (boots c m b ≡ true) × (is_local c b ≡ true)
IsThere c m (Platform p) = is_platform c m p ≡ true

pub deps_there : (c : ClusterView) (m : Node) (rows : List (App × Restart)) (seen : List App) (a : App) → InOrder c m seen rows
    → has_row rows a ≡ true
    → ((b : App) → has_app seen b ≡ true → boots c m b ≡ true) → ((b : App) → has_row rows b ≡ true → boots c m b ≡ true)
    → All (IsThere c m) (deps_of c a)
deps_there c m [] seen a order there before of = absurd (false≢true there)
deps_there c m (r ∷ rows) seen a order there before of = cases (same_app a r.0)
    (λ is. subst (λ (x : App). All (IsThere c m) (deps_of c x)) (sym (ap app_numbered (same_number a.0 r.0.0 is)))
    (All-weaker (IsBefore c m seen) (IsThere c m) known (deps_of c r.0) order.0))
    (λ other. deps_there c m rows (r.0 ∷ seen) a order.2 (sym (ap (λ (b : Bool). b || has_row rows a) other) ∙ there)
    (λ b is. either (same_app b r.0) (has_app seen b) is (λ same. of b (or_left (same_app b r.0) (has_row rows b) same)) (before b))
    (λ b is. of b (or_right (same_app b r.0) (has_row rows b) is)))
  where
    known : (d : Dep) → IsBefore c m seen d → IsThere c m d
    known (Listed b) is = (before b is.0, is.1)
    known (Platform p) is = is

-- ---- what some elements of a list tell

pub some_of_any : {A : Type 0} (p : A → Bool) (xs : List A) → list_any p xs ≡ true → (x : A) × (p x ≡ true)
some_of_any p [] is = absurd (false≢true is)
some_of_any {A} p (x ∷ xs) is = cases (p x)
    (λ t. (x, t))
    (λ f. some_of_any p xs (sym (ap (λ (b : Bool). b || list_any p xs) f) ∙ is))

-- a node of the cluster boots none where no node does
pub none_boots : (c : ClusterView) (a : App) (m : Node) → m.0 < node_count c → list_any (λ (k : Node). boots c k a) (nodes_of c) ≡ false
    → boots c m a ≡ false
none_boots c a m inside none = is_false (boots c m a) (λ t. both (list_any (λ (k : Node). boots c k a) (nodes_of c))
    (list_any_at (λ (k : Node). boots c k a) (nodes_of c) m.0 m
    (let long : length (nodes_of c) ≡ node_count c = length_nodes c in omega (arith, long, inside))
    (ap (λ (k : Node). boots c k a) (node_there c m.0 m inside) ∙ t)) none)

pub lt_same : (i k : ℕ) → i ≢ k → nat_lt i k ≡ nat_lt i (k + 1)
lt_same i k other = grind (arith, nat_tests)

pub lt_not : (i k : ℕ) → i ≡ k → nat_lt i k ≡ false
lt_not i k is = grind (arith, nat_tests)

pub lt_next : (i k : ℕ) → i ≡ k → nat_lt i (k + 1) ≡ true
lt_next i k is = grind (arith, nat_tests)

pub lt_yes : (i k : ℕ) → i < k → nat_lt i k ≡ true
lt_yes i k lt = grind (arith, nat_tests)

pub eq_sym : (i j : ℕ) → nat_eq i j ≡ nat_eq j i
eq_sym i j = grind (arith, nat_tests)

pub lightest_one : (w : Node → ℕ) (n : Node) → lightest w (n ∷ []) ≡ n ∷ []
lightest_one w n = ap (λ (b : Bool). cond b (n ∷ []) []) (same_refl (w n))
