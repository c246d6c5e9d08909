-- The points of a state: how many pairs could still start in it.
use Rattle.std.proofs.Common.{◌≡◌, ℕ, ◌+◌, ◌*◌, ◌<◌, ◌≤◌, Bool, true, false, cond, ◌&&◌, Option, Some, None, refl, sym, arith, subst, nat_lt}
use Rattle.std.proofs.lemmas.Bool.Decides.{nat_tests}
use Rattle.rh_model.specs.declared.node.Node.{Node}
use Rattle.rh_model.specs.declared.node.App.{App}
use Rattle.rh_model.specs.ClusterView.{ClusterView, node_count, app_count, numbered, app_numbered, group_of}
use Rattle.rh_state.specs.declared.status.Standing.{Standing}
use Rattle.rh_state.specs.declared.status.Standing.TheVariants.{Quiet, Wanted, Running, Lost}
use Rattle.rh_state.specs.StateView.{StateView, waits_at, standing_of}
use Rattle.rh_rules.specs.Course.{is_local}
use Rattle.rh_rules.specs.Moves.{comes_before}
use Rattle.rh_trace.proofs.Sums.{sum_to, sum_le, sum_lt, sum_bound}

-- a waiting pair of a local application can start once; and one of a distributed application can start where
-- it would rank before where it runs
abbrev pub local_point : StateView → Node → App → ℕ
local_point s n a = cond (is_local s.cluster a && waits_at s n a) 1 0

abbrev pub standing_point : ClusterView → Node → App → Standing → ℕ
standing_point c n a (Wanted _) = 1
standing_point c n a (Running m) = cond (comes_before (group_of c a n) (group_of c a m)) 1 0
standing_point c n a Quiet = 0
standing_point c n a (Lost _) = 0

unfoldable pub points_at : StateView → Node → App → ℕ
points_at s n a = local_point s n a + standing_point s.cluster n a (standing_of s a)

unfoldable pub points : StateView → ℕ
points s = sum_to (λ i. sum_to (λ j. points_at s (numbered i) (app_numbered j)) (app_count s.cluster)) (node_count s.cluster)

pub point_le : (l w v : Bool) → (l ≡ true → v ≡ true → w ≡ true) → cond (l && v) 1 0 ≤ cond (l && w) 1 0
point_le false w v h = omega arith
point_le true w false h = at_least w
  where
    at_least : (w : Bool) → 0 ≤ cond w 1 0
    at_least true = omega arith
    at_least false = omega arith
point_le true w true h = let e : w ≡ true = h refl refl in rw e (omega arith)

pub point_lt : (l w v : Bool) → l ≡ true → w ≡ true → v ≡ false → cond (l && v) 1 0 < cond (l && w) 1 0
point_lt l w v h i j = rw (h, i, j) (omega arith)

-- no place comes before itself
pub not_before : (p : Option ℕ) → comes_before p p ≡ false
not_before None = refl
not_before (Some n) = not_less n
  where
    not_less : (n : ℕ) → nat_lt n n ≡ false
    not_less n = grind (arith, nat_tests)

pub through : (p q r : Option ℕ) → comes_before q r ≡ true → comes_before p q ≡ true → comes_before p r ≡ true
through None q r h k = k
through (Some i) None r h k = cc
through (Some i) (Some j) None h k = refl
through (Some i) (Some j) (Some l) h k = less i j l h k
  where
    less : (i j l : ℕ) → nat_lt j l ≡ true → nat_lt i j ≡ true → nat_lt i l ≡ true
    less i j l h k = grind (arith, nat_tests)

-- the sum falls where no part rises and one falls
pub falls_by : (s t : StateView) (n : Node) (a : App) → t.cluster ≡ s.cluster → n.0 < node_count s.cluster → a.0 < app_count s.cluster
    → ((m : Node) (b : App) → points_at t m b ≤ points_at s m b) → points_at t n a < points_at s n a → points t < points s
unfolding points
falls_by s t n a e lt_n lt_a each here =
    let P : ClusterView → Type 0 = λ c. sum_to (λ i. sum_to (λ j. points_at t (numbered i) (app_numbered j)) (app_count c)) (node_count c) < points s in
    subst P (sym e) (sum_lt (λ i. sum_to (λ j. points_at t (numbered i) (app_numbered j)) (app_count s.cluster))
    (λ i. sum_to (λ j. points_at s (numbered i) (app_numbered j)) (app_count s.cluster))
    (node_count s.cluster) n.0
    (λ i. sum_le (λ j. points_at t (numbered i) (app_numbered j)) (λ j. points_at s (numbered i) (app_numbered j)) (app_count s.cluster)
    (λ j. each (numbered i) (app_numbered j)))
    lt_n
    (sum_lt (λ j. points_at t n (app_numbered j)) (λ j. points_at s n (app_numbered j)) (app_count s.cluster) a.0 (λ j. each n (app_numbered j)) lt_a here))

-- an application that is now at n ranks before where it was
pub standing_le : (c : ClusterView) (m n : Node) (b : App) (before : Standing) → standing_point c m b (Running n) ≤ 1
standing_le c m n b before = at_most (comes_before (group_of c b m) (group_of c b n))
  where
    at_most : (p : Bool) → cond p 1 0 ≤ 1
    at_most true = omega arith
    at_most false = omega arith

-- at most two for each pair
pub bounded : (s : StateView) → points s ≤ node_count s.cluster * (app_count s.cluster * 2)
unfolding points points_at
bounded s = sum_bound _ (app_count s.cluster * 2) (node_count s.cluster)
    (λ i. sum_bound (λ j. points_at s (numbered i) (app_numbered j)) 2 (app_count s.cluster)
    (λ j. two (is_local s.cluster (app_numbered j) && waits_at s (numbered i) (app_numbered j))
    (standing_point s.cluster (numbered i) (app_numbered j) (standing_of s (app_numbered j)))
    (one s.cluster (numbered i) (app_numbered j) (standing_of s (app_numbered j)))))
  where
    two : (p : Bool) (k : ℕ) → k ≤ 1 → cond p 1 0 + k ≤ 2
    two true k h = omega arith
    two false k h = omega arith

    one : (c : ClusterView) (n : Node) (a : App) (st : Standing) → standing_point c n a st ≤ 1
    one c n a (Wanted _) = omega arith
    one c n a (Running m) = standing_le c n m a (Running m)
    one c n a Quiet = omega arith
    one c n a (Lost _) = omega arith
