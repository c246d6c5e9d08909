-- What a dist_ac has learnt when all others have told of themselves: whom it knows, that nobody runs anything, and what each may run.
use Rattle.std.proofs.Common.{◌≡◌, ◌≢◌, ◌<◌, ◌⊎◌, ◌+◌, ◌++◌, ◌==◌, ◌||◌, ℕ, zero, suc, Bool, true, false, cond, List, [], ◌∷◌, length, replicate, slice_get, slice_set, Option, Some, None, refl, sym, ap, ◌∙◌, inl, inr, arith}
use Rattle.std.proofs.lemmas.Bool.{cases_eq, eq-eqb, ne_eqb}
use Rattle.std.proofs.lemmas.List.{length-set}
use Rattle.rh_model.specs.ClusterView.{is_in}
use Rattle.rh_model.specs.declared.node.Node.{Node}
use Rattle.rh_otp_dist.specs.State.{DistView, beginning}
use Rattle.rh_otp_dist.specs.Waiting.{rows_at}
use Rattle.rh_otp_system.specs.State.{SystemView, node_at}
use Rattle.rh_otp_crashes.proofs.Crossing.{same_node}
use Rattle.rh_otp_joins.proofs.Introducing.{Told, Learnt, learn, learn_all}
use Rattle.rh_otp_joins.proofs.Lists.{more_if, count_of}
use Rattle.rh_otp_joins.proofs.Permitted.{row_elsewhere}
use Rattle.rh_otp_gathers.proofs.Stages.{none_in, told_in}

-- ---- whom it knows, and that nobody runs anything

shuffle : (a c d : Bool) → (c || (a || d)) ≡ ((a || c) || d)
shuffle true true d = refl
shuffle true false d = refl
shuffle false true d = refl
shuffle false false d = refl

pub learnt_known : (o : Told) (x : Node) (nodes : List Node) (l : Learnt)
    → is_in x (learn_all o nodes l).known ≡ (is_in x nodes || is_in x l.known)
learnt_known o x [] l = refl
learnt_known o x (y ∷ nodes) l = learnt_known o x nodes (learn o y l) ∙ shuffle (x.0 == y.0) (is_in x nodes) (is_in x l.known)

-- and how often each stands there
pub learnt_count : (o : Told) (x : Node) (nodes : List Node) (l : Learnt)
    → count_of x (learn_all o nodes l).known ≡ count_of x nodes + count_of x l.known
learnt_count o x [] l = omega arith
learnt_count o x (y ∷ nodes) l =
    let rest : count_of x (learn_all o nodes (learn o y l)).known ≡ count_of x nodes + count_of x (y ∷ l.known) =
    learnt_count o x nodes (learn o y l) in
    by (y.0 == x.0) (count_of x (learn_all o nodes (learn o y l)).known) rest
  where
    by : (c : Bool) (j : ℕ) → j ≡ count_of x nodes + more_if c (count_of x l.known) → j ≡ more_if c (count_of x nodes) + count_of x l.known
    by true j is = omega (arith, is)
    by false j is = omega (arith, is)

no_rows : (m : Node) (number k : ℕ) → rows_at m number (replicate k false) ≡ []
no_rows m number zero = refl
no_rows m number (suc k) = no_rows m (number + 1) k

no_runs : (m : Node) (o : Option DistView) → rows_at m 0 (none_in o) ≡ []
no_runs m None = refl
no_runs m (Some d) = no_rows m 0 (length d.appls)

pub learnt_runs : (s : SystemView) (nodes : List Node) (l : Learnt) → l.runs ≡ [] → (learn_all (told_in s) nodes l).runs ≡ []
learnt_runs s [] l none = none
learnt_runs s (y ∷ nodes) l none =
    learnt_runs s nodes (learn (told_in s) y l)
    ((λ i. none i ++ rows_at y 0 (none_in (node_at s y).dist)) ∙ no_runs y (node_at s y).dist)

abbrev pub is_some_count : ℕ → Bool
is_some_count zero = false
is_some_count (suc k) = true

pub in_count : (x : Node) (nodes : List Node) → is_in x nodes ≡ is_some_count (count_of x nodes)
in_count x [] = refl
in_count x (y ∷ nodes) = by (cases_eq x.0 y.0) (in_count x nodes)
  where
    by : (x.0 ≡ y.0) ⊎ (x.0 ≢ y.0) → is_in x nodes ≡ is_some_count (count_of x nodes)
        → (x.0 == y.0 || is_in x nodes) ≡ is_some_count (more_if (y.0 == x.0) (count_of x nodes))
    by (inl is) rest =
        ap (λ (c : Bool). c || is_in x nodes) (eq-eqb x.0 y.0 is)
        ∙ sym (ap (λ (c : Bool). is_some_count (more_if c (count_of x nodes))) (eq-eqb y.0 x.0 (sym is)))
    by (inr apart) rest =
        ap (λ (c : Bool). c || is_in x nodes) (ne_eqb x.0 y.0 apart)
        ∙ rest
        ∙ sym (ap (λ (c : Bool). is_some_count (more_if c (count_of x nodes))) (ne_eqb y.0 x.0 (λ is. apart (sym is))))

-- ---- what each may run

pub row_there : (rows : List (List Bool)) (k : ℕ) (row : List Bool) → k < length rows → slice_get (slice_set rows k row) k ≡ Some row
row_there [] k row within = absurd (omega (arith, within))
row_there (x ∷ rows) zero row within = refl
row_there (x ∷ rows) (suc k) row within = row_there rows k row (omega (arith, within))

-- what is written for another node than this leaves its row
row_by : (x y : Node) (rows : List (List Bool)) (row : List Bool) → x.0 < length rows
    → slice_get (slice_set rows y.0 row) x.0 ≡ cond (x.0 == y.0) (Some row) (slice_get rows x.0)
row_by x y rows row within = by (cases_eq x.0 y.0)
  where
    by : (x.0 ≡ y.0) ⊎ (x.0 ≢ y.0) → slice_get (slice_set rows y.0 row) x.0 ≡ cond (x.0 == y.0) (Some row) (slice_get rows x.0)
    by (inl is) =
        (λ i. slice_get (slice_set rows (sym is i) row) x.0)
        ∙ row_there rows x.0 row within
        ∙ sym (ap (λ (c : Bool). cond c (Some row) (slice_get rows x.0)) (eq-eqb x.0 y.0 is))
    by (inr apart) =
        row_elsewhere rows y.0 x.0 row apart
        ∙ sym (ap (λ (c : Bool). cond c (Some row) (slice_get rows x.0)) (ne_eqb x.0 y.0 apart))

pub learnt_rows : (o : Told) (nodes : List Node) (l : Learnt) → length (learn_all o nodes l).may ≡ length l.may
learnt_rows o [] l = refl
learnt_rows o (y ∷ nodes) l = learnt_rows o nodes (learn o y l) ∙ length-set l.may y.0 (o.allow y)

-- those that have told of themselves may run what they have told
pub learnt_may : (o : Told) (x : Node) (nodes : List Node) (l : Learnt) → x.0 < length l.may
    → slice_get (learn_all o nodes l).may x.0 ≡ cond (is_in x nodes) (Some (o.allow x)) (slice_get l.may x.0)
learnt_may o x [] l within = refl
learnt_may o x (y ∷ nodes) l within =
    learnt_may o x nodes (learn o y l)
    (let same : length (slice_set l.may y.0 (o.allow y)) ≡ length l.may = length-set l.may y.0 (o.allow y) in omega (arith, within, same))
    ∙ ap (cond (is_in x nodes) (Some (o.allow x))) (row_by x y l.may (o.allow y) within)
    ∙ by (cases_eq x.0 y.0)
  where
    both : (c : Bool) (a b : Option (List Bool)) → cond c a (cond true a b) ≡ a
    both true a b = refl
    both false a b = refl

    by : (x.0 ≡ y.0) ⊎ (x.0 ≢ y.0)
        → cond (is_in x nodes) (Some (o.allow x)) (cond (x.0 == y.0) (Some (o.allow y)) (slice_get l.may x.0))
        ≡ cond (x.0 == y.0 || is_in x nodes) (Some (o.allow x)) (slice_get l.may x.0)
    by (inl is) =
        (λ i. cond (is_in x nodes) (Some (o.allow x))
        (cond (eq-eqb x.0 y.0 is i) (Some (o.allow (same_node y x (sym is) i))) (slice_get l.may x.0)))
        ∙ both (is_in x nodes) (Some (o.allow x)) (slice_get l.may x.0)
        ∙ sym (ap (λ (c : Bool). cond (c || is_in x nodes) (Some (o.allow x)) (slice_get l.may x.0)) (eq-eqb x.0 y.0 is))
    by (inr apart) =
        ap (λ (c : Bool). cond (is_in x nodes) (Some (o.allow x)) (cond c (Some (o.allow y)) (slice_get l.may x.0))) (ne_eqb x.0 y.0 apart)
        ∙ sym (ap (λ (c : Bool). cond (c || is_in x nodes) (Some (o.allow x)) (slice_get l.may x.0)) (ne_eqb x.0 y.0 apart))

-- ---- as it begins

none_set : (nodes k : ℕ) (row : List Bool) → k < nodes → slice_get (replicate nodes row) k ≡ Some row
none_set zero k row within = absurd (omega (arith, within))
none_set (suc nodes) zero row within = refl
none_set (suc nodes) (suc k) row within = none_set nodes k row (omega (arith, within))

as_many : (nodes : ℕ) (row : List Bool) → length (replicate nodes row) ≡ nodes
as_many zero row = refl
as_many (suc nodes) row = (let rest : length (replicate nodes row) ≡ nodes = as_many nodes row in omega (arith, rest))

pub rows_first : (nodes apps : ℕ) (m : Node) (own : List Bool) → length (beginning nodes apps m own).may ≡ nodes
rows_first nodes apps m own = length-set (replicate nodes (replicate apps false)) m.0 own ∙ as_many nodes (replicate apps false)

-- the node itself may run what its own file says, and another one nothing
pub may_first : (nodes apps : ℕ) (m x : Node) (own : List Bool) → x.0 < nodes
    → slice_get (beginning nodes apps m own).may x.0 ≡ cond (x.0 == m.0) (Some own) (Some (replicate apps false))
may_first nodes apps m x own within =
    row_by x m (replicate nodes (replicate apps false)) own
    (let many : length (replicate nodes (replicate apps false)) ≡ nodes = as_many nodes (replicate apps false) in
    omega (arith, many, within))
    ∙ ap (cond (x.0 == m.0) (Some own)) (none_set nodes x.0 (replicate apps false) within)
