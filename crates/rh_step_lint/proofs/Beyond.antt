-- What is told of a node or an application that the cluster hasn't.
use Rattle.std.proofs.Common.{◌≡◌, ◌<◌, ◌≤◌, ◌+◌, ◌++◌, ◌||◌, ◌==◌, ◌∙◌, ◌∷◌, [], ℕ, zero, suc, List, true, false, None, All, length, nat_lt, nat_le, ◌-◌, slice_get, unwrap_or, is_none, position, filter_map, map, refl, ap, arith, cond}
use Rattle.std.specs.Option.{option_map, option_and_then}
use Rattle.std.proofs.lemmas.List.Elements.{All-tail}
use Rattle.std.specs.List.{range_with_len}
use Rattle.std.proofs.lemmas.List.FromFn.{map-range_with_len_more}
use Rattle.std.proofs.lemmas.Option.{slice_get_past}
use Rattle.std.proofs.lemmas.Bool.Decides.{nat_tests}
use Rattle.rh_model.specs.ClusterView.{ClusterView, NodeView, AppView, IsWithin, node_count, app_count, boot_of, mandatory_of, optional_of, sync_wait_of, group_of, has_phases, spread_of, is_in}
use Rattle.rh_model.specs.Needs.{needed_apps, listed}
use Rattle.rh_model.specs.declared.node.Node.{Node}
use Rattle.rh_model.specs.declared.node.App.{App}
use Rattle.rh_model.specs.declared.settings.Spread.{Spread}
use Rattle.rh_model.specs.declared.settings.Restart.TheVariants.{Temporary}
use Rattle.rh_model.specs.declared.settings.SyncWait.TheVariants.{Unset}
use Rattle.rh_state.specs.declared.status.Mode.TheVariants.{Down}
use Rattle.rh_state.specs.declared.status.Standing.TheVariants.{Quiet}
use Rattle.rh_state.specs.declared.status.Place.TheVariants.{Off, InRunning, InWaiting}
use Rattle.rh_state.specs.Tables.{row, cell}
use Rattle.rh_state.specs.Lists.{has_app}
use Rattle.rh_state.specs.Shape.{IsShaped, IsAppOf}
use Rattle.rh_state.specs.StateView.{StateView, mode_of, is_waiting, running_at, waiting_at, runs_at, waits_at, place_of, is_allowed, restart_of, standing_of}
use Rattle.rh_rules.specs.Course.{is_local}
use Rattle.rh_rules.specs.NodesEnd.{timeout_of}

pub is_below : (n m : ℕ) → nat_lt n m ≡ true → n < m
is_below n m h = grind (arith, nat_tests)

is_above : (n m : ℕ) → nat_lt n m ≡ false → m ≤ n
is_above n m h = grind (arith, nat_tests)

-- nothing stands past the end of a list
past : {A : Type 0} (xs : List A) (n m : ℕ) → length xs ≡ m → nat_lt n m ≡ false → slice_get xs n ≡ None
past xs n m same above = let h = is_above n m above in slice_get_past xs n (omega (arith, same, h))

-- one number more
pub numbered_more : {X : Type 0} (g : ℕ → X) (n : ℕ) → map g (range_with_len 0 (n + 1)) ≡ map g (range_with_len 0 n) ++ g n ∷ []
numbered_more g n = map-range_with_len_more g 0 n n (omega arith)

-- ---- what a state tells
pub mode_beyond : (s : StateView) (n : Node) → IsShaped s → nat_lt n.0 (node_count s.cluster) ≡ false → mode_of s n ≡ Down
mode_beyond s n shape above = ap (λ m. unwrap_or m Down) (past s.modes n.0 (node_count s.cluster) shape.modes above)

pub standing_beyond : (s : StateView) (a : App) → IsShaped s → nat_lt a.0 (app_count s.cluster) ≡ false → standing_of s a ≡ Quiet
standing_beyond s a shape above = ap (λ m. unwrap_or m Quiet) (past s.standings a.0 (app_count s.cluster) shape.standings above)

row_beyond : {A : Type 0} (table : List (List A)) (n m : ℕ) → length table ≡ m → nat_lt n m ≡ false → row table n ≡ []
row_beyond table n m same above = ap (λ r. unwrap_or r []) (past table n m same above)

cell_beyond_node : {A : Type 0} (table : List (List A)) (n a m : ℕ) (d : A) → length table ≡ m → nat_lt n m ≡ false → cell table n a d ≡ d
cell_beyond_node table n a m d same above = ap (λ r. unwrap_or (slice_get r a) d) (row_beyond table n m same above)

short_row : {A : Type 0} (table : List (List A)) (n k : ℕ) → All (λ (cells : List A). length cells ≡ k) table → length (row table n) ≤ k
short_row [] n k all = omega arith
short_row (xs ∷ table) zero k all = let e : length xs ≡ k = all 0 xs (omega arith) in omega (arith, e)
short_row (xs ∷ table) (suc n) k all = short_row table n k (λ i d l. all (suc i) d (omega (arith, l)))

cell_beyond_app : {A : Type 0} (table : List (List A)) (n a k : ℕ) (d : A) → All (λ (cells : List A). length cells ≡ k) table → nat_lt a k ≡ false
    → cell table n a d ≡ d
cell_beyond_app table n a k d all above =
    let short = short_row table n k all in
    let h = is_above a k above in
    ap (λ r. unwrap_or r d) (slice_get_past (row table n) a (omega (arith, short, h)))

pub allowed_beyond_node : (s : StateView) (n : Node) (a : App) → IsShaped s → nat_lt n.0 (node_count s.cluster) ≡ false → is_allowed s n a ≡ false
allowed_beyond_node s n a shape above = cell_beyond_node s.allowed n.0 a.0 (node_count s.cluster) false shape.allowed above

pub allowed_beyond_app : (s : StateView) (n : Node) (a : App) → IsShaped s → nat_lt a.0 (app_count s.cluster) ≡ false → is_allowed s n a ≡ false
allowed_beyond_app s n a shape above = cell_beyond_app s.allowed n.0 a.0 (app_count s.cluster) false shape.allowed_rows above

pub restart_beyond_node : (s : StateView) (n : Node) (a : App) → IsShaped s → nat_lt n.0 (node_count s.cluster) ≡ false → restart_of s n a ≡ Temporary
restart_beyond_node s n a shape above = cell_beyond_node s.restarts n.0 a.0 (node_count s.cluster) Temporary shape.restarts above

pub restart_beyond_app : (s : StateView) (n : Node) (a : App) → IsShaped s → nat_lt a.0 (app_count s.cluster) ≡ false → restart_of s n a ≡ Temporary
restart_beyond_app s n a shape above = cell_beyond_app s.restarts n.0 a.0 (app_count s.cluster) Temporary shape.restart_rows above

-- ---- lists
apps_of_row : (c : ClusterView) (table : List (List App)) (n : ℕ) → All (λ (apps : List App). All (IsAppOf c) apps) table → All (IsAppOf c) (row table n)
apps_of_row c [] n all = λ k d l. absurd (omega (arith, l))
apps_of_row c (xs ∷ table) zero all = all 0 xs (omega arith)
apps_of_row c (xs ∷ table) (suc n) all = apps_of_row c table n (λ k d l. all (suc k) d (omega (arith, l)))

differs : (n m : ℕ) → m < n → (n == m) ≡ false
differs n m h = grind (arith, nat_tests)

absent : (c : ClusterView) (apps : List App) (a : App) → All (IsAppOf c) apps → app_count c ≤ a.0 → has_app apps a ≡ false
absent c [] a all above = refl
absent c (b ∷ apps) a all above =
    let below : b.0 < app_count c = all 0 b (omega arith) in
    ap (λ t. t || has_app apps a) (differs a.0 b.0 (omega (arith, below, above))) ∙ absent c apps a (All-tail (IsAppOf c) b apps all) above

in_neither : (s : StateView) (n : Node) (a : App) → runs_at s n a ≡ false → waits_at s n a ≡ false → place_of s n a ≡ Off
in_neither s n a runs waits =
    ap (λ t. cond t InRunning (cond (waits_at s n a) InWaiting Off)) runs ∙ ap (λ t. cond t InWaiting Off) waits

pub place_beyond_node : (s : StateView) (n : Node) (a : App) → IsShaped s → nat_lt n.0 (node_count s.cluster) ≡ false → place_of s n a ≡ Off
place_beyond_node s n a shape above = in_neither s n a
    (ap (λ apps. has_app apps a) (row_beyond s.running n.0 (node_count s.cluster) shape.running above))
    (ap (λ apps. has_app apps a) (row_beyond s.waiting n.0 (node_count s.cluster) shape.waiting above))

pub place_beyond_app : (s : StateView) (n : Node) (a : App) → IsShaped s → nat_lt a.0 (app_count s.cluster) ≡ false → place_of s n a ≡ Off
place_beyond_app s n a shape above = in_neither s n a
    (absent s.cluster (running_at s n) a (apps_of_row s.cluster s.running n.0 shape.running_apps) (is_above a.0 (app_count s.cluster) above))
    (absent s.cluster (waiting_at s n) a (apps_of_row s.cluster s.waiting n.0 shape.waiting_apps) (is_above a.0 (app_count s.cluster) above))

-- ---- what a cluster tells
pub boot_beyond : (c : ClusterView) (n : Node) → IsWithin c → nat_lt n.0 (node_count c) ≡ false → boot_of c n ≡ []
boot_beyond c n within above = ap (λ v. unwrap_or (option_map (λ (v : NodeView). v.boot) v) []) (past c.nodes n.0 (node_count c) within.nodes above)

pub mandatory_beyond : (c : ClusterView) (n : Node) → IsWithin c → nat_lt n.0 (node_count c) ≡ false → mandatory_of c n ≡ []
mandatory_beyond c n within above = ap (λ v. unwrap_or (option_map (λ (v : NodeView). v.mandatory) v) []) (past c.nodes n.0 (node_count c) within.nodes above)

pub optional_beyond : (c : ClusterView) (n : Node) → IsWithin c → nat_lt n.0 (node_count c) ≡ false → optional_of c n ≡ []
optional_beyond c n within above = ap (λ v. unwrap_or (option_map (λ (v : NodeView). v.optional) v) []) (past c.nodes n.0 (node_count c) within.nodes above)

pub wait_beyond : (c : ClusterView) (n : Node) → IsWithin c → nat_lt n.0 (node_count c) ≡ false → sync_wait_of c n ≡ Unset
wait_beyond c n within above = ap (λ v. unwrap_or (option_map (λ (v : NodeView). v.sync_wait) v) Unset) (past c.nodes n.0 (node_count c) within.nodes above)

pub spread_beyond : (c : ClusterView) (a : App) → IsWithin c → nat_lt a.0 (app_count c) ≡ false → spread_of c a ≡ None
spread_beyond c a within above = ap (λ v. option_and_then (λ (v : AppView). v.spread) v) (past c.apps a.0 (app_count c) within.apps above)

pub local_beyond : (c : ClusterView) (a : App) → IsWithin c → nat_lt a.0 (app_count c) ≡ false → is_local c a ≡ true
local_beyond c a within above = ap is_none (spread_beyond c a within above)

pub timeout_beyond : (c : ClusterView) (a : App) → IsWithin c → nat_lt a.0 (app_count c) ≡ false → timeout_of c a ≡ 0
timeout_beyond c a within above = ap (λ v. unwrap_or (option_map (λ (v : Spread). v.timeout) v) 0) (spread_beyond c a within above)

pub group_beyond : (c : ClusterView) (a : App) (n : Node) → IsWithin c → nat_lt a.0 (app_count c) ≡ false → group_of c a n ≡ None
group_beyond c a n within above = ap (λ v. option_and_then (λ (v : Spread). position (is_in n) v.groups) v) (spread_beyond c a within above)

pub phases_beyond : (c : ClusterView) (a : App) → IsWithin c → nat_lt a.0 (app_count c) ≡ false → has_phases c a ≡ false
phases_beyond c a within above = ap (λ v. unwrap_or (option_map (λ (v : AppView). v.phases) v) false) (past c.apps a.0 (app_count c) within.apps above)

pub needs_beyond : (c : ClusterView) (a : App) → IsWithin c → nat_lt a.0 (app_count c) ≡ false → needed_apps c a ≡ []
unfolding needed_apps
needs_beyond c a within above =
    ap (λ v. filter_map listed (unwrap_or (option_map (λ (v : AppView). v.deps) v) [])) (past c.apps a.0 (app_count c) within.apps above)

-- ---- timers
-- one that the cluster hasn't doesn't wait
pub beyond_waits_not : (s : StateView) (n : Node) → IsShaped s → nat_lt n.0 (node_count s.cluster) ≡ false → is_waiting (mode_of s n) ≡ false
beyond_waits_not s n shape above = ap is_waiting (mode_beyond s n shape above)

-- a time is reached exactly if what is left of it is
pub by_difference : (due now ms : ℕ) → nat_le (due - now) ms ≡ nat_le due (now + ms)
by_difference due now ms = grind (arith, nat_tests)
