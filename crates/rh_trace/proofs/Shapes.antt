-- A state in which one part is another has its shape, where that part has it.
use Rattle.std.proofs.Common.{◌≡◌, ◌<◌, ◌≤◌, ◌||◌, ◌&&◌, ℕ, zero, suc, Bool, true, false, cond, not, List, [], ◌∷◌, ◌++◌, length, slice_set, Option, Some, None}
use Rattle.std.proofs.Common.{All, slice_get, unwrap_or, sym, ap, ◌∙◌, subst, arith}
use Rattle.std.proofs.lemmas.List.{length-set}
use Rattle.std.proofs.lemmas.List.Elements.{All-set, All-get_or, All-push, All-filter}
use Rattle.std.proofs.lemmas.Option.{unwrap_or-slice_get}
use Rattle.rh_model.specs.ClusterView.{ClusterView, app_count, has_phases}
use Rattle.rh_model.specs.declared.node.Node.{Node}
use Rattle.rh_model.specs.declared.node.App.{App}
use Rattle.rh_model.specs.declared.settings.Restart.{Restart}
use Rattle.rh_state.specs.declared.status.Mode.{Mode}
use Rattle.rh_state.specs.declared.status.Kind.{Kind}
use Rattle.rh_state.specs.declared.status.Kind.TheVariants as kind
use Rattle.rh_state.specs.declared.status.Standing.{Standing}
use Rattle.rh_state.specs.declared.status.Standing.TheVariants.{Quiet, Wanted, Running}
use Rattle.rh_state.specs.declared.status.Timer.{Timer}
use Rattle.rh_state.specs.Limits.{time_limit, incarnation_limit}
use Rattle.rh_state.specs.Numbers.{same_node, same_app}
use Rattle.rh_state.specs.Shape.{IsShaped, IsNodeOf, IsAppOf, IsKindOf, IsStandingOf}
use Rattle.rh_state.specs.Tables.{row}
use Rattle.rh_state.specs.Lists.{has_app, without_app}
use Rattle.rh_state.specs.StateView.{StateView, running_at, waiting_at, is_started, standing_of}
use Rattle.rh_state.specs.Setters.{with_time, with_mode, with_incarnation, with_restart, with_kind, with_allowed, with_standing, with_running, with_waiting}
use Rattle.rh_state.specs.Setters.{unlisted}
use Rattle.rh_state.proofs.Listings.{IsShaped-running, IsShaped-waiting}
use Rattle.rh_rules.specs.Placing.{start_kind}
use Rattle.rh_base.proofs.Lists.{cases}
use Rattle.rh_rules.specs.declared.notice.Move.{Move}
use Rattle.rh_rules.specs.declared.notice.Move.TheVariants.{Local, Placement, Takeover}
use Rattle.rh_rules.specs.Moves.{with_started, with_stopped, moved_state}
use Rattle.rh_base.proofs.Truths.{same_number}
use Rattle.rh_trace.proofs.Entries.{either}
use Rattle.rh_trace.proofs.Falls.{Progresses}

-- ---- one part
pub shaped_timers : (s : StateView) (timers : List (ℕ × Timer)) → IsShaped s → IsShaped (record s { timers = timers })
shaped_timers s timers h = record {
  time = h.time;
  modes = h.modes;
  incarnations = h.incarnations;
  limited = h.limited;
  running = h.running;
  waiting = h.waiting;
  running_apps = h.running_apps;
  waiting_apps = h.waiting_apps;
  restarts = h.restarts;
  restart_rows = h.restart_rows;
  kinds = h.kinds;
  kind_rows = h.kind_rows;
  kind_nodes = h.kind_nodes;
  allowed = h.allowed;
  allowed_rows = h.allowed_rows;
  standings = h.standings;
  standing_nodes = h.standing_nodes;
}

pub shaped_time : (s : StateView) (time : ℕ) → time ≤ time_limit → IsShaped s → IsShaped (with_time s time)
shaped_time s time within h = record {
  time = within;
  modes = h.modes;
  incarnations = h.incarnations;
  limited = h.limited;
  running = h.running;
  waiting = h.waiting;
  running_apps = h.running_apps;
  waiting_apps = h.waiting_apps;
  restarts = h.restarts;
  restart_rows = h.restart_rows;
  kinds = h.kinds;
  kind_rows = h.kind_rows;
  kind_nodes = h.kind_nodes;
  allowed = h.allowed;
  allowed_rows = h.allowed_rows;
  standings = h.standings;
  standing_nodes = h.standing_nodes;
}

pub shaped_mode : (s : StateView) (n : Node) (mode : Mode) → IsShaped s → IsShaped (with_mode s n mode)
shaped_mode s n mode h = record {
  time = h.time;
  modes = length-set s.modes n.0 mode ∙ h.modes;
  incarnations = h.incarnations;
  limited = h.limited;
  running = h.running;
  waiting = h.waiting;
  running_apps = h.running_apps;
  waiting_apps = h.waiting_apps;
  restarts = h.restarts;
  restart_rows = h.restart_rows;
  kinds = h.kinds;
  kind_rows = h.kind_rows;
  kind_nodes = h.kind_nodes;
  allowed = h.allowed;
  allowed_rows = h.allowed_rows;
  standings = h.standings;
  standing_nodes = h.standing_nodes;
}

pub shaped_incarnation : (s : StateView) (n : Node) (incarnation : ℕ) → incarnation ≤ incarnation_limit → IsShaped s
    → IsShaped (with_incarnation s n incarnation)
shaped_incarnation s n incarnation within h = record {
  time = h.time;
  modes = h.modes;
  incarnations = length-set s.incarnations n.0 incarnation ∙ h.incarnations;
  limited = All-set (λ i. i ≤ incarnation_limit) s.incarnations n.0 incarnation within h.limited;
  running = h.running;
  waiting = h.waiting;
  running_apps = h.running_apps;
  waiting_apps = h.waiting_apps;
  restarts = h.restarts;
  restart_rows = h.restart_rows;
  kinds = h.kinds;
  kind_rows = h.kind_rows;
  kind_nodes = h.kind_nodes;
  allowed = h.allowed;
  allowed_rows = h.allowed_rows;
  standings = h.standings;
  standing_nodes = h.standing_nodes;
}

pub shaped_standing : (s : StateView) (a : App) (standing : Standing) → IsStandingOf s.cluster standing → IsShaped s → IsShaped (with_standing s a standing)
shaped_standing s a standing known h = record {
  time = h.time;
  modes = h.modes;
  incarnations = h.incarnations;
  limited = h.limited;
  running = h.running;
  waiting = h.waiting;
  running_apps = h.running_apps;
  waiting_apps = h.waiting_apps;
  restarts = h.restarts;
  restart_rows = h.restart_rows;
  kinds = h.kinds;
  kind_rows = h.kind_rows;
  kind_nodes = h.kind_nodes;
  allowed = h.allowed;
  allowed_rows = h.allowed_rows;
  standings = length-set s.standings a.0 standing ∙ h.standings;
  standing_nodes = All-set (IsStandingOf s.cluster) s.standings a.0 standing known h.standing_nodes;
}

-- ---- a row of a table
row_all : {A : Type 0} (P : List A → Type 0) (table : List (List A)) (n : ℕ) → n < length table → All P table → P (row table n)
row_all P table n within all = subst P (sym (unwrap_or-slice_get table n [])) (All-get_or P table n [] within all)

set_row : {A : Type 0} (table : List (List A)) (n a count : ℕ) (x : A) → n < length table → All (λ cells. length cells ≡ count) table
    → length (slice_set (row table n) a x) ≡ count
set_row table n a count x within all = length-set (row table n) a x ∙ row_all (λ cells. length cells ≡ count) table n within all

-- a row of as many cells as there are applications
pub shaped_permissions : (s : StateView) (n : Node) (cells : List Bool) → length cells ≡ app_count s.cluster → IsShaped s
    → IsShaped (record s { allowed = slice_set s.allowed n.0 cells })
shaped_permissions s n cells long h = record {
  time = h.time;
  modes = h.modes;
  incarnations = h.incarnations;
  limited = h.limited;
  running = h.running;
  waiting = h.waiting;
  running_apps = h.running_apps;
  waiting_apps = h.waiting_apps;
  restarts = h.restarts;
  restart_rows = h.restart_rows;
  kinds = h.kinds;
  kind_rows = h.kind_rows;
  kind_nodes = h.kind_nodes;
  allowed = length-set s.allowed n.0 cells ∙ h.allowed;
  allowed_rows = All-set (λ (row : List Bool). length row ≡ app_count s.cluster) s.allowed n.0 cells long h.allowed_rows;
  standings = h.standings;
  standing_nodes = h.standing_nodes;
}

pub shaped_allowed : (s : StateView) (n : Node) (a : App) (allow : Bool) → IsNodeOf s.cluster n → IsShaped s → IsShaped (with_allowed s n a allow)
shaped_allowed s n a allow node h =
    let e = h.allowed in
    shaped_permissions s n (slice_set (row s.allowed n.0) a.0 allow)
    (set_row s.allowed n.0 a.0 (app_count s.cluster) allow (omega (arith, e, node)) h.allowed_rows) h

pub shaped_restart : (s : StateView) (n : Node) (a : App) (restart : Restart) → IsNodeOf s.cluster n → IsShaped s → IsShaped (with_restart s n a restart)
shaped_restart s n a restart node h = record {
  time = h.time;
  modes = h.modes;
  incarnations = h.incarnations;
  limited = h.limited;
  running = h.running;
  waiting = h.waiting;
  running_apps = h.running_apps;
  waiting_apps = h.waiting_apps;
  restarts = length-set s.restarts n.0 (slice_set (row s.restarts n.0) a.0 restart) ∙ h.restarts;
  restart_rows = All-set (λ (cells : List Restart). length cells ≡ app_count s.cluster) s.restarts n.0 (slice_set (row s.restarts n.0) a.0 restart)
      (set_row s.restarts n.0 a.0 (app_count s.cluster) restart (let e = h.restarts in omega (arith, e, node)) h.restart_rows) h.restart_rows;
  kinds = h.kinds;
  kind_rows = h.kind_rows;
  kind_nodes = h.kind_nodes;
  allowed = h.allowed;
  allowed_rows = h.allowed_rows;
  standings = h.standings;
  standing_nodes = h.standing_nodes;
}

pub shaped_kind : (s : StateView) (n : Node) (a : App) (kind : Kind) → IsNodeOf s.cluster n → IsKindOf s.cluster kind → IsShaped s
    → IsShaped (with_kind s n a kind)
shaped_kind s n a kind node known h = record {
  time = h.time;
  modes = h.modes;
  incarnations = h.incarnations;
  limited = h.limited;
  running = h.running;
  waiting = h.waiting;
  running_apps = h.running_apps;
  waiting_apps = h.waiting_apps;
  restarts = h.restarts;
  restart_rows = h.restart_rows;
  kinds = length-set s.kinds n.0 (slice_set (row s.kinds n.0) a.0 kind) ∙ h.kinds;
  kind_rows = All-set (λ (cells : List Kind). length cells ≡ app_count s.cluster) s.kinds n.0 (slice_set (row s.kinds n.0) a.0 kind)
      (set_row s.kinds n.0 a.0 (app_count s.cluster) kind (let e = h.kinds in omega (arith, e, node)) h.kind_rows) h.kind_rows;
  kind_nodes = All-set (λ (cells : List Kind). All (IsKindOf s.cluster) cells) s.kinds n.0 (slice_set (row s.kinds n.0) a.0 kind)
      (All-set (IsKindOf s.cluster) (row s.kinds n.0) a.0 kind known
      (row_all (λ (cells : List Kind). All (IsKindOf s.cluster) cells) s.kinds n.0 (let e = h.kinds in omega (arith, e, node)) h.kind_nodes)) h.kind_nodes;
  allowed = h.allowed;
  allowed_rows = h.allowed_rows;
  standings = h.standings;
  standing_nodes = h.standing_nodes;
}

-- ---- a list of a node
pub listed : (P : App → Type 0) (table : List (List App)) (n : ℕ) → All (λ (apps : List App). All P apps) table → All P (row table n)
listed P [] n all = λ k d l. absurd (omega arith)
listed P (apps ∷ table) zero all = all 0 apps (omega arith)
listed P (apps ∷ table) (suc n) all = listed P table n (λ k d l. all (suc k) d (omega arith))

pub shaped_running : (s : StateView) (n : Node) (a : App) → IsAppOf s.cluster a → IsShaped s → IsShaped (with_running s n a)
shaped_running s n a app h =
    IsShaped-running s n.0 (running_at s n ++ a ∷ []) h
    (All-push (IsAppOf s.cluster) (running_at s n) a (listed (IsAppOf s.cluster) s.running n.0 h.running_apps) app)

pub shaped_waiting : (s : StateView) (n : Node) (a : App) → IsAppOf s.cluster a → IsShaped s → IsShaped (with_waiting s n a)
shaped_waiting s n a app h =
    IsShaped-waiting s n.0 (waiting_at s n ++ a ∷ []) h
    (All-push (IsAppOf s.cluster) (waiting_at s n) a (listed (IsAppOf s.cluster) s.waiting n.0 h.waiting_apps) app)

pub shaped_unlisted : (s : StateView) (n : Node) (a : App) → IsShaped s → IsShaped (unlisted s n a)
shaped_unlisted s n a h =
    let run = All-filter (λ b. not (same_app a b)) (IsAppOf s.cluster) (running_at s n) (listed (IsAppOf s.cluster) s.running n.0 h.running_apps) in
    let wait = All-filter (λ b. not (same_app a b)) (IsAppOf s.cluster) (waiting_at s n) (listed (IsAppOf s.cluster) s.waiting n.0 h.waiting_apps) in
    IsShaped-waiting _ n.0 (without_app (waiting_at s n) a) (IsShaped-running s n.0 (without_app (running_at s n) a) h run) wait

-- what is started is an application of the cluster
has_within : (c : ClusterView) (xs : List App) (a : App) → All (IsAppOf c) xs → has_app xs a ≡ true → a.0 < app_count c
has_within c [] a all w = cc
has_within c (x ∷ xs) a all w = cases (same_app a x)
    (λ t. let e : a.0 ≡ x.0 = same_number a.0 x.0 t in let l = all 0 x (omega arith) in omega (arith, l))
    (λ f. has_within c xs a (λ k d l. all (suc k) d (omega arith)) (ap (λ p. p || has_app xs a) (sym f) ∙ w))

pub started_within : (s : StateView) (n : Node) (a : App) → IsShaped s → is_started s n a ≡ true → IsAppOf s.cluster a
started_within s n a h w = either _ _ w
    (has_within s.cluster (running_at s n) a (listed (IsAppOf s.cluster) s.running n.0 h.running_apps))
    (has_within s.cluster (waiting_at s n) a (listed (IsAppOf s.cluster) s.waiting n.0 h.waiting_apps))

-- ---- a move
-- the node that a standing names is one of the cluster
pub stands_known : (s : StateView) (a : App) → IsShaped s → IsStandingOf s.cluster (standing_of s a)
stands_known s a h = by s.standings a.0 h.standing_nodes
  where
    by : (xs : List Standing) (k : ℕ) → All (IsStandingOf s.cluster) xs → IsStandingOf s.cluster (unwrap_or (slice_get xs k) Quiet)
    by [] k all = tt
    by (x ∷ xs) zero all = all 0 x (omega arith)
    by (x ∷ xs) (suc k) all = by xs k (λ i d l. all (suc i) d (omega arith))

kind_known : (s : StateView) (a : App) (from : Option Node) (n : Node) → IsStandingOf s.cluster (Wanted from) → IsKindOf s.cluster (start_kind s a from n)
kind_known s a None n h = tt
kind_known s a (Some m) n h = by (has_phases s.cluster a && not (same_node m n))
  where
    by : (b : Bool) → IsKindOf s.cluster (cond b (kind.Failover m) kind.Normal)
    by true = h
    by false = tt

pub shaped_started : (s : StateView) (n : Node) (a : App) (kind : Kind) → IsNodeOf s.cluster n → IsAppOf s.cluster a → IsKindOf s.cluster kind → IsShaped s
    → IsShaped (with_started s n a kind)
shaped_started s n a kind node app known h =
    shaped_kind (with_running (unlisted s n a) n a) n a kind node known (shaped_running (unlisted s n a) n a app (shaped_unlisted s n a h))

pub shaped_stopped : (s : StateView) (n : Node) (a : App) → IsAppOf s.cluster a → IsShaped s → IsShaped (with_stopped s n a)
shaped_stopped s n a app h = shaped_waiting (unlisted s n a) n a app (shaped_unlisted s n a h)

-- each next move keeps the shape
pub shaped_moved : (s : StateView) (m : Move) → IsShaped s → Progresses s m → IsShaped (moved_state s m)
shaped_moved s (Local n a) h p = shaped_started s n a kind.Normal p.0 p.1 tt h
shaped_moved s (Placement a from n) h p =
    let known = kind_known s a from n (subst (IsStandingOf s.cluster) p.2 (stands_known s a h)) in
    shaped_standing (with_started s n a (start_kind s a from n)) a (Running n) p.0 (shaped_started s n a (start_kind s a from n) p.0 p.1 known h)
shaped_moved s (Takeover a m n) h p =
    let known : IsNodeOf s.cluster m = subst (IsStandingOf s.cluster) p.2 (stands_known s a h) in
    let t : StateView = with_started s n a (kind.Takeover m) in
    shaped_standing (with_stopped t m a) a (Running n) p.0 (shaped_stopped t m a p.1 (shaped_started s n a (kind.Takeover m) p.0 p.1 known h))
