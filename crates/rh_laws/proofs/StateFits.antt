-- The numbers of a valid state are those of its cluster, and within 64 bits.
use Rattle.std.proofs.Common.{◌≡◌, ◌≢◌, ◌<◌, ◌+◌, ◌^◌, ℕ, zero, suc, true, false, List, [], ◌∷◌, length, map, get_or, nat_lt, slice_get, unwrap_or}
use Rattle.std.proofs.Common.{Option, sym, ap, ◌∙◌, subst, arith}
use Rattle.std.specs.Prelude.{All}
use Rattle.std.specs.List.{range_with_len}
use Rattle.std.proofs.lemmas.Bool.{and_parts}
use Rattle.std.proofs.lemmas.Option.{slice_get_past, unwrap_or-slice_get}
use Rattle.rh_model.specs.ClusterView.{ClusterView, node_count, app_count, numbered, app_numbered, sync_wait_of}
use Rattle.rh_model.specs.declared.node.Node.{Node}
use Rattle.rh_model.specs.declared.node.App.{App}
use Rattle.rh_state.specs.declared.status.Mode.{Mode}
use Rattle.rh_state.specs.declared.status.Mode.TheVariants.{Down}
use Rattle.rh_state.specs.declared.status.Kind.{Kind}
use Rattle.rh_state.specs.declared.status.Kind.TheVariants.{Normal}
use Rattle.rh_state.specs.declared.status.Standing.{Standing}
use Rattle.rh_state.specs.declared.status.Standing.TheVariants.{Quiet}
use Rattle.rh_state.specs.declared.status.Timer.{Timer}
use Rattle.rh_state.specs.declared.status.Timer.TheVariants.{Sync, Failover}
use Rattle.rh_state.specs.Numbers.{nodes_of, apps_of}
use Rattle.rh_state.specs.Shape.{IsNodeOf, IsAppOf, IsKindOf, IsStandingOf, IsTimerOf}
use Rattle.rh_state.specs.Standings.{is_lost}
use Rattle.rh_state.specs.Tables.{row}
use Rattle.rh_state.specs.Timers.{same_timer}
use Rattle.rh_state.specs.StateView.{StateView, mode_of, is_waiting, kind_of, standing_of}
use Rattle.rh_trace.specs.Validity.{IsSound, is_timed}
use Rattle.rh_base.proofs.Lists.{cases}
use Rattle.rh_base.proofs.Truths.{both}
use Rattle.rh_trace.proofs.Entries.{is_below, is_above}
use Rattle.rh_trace.proofs.Every.{Every}
use Rattle.rh_trace.proofs.TimersToldApart.{is_set, set-cons, same_self}
use Rattle.rh_laws.specs.Reports.{IsDueSoon}
use Rattle.rh_laws.proofs.Apart.{Apart}
use Rattle.rh_laws.proofs.Texts.{every_all}
use Rattle.rh_laws.proofs.ReportLines.{Fits}

-- ---- timers
-- each entry is set
set_of : (xs : List (ℕ × Timer)) (k : ℕ) (d : ℕ × Timer) → k < length xs → is_set (get_or xs k d).1 xs ≡ true
set_of [] k d l = absurd (omega arith)
set_of (x ∷ xs) zero d l = set-cons x.1 x xs true (same_self x.1)
set_of (x ∷ xs) (suc k) d l =
    let t : Timer = (get_or xs k d).1 in
    let rest = set_of xs k d (omega arith) in
    cases (same_timer t x.1) (λ e. set-cons t x xs true e) (λ e. set-cons t x xs false e ∙ rest)

waits_within : (s : StateView) (n : Node) → length s.modes ≡ node_count s.cluster → is_waiting (mode_of s n) ≡ true → IsNodeOf s.cluster n
waits_within s n sized h = cases (nat_lt n.0 (length s.modes))
    (λ t. let k = is_below n.0 (length s.modes) t in omega (arith, k, sized))
    (λ f. both (is_waiting (mode_of s n)) h
    (ap (λ (o : Option Mode). is_waiting (unwrap_or o Down)) (slice_get_past s.modes n.0 (is_above n.0 (length s.modes) f))))

lost_within : (s : StateView) (a : App) → length s.standings ≡ app_count s.cluster → is_lost (standing_of s a) ≡ true → IsAppOf s.cluster a
lost_within s a sized h = cases (nat_lt a.0 (length s.standings))
    (λ t. let k = is_below a.0 (length s.standings) t in omega (arith, k, sized))
    (λ f. both (is_lost (standing_of s a)) h
    (ap (λ (o : Option Standing). is_lost (unwrap_or o Quiet)) (slice_get_past s.standings a.0 (is_above a.0 (length s.standings) f))))

timer_within : (s : StateView) → IsSound s → (t : Timer) → is_set t s.timers ≡ true → IsTimerOf s.cluster t
timer_within s sound (Sync n) set = waits_within s n sound.shaped.modes
    (and_parts (is_waiting (mode_of s n)) (is_timed (sync_wait_of s.cluster n)) (sym (sound.timers.sync n) ∙ set)).0
timer_within s sound (Failover a) set = lost_within s a sound.shaped.standings (sym (sound.timers.failover a) ∙ set)

-- ---- all of them
pub fits_cluster : (s : StateView) → IsSound s → IsDueSoon s → Fits s.cluster s
fits_cluster s sound due = record {
  time = (let k = sound.shaped.time in omega (arith, k));
  incarnations = λ n h. (let e = sound.shaped.incarnations in let k = sound.shaped.limited n.0 0 (omega (arith, e, h)) in omega (arith, k));
  running = λ n h. every_all (IsAppOf s.cluster) (row s.running n.0)
      (subst (All (IsAppOf s.cluster)) (sym (unwrap_or-slice_get s.running n.0 []))
      (sound.shaped.running_apps n.0 [] (let e = sound.shaped.running in omega (arith, e, h))));
  waiting = λ n h. every_all (IsAppOf s.cluster) (row s.waiting n.0)
      (subst (All (IsAppOf s.cluster)) (sym (unwrap_or-slice_get s.waiting n.0 []))
      (sound.shaped.waiting_apps n.0 [] (let e = sound.shaped.waiting in omega (arith, e, h))));
  kinds = kinds;
  standings = λ a h. subst (IsStandingOf s.cluster) (sym (unwrap_or-slice_get s.standings a.0 Quiet))
      (sound.shaped.standing_nodes a.0 Quiet (let e = sound.shaped.standings in omega (arith, e, h)));
  timers = every_all (λ (entry : ℕ × Timer). IsTimerOf s.cluster entry.1 × (entry.0 < 2 ^ 64)) s.timers
      (λ k d l. (timer_within s sound (get_or s.timers k d).1 (set_of s.timers k d l), (let m = due k d l in omega (arith, m))));
}
  where
    kinds : (n : Node) (a : App) → IsNodeOf s.cluster n → IsAppOf s.cluster a → IsKindOf s.cluster (kind_of s n a)
    kinds n a node app =
        let inside : n.0 < length s.kinds = (let e = sound.shaped.kinds in omega (arith, e, node)) in
        let cells : List Kind = get_or s.kinds n.0 [] in
        let long : length cells ≡ app_count s.cluster = sound.shaped.kind_rows n.0 [] inside in
        subst (λ (xs : List Kind). IsKindOf s.cluster (unwrap_or (slice_get xs a.0) Normal)) (sym (unwrap_or-slice_get s.kinds n.0 []))
        (subst (IsKindOf s.cluster) (sym (unwrap_or-slice_get cells a.0 Normal))
        (sound.shaped.kind_nodes n.0 [] inside a.0 Normal (omega (arith, long, app))))

-- ---- the nodes and applications of a cluster
numbers_within : {A : Type 0} (f : ℕ → A) (P : A → Type 0) (start len : ℕ) → ((i : ℕ) → i < start + len → P (f i)) → Every P (map f (range_with_len start len))
numbers_within f P start zero each = tt
numbers_within f P start (suc len) each = (each start (omega arith), numbers_within f P (start + 1) len (λ i l. each i (omega (arith, l))))

pub nodes_within : (c : ClusterView) → Every (IsNodeOf c) (nodes_of c)
unfolding nodes_of
nodes_within c = numbers_within numbered (IsNodeOf c) 0 (node_count c) (λ i l. omega (arith, l))

pub apps_within : (c : ClusterView) → Every (IsAppOf c) (apps_of c)
unfolding apps_of
apps_within c = numbers_within app_numbered (IsAppOf c) 0 (app_count c) (λ i l. omega (arith, l))

-- no two applications have one image where f tells them apart
later_apart : {A B : Type 0} (g : ℕ → A) (f : A → B) (i start len : ℕ) → i < start → ((j : ℕ) → j < start + len → f (g i) ≡ f (g j) → i ≡ j)
    → Every (λ (z : B). f (g i) ≢ z) (map f (map g (range_with_len start len)))
later_apart g f i start zero before one = tt
later_apart g f i start (suc len) before one = (
  λ e. (let k = one start (omega arith) e in omega (arith, k, before)),
  later_apart g f i (start + 1) len (omega (arith, before)) (λ j l e. one j (omega (arith, l)) e),
)

numbers_apart : {A B : Type 0} (g : ℕ → A) (f : A → B) (start len : ℕ) → ((i j : ℕ) → i < start + len → j < start + len → f (g i) ≡ f (g j) → i ≡ j)
    → Apart (map f (map g (range_with_len start len)))
numbers_apart g f start zero one = tt
numbers_apart g f start (suc len) one = (
  later_apart g f start (start + 1) len (omega arith) (λ j l e. one start j (omega arith) (omega (arith, l)) e),
  numbers_apart g f (start + 1) len (λ i j l k e. one i j (omega (arith, l)) (omega (arith, k)) e),
)

pub apps_apart : {B : Type 0} (c : ClusterView) (f : App → B) → ((a b : App) → IsAppOf c a → IsAppOf c b → f a ≡ f b → a ≡ b) → Apart (map f (apps_of c))
unfolding apps_of
apps_apart c f one = numbers_apart app_numbered f 0 (app_count c)
    (λ i j l k e. ap (λ (a : App). a.0) (one (app_numbered i) (app_numbered j) (omega (arith, l)) (omega (arith, k)) e))
