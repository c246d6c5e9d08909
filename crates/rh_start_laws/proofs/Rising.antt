-- All nodes of a cluster wait, and so all come up, one after the other: what their boot lists make of the state.
use Rattle.std.proofs.Common.{◌≡◌, ◌≢◌, ◌<◌, ◌≤◌, ◌+◌, ◌++◌, ◌||◌, ◌&&◌, ℕ, zero, suc, Bool, true, false, cond, not, List, [], ◌∷◌, map, fold, length, slice_get, slice_set, get_or, unwrap_or, subst, refl, sym, ap, ◌∙◌, inl, inr, arith}
use Rattle.std.specs.List.{list_any, flat_map, range_with_len}
use Rattle.std.specs.Prelude.{All}
use Rattle.std.proofs.lemmas.Bool.{and_from, cases_eq, cases_lt}
use Rattle.std.proofs.lemmas.List.Elements.{All-head, All-tail, All-append}
use Rattle.std.proofs.lemmas.List.FromFn.{map-range_with_len_more}
use Rattle.std.proofs.lemmas.Option.{unwrap_or-slice_get}
use Rattle.rh_model.specs.ClusterView.{ClusterView, IsWithin, node_count, app_count, numbered, boot_of, mandatory_of, optional_of, sync_wait_of}
use Rattle.rh_model.specs.declared.node.App.{App}
use Rattle.rh_model.specs.declared.node.Node.{Node}
use Rattle.rh_model.specs.declared.settings.Restart.{Restart}
use Rattle.rh_model.specs.declared.settings.SyncWait.{SyncWait}
use Rattle.rh_model.specs.declared.settings.SyncWait.TheVariants.{Unset, After, Forever}
use Rattle.rh_state.specs.declared.status.Mode.{Mode}
use Rattle.rh_state.specs.declared.status.Mode.TheVariants as mode
use Rattle.rh_state.specs.Numbers.{nodes_of}
use Rattle.rh_state.specs.Shape.{IsNodeOf}
use Rattle.rh_state.specs.StateView.{StateView, mode_of, is_alive, is_up, is_waiting, waiting_at, restart_of, standing_of}
use Rattle.rh_state.proofs.FirstStates.{map_numbered_more, flat_map_numbered_more}
use Rattle.rh_rules.specs.declared.notice.Notice.{Notice}
use Rattle.rh_rules.specs.declared.notice.Notice.TheVariants as notice
use Rattle.rh_rules.specs.declared.notice.Pair.{Pair}
use Rattle.rh_rules.specs.Course.{Course, is_local, told, now_in}
use Rattle.rh_rules.specs.Marking.{mark_booted, mark_all, pair}
use Rattle.rh_rules.specs.NodesStart.{all_alive, has_others, is_ready, come_up, come_up_if_ready, ready_come_up}
use Rattle.rh_step_laws.specs.Laws.{boots}
use Rattle.rh_trace.specs.Validity.{IsSound}
use Rattle.rh_trace.proofs.Places.{at_set_here, at_set_there}
use Rattle.rh_events.proofs.Counts.{mark_all_tells}
use Rattle.rh_events.proofs.Marks.{remade, marks_any}
use Rattle.rh_events.proofs.SoundComingUp.{up, come_up_below, come_up_more, sound_come_up}
use Rattle.rh_start_laws.proofs.Marks.{wanted_if, apps_in, has_row, IsLarge, marks_waiting, marks_waiting_there, marks_restart_there, marks_restarts, marks_marked, marks_freed, marks_standings}

-- ---- where all nodes are alive, each one that waits is ready

alive_all : (s : StateView) (top : ℕ) (ms : List Node) → ((m : Node) → m.0 < top → is_alive (mode_of s m) ≡ true)
    → All (λ (m : Node). m.0 < top) ms
    → all_alive s ms ≡ true
unfolding all_alive
alive_all s top [] alive all = refl
alive_all s top (m ∷ ms) alive all =
    and_from (is_alive (mode_of s m)) _ (alive m (All-head (λ (k : Node). k.0 < top) m ms all))
    (alive_all s top ms alive (All-tail (λ (k : Node). k.0 < top) m ms all))

ready_waits : (s : StateView) (m : Node) → IsWithin s.cluster → mode_of s m ≡ mode.Waiting
    → ((k : Node) → k.0 < node_count s.cluster → is_alive (mode_of s k) ≡ true) → is_ready s m ≡ true
unfolding is_ready
ready_waits s m within waits alive =
    and_from (is_waiting (mode_of s m)) (has_others s m (sync_wait_of s.cluster m)) (ap is_waiting waits)
    (others (sync_wait_of s.cluster m))
  where
    both : all_alive s (mandatory_of s.cluster m ++ optional_of s.cluster m) ≡ true
    both = alive_all s (node_count s.cluster) (mandatory_of s.cluster m ++ optional_of s.cluster m) alive
        (All-append (λ (k : Node). k.0 < node_count s.cluster) (mandatory_of s.cluster m) (optional_of s.cluster m) (within.mandatory m)
        (within.optional m))

    others : (wait : SyncWait) → has_others s m wait ≡ true
    others Unset = refl
    others (After ms) = both
    others Forever = both

-- ---- so many nodes have come up

-- the first nodes of a cluster
abbrev pub below : ℕ → List Node
below k = map numbered (range_with_len 0 k)

-- the pairs of a node's boot list
abbrev pub pairs_at : ClusterView → Node → List Pair
pairs_at c m = map (pair m) (apps_in (boot_of c m))

-- an application is distributed, and one of these nodes boots it
abbrev pub is_called : ClusterView → List Node → App → Bool
is_called c ms a = list_any (λ (m : Node). boots c m a) ms && not (is_local c a)

-- The first nodes are up, and what they boot waits there; the others wait.
pub record HasRisen (c : ClusterView) (s : StateView) (k : ℕ) (o : Course) : Type 0 where
  pub cluster : o.state.cluster ≡ c
  pub sound : IsSound o.state
  pub up : (m : Node) → m.0 < k → mode_of o.state m ≡ mode.Up
  pub rest : (m : Node) → k ≤ m.0 → m.0 < node_count c → mode_of o.state m ≡ mode.Waiting
  pub waiting : (m : Node) → m.0 < k → waiting_at o.state m ≡ apps_in (boot_of c m)
  pub time : o.state.time ≡ s.time
  pub incarnations : o.state.incarnations ≡ s.incarnations
  pub running : o.state.running ≡ s.running
  pub allowed : o.state.allowed ≡ s.allowed
  pub restarts : (m : Node) → m.0 < k → All (λ (e : App × Restart). restart_of o.state m e.0 ≡ e.1) (boot_of c m)
  pub standings : (a : App) → standing_of o.state a ≡ wanted_if (is_called c (below k) a)
  pub notices : o.notices ≡ map notice.Up (below k)
  pub marked : o.marked ≡ flat_map (pairs_at c) (below k)
  pub freed : o.freed ≡ []

any_push : (p : Node → Bool) (ms : List Node) (m : Node) → list_any p (ms ++ m ∷ []) ≡ (list_any p ms || p m)
any_push p [] m = by (p m)
  where
    by : (b : Bool) → (b || false) ≡ b
    by true = refl
    by false = refl
any_push p (k ∷ ms) m = ap (λ (b : Bool). p k || b) (any_push p ms m) ∙ by (p k) (list_any p ms) (p m)
  where
    by : (a b d : Bool) → (a || (b || d)) ≡ ((a || b) || d)
    by true b d = refl
    by false b d = refl

-- one node more comes up
module _ (c : ClusterView) (s : StateView) (k : ℕ) (o : Course) (h : HasRisen c s k o) (inside : k < node_count c) where
  abbrev n : Node
  n = numbered k

  abbrev v : StateView
  v = o.state

  in_cluster : IsNodeOf v.cluster n
  in_cluster = subst (λ (d : ClusterView). k < node_count d) (sym h.cluster) inside

  waits : mode_of v n ≡ mode.Waiting
  waits = h.rest n (omega arith) inside

  each_alive : (m : Node) → m.0 < node_count v.cluster → is_alive (mode_of v m) ≡ true
  each_alive m there = elim (cases_lt m.0 k) [
    | inl lt ↦ ap is_alive (h.up m lt)
    | inr ge ↦ ap is_alive (h.rest m ge (subst (λ (d : ClusterView). m.0 < node_count d) h.cluster there))
  ]

  ready : is_ready v n ≡ true
  ready = ready_waits v n h.sound.within waits each_alive

  abbrev q : Course
  q = told (now_in o (up v n)) (notice.Up n)

  abbrev p : Course
  p = fold (mark_booted n) q (boot_of v.cluster n)

  comes : come_up_if_ready o n ≡ p
  unfolding come_up_if_ready come_up mark_all
  comes = ap (λ (b : Bool). cond b (come_up o n) o) ready

  boot_is : boot_of v.cluster n ≡ boot_of c n
  boot_is = ap (λ (d : ClusterView). boot_of d n) h.cluster

  same_field : {A : Type 0} (field : StateView → A)
      → ((waiting : List (List App)) (restarts : List (List Restart)) (standings : List _) (timers : List _)
      → field (remade (up v n) waiting restarts standings timers) ≡ field v) → field p.state ≡ field v
  same_field field each = marks_any (λ (t : StateView). field t ≡ field v) q n (boot_of v.cluster n) each

  modes_then : p.state.modes ≡ slice_set v.modes k mode.Up
  modes_then = marks_any (λ (t : StateView). t.modes ≡ slice_set v.modes k mode.Up) q n (boot_of v.cluster n) (λ w r st ts. refl)

  here : k < length v.modes
  here = let long : length v.modes ≡ node_count v.cluster = h.sound.shaped.modes in let lt : k < node_count v.cluster = in_cluster in
      omega (arith, long, lt)

  mode_here : (m : Node) → m.0 ≡ k → mode_of p.state m ≡ mode.Up
  mode_here m is =
      ap (λ (modes : List Mode). unwrap_or (slice_get modes m.0) mode.Down) modes_then
      ∙ ap (λ (j : ℕ). unwrap_or (slice_get (slice_set v.modes k mode.Up) j) mode.Down) is
      ∙ at_set_here v.modes k mode.Up mode.Down here

  mode_there : (m : Node) → m.0 ≢ k → mode_of p.state m ≡ mode_of v m
  mode_there m other =
      ap (λ (modes : List Mode). unwrap_or (slice_get modes m.0) mode.Down) modes_then
      ∙ at_set_there v.modes k m.0 mode.Up mode.Down other

  is_n : (m : Node) → m.0 ≡ k → m ≡ n
  is_n m is = ap numbered is

  waiting_here : waiting_at p.state n ≡ apps_in (boot_of c n)
  waiting_here =
      marks_waiting n (boot_of v.cluster n) q
      (let long : length v.waiting ≡ node_count v.cluster = h.sound.shaped.waiting in let lt : k < node_count v.cluster = in_cluster in
      omega (arith, long, lt))
      ∙ ap (λ (apps : List App). apps ++ apps_in (boot_of v.cluster n)) (h.sound.idle.waiting n (ap is_up waits))
      ∙ ap apps_in boot_is

  large : IsLarge n (app_count v.cluster) v.restarts
  large =
      let long : length v.restarts ≡ node_count v.cluster = h.sound.shaped.restarts in
      let lt : k < node_count v.cluster = in_cluster in
      let there : k < length v.restarts = omega (arith, long, lt) in
      (there, ap length (unwrap_or-slice_get v.restarts k []) ∙ h.sound.shaped.restart_rows k [] there)

  restarts_here : All (λ (e : App × Restart). restart_of p.state n e.0 ≡ e.1) (boot_of c n)
  restarts_here = subst (λ (rows : List (App × Restart)). All (λ (e : App × Restart). restart_of p.state n e.0 ≡ e.1) rows) boot_is
      (marks_restarts n (app_count v.cluster) (boot_of v.cluster n) q large (h.sound.within.boot n) (h.sound.within.boot_once n))

  standings_then : (a : App) → standing_of p.state a ≡ wanted_if (is_called c (below (k + 1)) a)
  standings_then a =
      marks_standings n c (boot_of v.cluster n) q (is_called c (below k)) h.cluster
      (λ j d l. let lt : (get_or (boot_of v.cluster n) j d).0.0 < app_count v.cluster = h.sound.within.boot n j d l in
      let long : length v.standings ≡ app_count v.cluster = h.sound.shaped.standings in omega (arith, lt, long))
      h.standings a
      ∙ ap wanted_if (ap (λ (rows : List (App × Restart)). is_called c (below k) a || (has_row rows a && not (is_local c a))) boot_is
      ∙ by (list_any (λ (m : Node). boots c m a) (below k)) (boots c n a) (not (is_local c a))
      ∙ ap (λ (b : Bool). b && not (is_local c a)) (sym (any_push (λ (m : Node). boots c m a) (below k) n)
      ∙ ap (list_any (λ (m : Node). boots c m a)) (sym (map-range_with_len_more numbered 0 k k (omega arith)))))
    where
      by : (a b d : Bool) → ((a && d) || (b && d)) ≡ ((a || b) && d)
      by true b true = refl
      by true true false = refl
      by true false false = refl
      by false b d = refl

  came : come_up o n ≡ p
  unfolding come_up mark_all
  came = refl

  notices_then : p.notices ≡ o.notices ++ notice.Up n ∷ []
  unfolding mark_all
  notices_then = mark_all_tells q n (boot_of v.cluster n)

  one_more : HasRisen c s (k + 1) (come_up_if_ready o n)
  one_more = subst (HasRisen c s (k + 1)) (sym comes) record {
    cluster = same_field (λ (t : StateView). t.cluster) (λ w r st ts. refl) ∙ h.cluster;
    sound = subst (λ (x : Course). IsSound x.state) came (sound_come_up o n h.sound in_cluster (ap is_waiting waits));
    up = λ m lt. elim (cases_eq m.0 k) [
      | inl is ↦ mode_here m is
      | inr other ↦ mode_there m other ∙ h.up m (omega (arith, lt, other))
    ];
    rest = λ m ge lt. mode_there m (λ is. let e : m.0 ≡ k = is in absurd (omega (arith, e, ge))) ∙ h.rest m (omega (arith, ge)) lt;
    waiting = λ m lt. elim (cases_eq m.0 k) [
      | inl is ↦ subst (λ (j : Node). waiting_at p.state j ≡ apps_in (boot_of c j)) (sym (is_n m is)) waiting_here
      | inr other ↦ marks_waiting_there n (boot_of v.cluster n) q m other ∙ h.waiting m (omega (arith, lt, other))
    ];
    time = same_field (λ (t : StateView). t.time) (λ w r st ts. refl) ∙ h.time;
    incarnations = same_field (λ (t : StateView). t.incarnations) (λ w r st ts. refl) ∙ h.incarnations;
    running = same_field (λ (t : StateView). t.running) (λ w r st ts. refl) ∙ h.running;
    allowed = same_field (λ (t : StateView). t.allowed) (λ w r st ts. refl) ∙ h.allowed;
    restarts = λ m lt. elim (cases_eq m.0 k) [
      | inl is ↦ subst (λ (j : Node). All (λ (e : App × Restart). restart_of p.state j e.0 ≡ e.1) (boot_of c j))
          (sym (is_n m is)) restarts_here
      | inr other ↦ λ j d l. marks_restart_there n (boot_of v.cluster n) q m (get_or (boot_of c m) j d).0 other
          ∙ h.restarts m (omega (arith, lt, other)) j d l
    ];
    standings = standings_then;
    notices = notices_then ∙ ap (λ (ns : List Notice). ns ++ notice.Up n ∷ []) h.notices ∙ sym (map_numbered_more notice.Up numbered k);
    marked =
        marks_marked n (boot_of v.cluster n) q
        ∙ ap (λ (ps : List Pair). ps ++ map (pair n) (apps_in (boot_of v.cluster n))) h.marked
        ∙ ap (λ (rows : List (App × Restart)). flat_map (pairs_at c) (below k) ++ map (pair n) (apps_in rows)) boot_is
        ∙ sym (flat_map_numbered_more (pairs_at c) numbered k);
    freed = marks_freed n (boot_of v.cluster n) q ∙ h.freed;
  }

-- so all come up
pub all_rise : (c : ClusterView) (s : StateView) (o : Course) → HasRisen c s 0 o → (k : ℕ) → k ≤ node_count c
    → HasRisen c s k (come_up_below o k)
all_rise c s o h zero le = h
all_rise c s o h (suc k) le =
    subst (λ (j : ℕ). HasRisen c s j (come_up_below o j)) (more k)
    (subst (HasRisen c s (k + 1)) (sym (come_up_more o k))
    (one_more c s k (come_up_below o k) (all_rise c s o h k (omega arith)) (omega arith)))
  where
    more : (k : ℕ) → k + 1 ≡ suc k
    more k = omega arith

pub ready_below : (c : ClusterView) (o : Course) → o.state.cluster ≡ c → ready_come_up o ≡ come_up_below o (node_count c)
unfolding ready_come_up nodes_of
ready_below c o is = ap (λ (d : ClusterView). come_up_below o (node_count d)) is
