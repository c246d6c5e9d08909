-- Nodes that come up keep a state sound.
use Rattle.std.proofs.Common.{◌≡◌, ◌≢◌, ◌<◌, ◌≤◌, ◌&&◌, ◌+◌, ℕ, zero, suc, Bool, true, false, cond, is_some, List, [], ◌∷◌, fold, get_or, map, refl, sym, ap}
use Rattle.std.proofs.Common.{◌∙◌, arith, nat_eq, unwrap_or, slice_get, subst, All, AllPairs}
use Rattle.std.specs.List.{range_with_len}
use Rattle.std.proofs.lemmas.Bool.{and_parts}
use Rattle.std.proofs.lemmas.List.FromFn.{map-range_with_len_more}
use Rattle.std.proofs.lemmas.List.Sums.{fold_push}
use Rattle.rh_model.specs.declared.node.Node.{Node}
use Rattle.rh_model.specs.declared.node.App.{App}
use Rattle.rh_model.specs.declared.settings.Restart.{Restart}
use Rattle.rh_model.specs.ClusterView.{ClusterView, node_count, app_count, numbered, boot_of, sync_wait_of, is_listed_at}
use Rattle.rh_state.specs.declared.status.Mode.{Mode}
use Rattle.rh_state.specs.declared.status.Mode.TheVariants.{Down, Waiting, Up}
use Rattle.rh_state.specs.declared.status.Timer.TheVariants.{Sync, Failover}
use Rattle.rh_state.specs.Numbers.{nodes_of}
use Rattle.rh_state.specs.Shape.{IsNodeOf}
use Rattle.rh_state.specs.StateView.{StateView, mode_of, is_up, is_waiting, running_at, waiting_at, runs_at, waits_at, is_started, due_of}
use Rattle.rh_state.specs.Lists.{has_app}
use Rattle.rh_state.specs.Setters.{with_mode, without_due}
use Rattle.rh_base.proofs.Lists.{cases}
use Rattle.rh_rules.specs.declared.notice.Notice.TheVariants as notice
use Rattle.rh_rules.specs.Course.{Course, told, now_in}
use Rattle.rh_trace.specs.Validity.{TimersFit, IsSound, is_timed}
use Rattle.rh_trace.proofs.Shapes.{shaped_timers, shaped_mode}
use Rattle.rh_trace.proofs.Places.{at_set_here, at_set_there}
use Rattle.rh_rules.specs.NodesStart.{is_ready, come_up, come_up_if_ready, ready_come_up}
use Rattle.rh_rules.specs.Marking.{mark, mark_booted, mark_all}
use Rattle.rh_base.proofs.Truths.{same_number}
use Rattle.rh_trace.proofs.Entries.{other_number}
use Rattle.rh_events.proofs.Tables.{differ}
use Rattle.rh_events.proofs.Marks.{marks_any, mark_cluster, mark_modes, mark_starts_no_other}
use Rattle.rh_events.proofs.SoundMarks.{neither, sound_mark}
use Rattle.rh_trace.proofs.TimersToldApart.{set-without_other, unset-without, once-without, order-without, All-without}

-- a node that has come up, before its boot list is marked
abbrev pub up : StateView → Node → StateView
up s n = with_mode (without_due s (Sync n)) n Up

module _ (s : StateView) (n : Node) (h : IsSound s) (is_node : IsNodeOf s.cluster n) where
  pub up_now : (m : Node) → m.0 ≡ n.0 → mode_of (up s n) m ≡ Up
  up_now m e = ap (λ k. mode_of (up s n) (numbered k)) e ∙ at_set_here s.modes n.0 Up Down (let k = h.shaped.modes in omega (arith, k, is_node))

  as_before : (m : Node) → m.0 ≢ n.0 → mode_of (up s n) m ≡ mode_of s m
  as_before m d = at_set_there s.modes n.0 m.0 Up Down d

  by_node : (P : Node → Type 0) → (m : Node) → (m.0 ≡ n.0 → P m) → (m.0 ≢ n.0 → P m) → P m
  by_node P m here there = cases (nat_eq m.0 n.0) (λ t. here (same_number m.0 n.0 t)) (λ f. there (other_number m.0 n.0 f))

  -- a node that isn't up is another, and wasn't up before
  was_idle : {P : Type 0} (m : Node) → is_up (mode_of (up s n) m) ≡ false → (is_up (mode_of s m) ≡ false → P) → P
  was_idle {P} m idle then = by_node (λ _. P) m
      (λ e. absurd (let k = ap is_up (up_now m e) in cc (k, idle)))
      (λ d. then (sym (ap is_up (as_before m d)) ∙ idle))

  timers_up : TimersFit (up s n)
  timers_up = record {
    sync = λ m. by_node (λ m. is_some (due_of (up s n) (Sync m)) ≡ (is_waiting (mode_of (up s n) m) && is_timed (sync_wait_of s.cluster m))) m
        (λ e. ap (λ k. is_some (due_of (up s n) (Sync (numbered k)))) e ∙ unset-without (Sync n) s.timers
        ∙ sym (ap (λ mode. is_waiting mode && is_timed (sync_wait_of s.cluster m)) (up_now m e)))
        (λ d. set-without_other (Sync n) (Sync m) s.timers (differ n.0 m.0 (λ e. d (sym e))) ∙ h.timers.sync m
        ∙ sym (ap (λ mode. is_waiting mode && is_timed (sync_wait_of s.cluster m)) (as_before m d)));
    failover = λ a. set-without_other (Sync n) (Failover a) s.timers refl ∙ h.timers.failover a;
    once = once-without (Sync n) s.timers h.timers.once;
    order = order-without (Sync n) s.timers h.timers.order;
    due = All-without (λ entry. s.time ≤ entry.0) (Sync n) s.timers h.timers.due;
  }

  pub sound_up : IsSound (up s n)
  sound_up = record {
    within = h.within;
    shaped = shaped_mode (without_due s (Sync n)) n Up (shaped_timers s (without_due s (Sync n)).timers h.shaped);
    once = record { running = h.once.running; waiting = h.once.waiting; apart = h.once.apart };
    idle = record {
      running = λ m idle. was_idle m idle (λ was. h.idle.running m was);
      waiting = λ m idle. was_idle m idle (λ was. h.idle.waiting m was);
      permissions = λ m known idle. was_idle m idle (λ was. h.idle.permissions m known was);
    };
    standing = record { listed = h.standing.listed; stands = h.standing.stands; local = h.standing.local };
    runs = record { runs = h.runs.runs };
    timers = timers_up;
  }

-- ---- the marks of its boot list
abbrev Fits : Course → Node → List (App × Restart) → Type 0
Fits o n boot =
    All (λ (e : App × Restart). e.0.0 < app_count o.state.cluster) boot
    × AllPairs (λ (e later : App × Restart). e.0.0 ≢ later.0.0) boot
    × All (λ (e : App × Restart). is_listed_at o.state.cluster e.0 n ≡ true) boot
    × All (λ (e : App × Restart). is_started o.state n e.0 ≡ false) boot

pub marks_cluster : (o : Course) (n : Node) (boot : List (App × Restart)) → (fold (mark_booted n) o boot).state.cluster ≡ o.state.cluster
marks_cluster o n boot = marks_any (λ s. s.cluster ≡ o.state.cluster) o n boot (λ w r st ts. refl)

-- the rest of a boot list fits once its first is marked
rest_fits : (o : Course) (n : Node) (b : App × Restart) (boot : List (App × Restart)) → Fits o n (b ∷ boot) → Fits (mark o n b.0 b.1) n boot
rest_fits o n b boot h = (
  (λ k d l. subst (λ (c : ClusterView). (get_or boot k d).0.0 < app_count c) (sym c) (h.0 (suc k) d (omega arith))),
  (λ i j d l m. h.1 (suc i) (suc j) d (omega arith) (omega arith)),
  (λ k d l. subst (λ (c : ClusterView). is_listed_at c (get_or boot k d).0 n ≡ true) (sym c) (h.2 (suc k) d (omega arith))),
  (λ k d l. mark_starts_no_other o.state n b.0 (get_or boot k d).0 b.1 (λ e. h.1 0 (suc k) d (omega arith) (omega arith) (sym e))
      (h.3 (suc k) d (omega arith))),
)
  where
    c : (mark o n b.0 b.1).state.cluster ≡ o.state.cluster
    c = mark_cluster o.state n b.0 b.1

sound_marks : (boot : List (App × Restart)) (o : Course) (n : Node) → IsSound o.state → IsNodeOf o.state.cluster n → is_up (mode_of o.state n) ≡ true
    → Fits o n boot → IsSound (fold (mark_booted n) o boot).state
sound_marks [] o n h is_node is_up_there fits = h
sound_marks (b ∷ boot) o n h is_node is_up_there fits =
    let c = mark_cluster o.state n b.0 b.1 in
    let m = mark_modes o.state n b.0 b.1 in
    sound_marks boot (mark o n b.0 b.1) n
    (sound_mark o.state n b.0 b.1 h is_node (fits.0 0 b (omega arith)) is_up_there (fits.2 0 b (omega arith)) (fits.3 0 b (omega arith)))
    (subst (λ (k : ClusterView). IsNodeOf k n) (sym c) is_node)
    (ap (λ (modes : List Mode). is_up (unwrap_or (slice_get modes n.0) Down)) m ∙ is_up_there)
    (rest_fits o n b boot fits)

-- ---- a node that waited comes up
waiting_not_up : (mode : Mode) → is_waiting mode ≡ true → is_up mode ≡ false
waiting_not_up Down h = refl
waiting_not_up Waiting h = refl
waiting_not_up Up h = absurd (cc)

pub idle_waits : (s : StateView) (n : Node) → IsSound s → is_waiting (mode_of s n) ≡ true → (running_at s n ≡ []) × (waiting_at s n ≡ [])
idle_waits s n h waits = let idle = waiting_not_up (mode_of s n) waits in (h.idle.running n idle, h.idle.waiting n idle)

none_started : (s : StateView) (n : Node) (a : App) → IsSound s → is_waiting (mode_of s n) ≡ true → is_started s n a ≡ false
none_started s n a h waits =
    let lists = idle_waits s n h waits in
    neither (runs_at s n a) (waits_at s n a) (ap (λ xs. has_app xs a) lists.0) (ap (λ xs. has_app xs a) lists.1)

pub sound_come_up : (o : Course) (n : Node) → IsSound o.state → IsNodeOf o.state.cluster n → is_waiting (mode_of o.state n) ≡ true → IsSound (come_up o n).state
unfolding come_up mark_all
sound_come_up o n h is_node waits =
    sound_marks (boot_of o.state.cluster n) (told (now_in o (up o.state n)) (notice.Up n)) n (sound_up o.state n h is_node) is_node
    (ap is_up (up_now o.state n h is_node n refl))
    (h.within.boot n, h.within.boot_once n, h.within.boot_listed n, λ k d l. none_started o.state n (get_or (boot_of o.state.cluster n) k d).0 h waits)

pub come_up_cluster : (o : Course) (n : Node) → (come_up o n).state.cluster ≡ o.state.cluster
unfolding come_up mark_all
come_up_cluster o n = marks_cluster (told (now_in o (up o.state n)) (notice.Up n)) n (boot_of o.state.cluster n)

pub come_up_time : (o : Course) (n : Node) → (come_up o n).state.time ≡ o.state.time
unfolding come_up mark_all
come_up_time o n = marks_any (λ s. s.time ≡ o.state.time) (told (now_in o (up o.state n)) (notice.Up n)) n (boot_of o.state.cluster n) (λ w r st ts. refl)

pub waits_where_ready : (s : StateView) (n : Node) → is_ready s n ≡ true → is_waiting (mode_of s n) ≡ true
unfolding is_ready
waits_where_ready s n h = (and_parts _ _ h).0

pub sound_come_up_if_ready : (o : Course) (n : Node) → IsSound o.state → IsNodeOf o.state.cluster n → IsSound (come_up_if_ready o n).state
unfolding come_up_if_ready
sound_come_up_if_ready o n h is_node = by (is_ready o.state n) refl
  where
    by : (b : Bool) → is_ready o.state n ≡ b → IsSound (cond b (come_up o n) o).state
    by true e = sound_come_up o n h is_node (waits_where_ready o.state n e)
    by false e = h

pub come_up_if_ready_cluster : (o : Course) (n : Node) → (come_up_if_ready o n).state.cluster ≡ o.state.cluster
unfolding come_up_if_ready
come_up_if_ready_cluster o n = by (is_ready o.state n)
  where
    by : (b : Bool) → (cond b (come_up o n) o).state.cluster ≡ o.state.cluster
    by true = come_up_cluster o n
    by false = refl

come_up_if_ready_time : (o : Course) (n : Node) → (come_up_if_ready o n).state.time ≡ o.state.time
unfolding come_up_if_ready
come_up_if_ready_time o n = by (is_ready o.state n)
  where
    by : (b : Bool) → (cond b (come_up o n) o).state.time ≡ o.state.time
    by true = come_up_time o n
    by false = refl

-- ---- the ready nodes, one after the other
each_cluster : (ns : List Node) (o : Course) → (fold come_up_if_ready o ns).state.cluster ≡ o.state.cluster
each_cluster [] o = refl
each_cluster (n ∷ ns) o = each_cluster ns (come_up_if_ready o n) ∙ come_up_if_ready_cluster o n

each_time : (ns : List Node) (o : Course) → (fold come_up_if_ready o ns).state.time ≡ o.state.time
each_time [] o = refl
each_time (n ∷ ns) o = each_time ns (come_up_if_ready o n) ∙ come_up_if_ready_time o n

each_sound : (ns : List Node) (o : Course) → All (IsNodeOf o.state.cluster) ns → IsSound o.state → IsSound (fold come_up_if_ready o ns).state
each_sound [] o known h = h
each_sound (n ∷ ns) o known h =
    each_sound ns (come_up_if_ready o n)
    (λ k d l. subst (λ (c : ClusterView). IsNodeOf c (get_or ns k d)) (sym (come_up_if_ready_cluster o n)) (known (suc k) d (omega arith)))
    (sound_come_up_if_ready o n h (known 0 n (omega arith)))

-- each node of a cluster is one of it
all_below : (start len top : ℕ) → start + len ≤ top → All (λ (n : Node). n.0 < top) (map numbered (range_with_len start len))
all_below start zero top h k d l = absurd (omega arith)
all_below start (suc len) top h zero d l = omega arith
all_below start (suc len) top h (suc k) d l = all_below (start + 1) len top (omega arith) k d (omega arith)

pub all_nodes : (c : ClusterView) → All (IsNodeOf c) (nodes_of c)
unfolding nodes_of
all_nodes c = all_below 0 (node_count c) (node_count c) (omega arith)

pub sound_ready_come_up : (o : Course) → IsSound o.state → IsSound (ready_come_up o).state
unfolding ready_come_up
sound_ready_come_up o h = each_sound (nodes_of o.state.cluster) o (all_nodes o.state.cluster) h

pub ready_come_up_cluster : (o : Course) → (ready_come_up o).state.cluster ≡ o.state.cluster
unfolding ready_come_up
ready_come_up_cluster o = each_cluster (nodes_of o.state.cluster) o

pub ready_come_up_time : (o : Course) → (ready_come_up o).state.time ≡ o.state.time
unfolding ready_come_up
ready_come_up_time o = each_time (nodes_of o.state.cluster) o

-- ---- the first i nodes, each if it is ready
abbrev pub come_up_below : Course → ℕ → Course
come_up_below o i = fold come_up_if_ready o (map numbered (range_with_len 0 i))

pub come_up_more : (o : Course) (i : ℕ) → come_up_below o (i + 1) ≡ come_up_if_ready (come_up_below o i) (numbered i)
come_up_more o i =
    ap (λ ns. fold come_up_if_ready o ns) (map-range_with_len_more numbered 0 i i (omega arith))
    ∙ fold_push come_up_if_ready o (map numbered (range_with_len 0 i)) (numbered i)
