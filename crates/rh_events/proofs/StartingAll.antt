-- An application that is started at all its nodes, one node after the other.
use Rattle.std.proofs.Common.{◌≡◌, ◌≢◌, ◌<◌, ◌≤◌, ◌+◌, ◌&&◌, ◌||◌, ℕ, zero, suc, Bool, true, false, cond, not, List, [], ◌∷◌, length, fold, map, All, get_or, refl, sym, ap}
use Rattle.std.proofs.Common.{◌∙◌, arith, nat_eq, slice_get, subst, unwrap_or}
use Rattle.std.proofs.lemmas.Bool.Decides.{nat_tests}
use Rattle.std.specs.List.{filter, range_with_len}
use Rattle.std.proofs.lemmas.List.Elements.{All-push}
use Rattle.std.proofs.lemmas.List.FromFn.{map-range_with_len_more}
use Rattle.std.proofs.lemmas.List.Sums.{fold_push}
use Rattle.rh_model.specs.ClusterView.{ClusterView, node_count, numbered, is_listed_at}
use Rattle.rh_model.specs.declared.node.Node.{Node}
use Rattle.rh_model.specs.declared.node.App.{App}
use Rattle.rh_model.specs.declared.settings.Restart.{Restart}
use Rattle.rh_model.specs.declared.settings.Restart.TheVariants.{Temporary}
use Rattle.rh_state.specs.Numbers.{nodes_of}
use Rattle.rh_state.specs.Shape.{IsNodeOf, IsAppOf}
use Rattle.rh_state.specs.StateView.{StateView, mode_of, is_up, runs_at, waits_at, is_started, restart_of, standing_of}
use Rattle.rh_state.specs.Setters.{with_restart, with_waiting}
use Rattle.rh_rules.specs.declared.notice.Notice.{Notice}
use Rattle.rh_rules.specs.Course.{Course}
use Rattle.rh_trace.specs.Traces.{IsPairOf}
use Rattle.rh_trace.specs.Validity.{IsSound}
use Rattle.rh_trace.proofs.Behind.{after_notices, fold_after}
use Rattle.rh_base.proofs.Lists.{cases}
use Rattle.rh_base.proofs.Truths.{both, same_number, or_left, or_right, same_refl}
use Rattle.rh_trace.proofs.Entries.{has, put, there, put_keeps, put_gives, length_put, either}
use Rattle.rh_trace.proofs.Places.{at_set_there}
use Rattle.rh_rules.specs.Marking.{pair, with_mark, mark}
use Rattle.rh_rules.specs.Everywhere.{is_host, is_target, targets, start_at, start_all}
use Rattle.rh_events.specs.Everywhere.{start_if_target}
use Rattle.rh_events.proofs.Fields.{SameNodes, same_then, marked_same}
use Rattle.rh_events.proofs.Marks.{mark_any, wanted_any}
use Rattle.rh_events.proofs.SoundMarks.{sound_mark}
use Rattle.rh_events.proofs.SoundComingUp.{all_nodes}

-- ---- a mark changes no test at another node
pub target_kept : (s : StateView) (n m : Node) (a : App) (r : Restart) → m.0 ≢ n.0 → is_target (with_mark s n a r) a m ≡ is_target s a m
unfolding with_mark
target_kept s n m a r other =
    wanted_any (λ t. is_target t a m ≡ is_target s a m) (with_restart (with_waiting s n a) n a r) n a (standing_of s a)
    (λ standings timers. ap (λ b. is_host s a m && not (runs_at s m a || b)) (there s.waiting n.0 m.0 _ a other))

-- ---- tested at each node, or all tested before
later_nodes : (s : StateView) (a : App) (r : Restart) (start len : ℕ) (o : Course)
    → ((j : ℕ) → start ≤ j → is_target o.state a (numbered j) ≡ is_target s a (numbered j))
    → fold (start_at a r) o (filter (is_target s a) (map numbered (range_with_len start len)))
    ≡ fold (start_if_target a r) o (map numbered (range_with_len start len))
later_nodes s a r start zero o same = refl
later_nodes s a r start (suc len) o same =
    ap (λ b. fold (start_at a r) o (cond b (n ∷ filter (is_target s a) ns) (filter (is_target s a) ns))) (sym (same start (omega arith)))
    ∙ by (is_target o.state a n) (later_nodes s a r (start + 1) len)
  where
    n : Node
    n = numbered start

    ns : List Node
    ns = map numbered (range_with_len (start + 1) len)

    apart : (j : ℕ) → start + 1 ≤ j → j ≢ start
    apart j le e = omega (arith, e, le)

    by : (b : Bool)
        → ((p : Course) → ((j : ℕ) → start + 1 ≤ j → is_target p.state a (numbered j) ≡ is_target s a (numbered j))
        → fold (start_at a r) p (filter (is_target s a) ns) ≡ fold (start_if_target a r) p ns)
        → fold (start_at a r) o (cond b (n ∷ filter (is_target s a) ns) (filter (is_target s a) ns))
        ≡ fold (start_if_target a r) (cond b (mark o n a r) o) ns
    by true rest = rest (mark o n a r) (λ j le. target_kept o.state n (numbered j) a r (apart j le) ∙ same j (omega (arith, le)))
    by false rest = rest o (λ j le. same j (omega (arith, le)))

-- the nodes of a cluster, each tested when its turn comes
abbrev pub each_target : App → Restart → Course → List Node → Course
each_target a r o ns = fold (start_if_target a r) o ns

pub start_all_each : (o : Course) (a : App) (r : Restart) → start_all o a r ≡ each_target a r o (nodes_of o.state.cluster)
unfolding start_all targets nodes_of
start_all_each o a r = later_nodes o.state a r 0 (node_count o.state.cluster) o (λ j le. refl)

-- the first i nodes
abbrev pub start_below : Course → App → Restart → ℕ → Course
start_below o a r i = each_target a r o (map numbered (range_with_len 0 i))

pub start_more : (o : Course) (a : App) (r : Restart) (i : ℕ) → start_below o a r (i + 1) ≡ start_if_target a r (start_below o a r i) (numbered i)
start_more o a r i =
    ap (λ ns. each_target a r o ns) (map-range_with_len_more numbered 0 i i (omega arith))
    ∙ fold_push (start_if_target a r) o (map numbered (range_with_len 0 i)) (numbered i)

pub start_below_all : (o : Course) (a : App) (r : Restart) (i : ℕ) → i ≡ node_count o.state.cluster → start_below o a r i ≡ start_all o a r
unfolding nodes_of
start_below_all o a r i e = ap (start_below o a r) e ∙ sym (start_all_each o a r)

-- ---- what a node's turn keeps
-- what holds of a course, whether or not it is marked
turn : (P : Course → Type 0) (o : Course) (n : Node) (a : App) (r : Restart) → (is_target o.state a n ≡ true → P (mark o n a r)) → P o
    → P (start_if_target a r o n)
turn P o n a r marked same = by (is_target o.state a n) refl
  where
    by : (b : Bool) → is_target o.state a n ≡ b → P (cond b (mark o n a r) o)
    by true e = marked e
    by false e = same

turn_same : (o : Course) (n : Node) (a : App) (r : Restart) → SameNodes o.state (start_if_target a r o n).state
turn_same o n a r = turn (λ p. SameNodes o.state p.state) o n a r (λ _. marked_same o.state n a r)
    (record { cluster = refl; time = refl; modes = refl; incarnations = refl })

turns_same : (ns : List Node) (o : Course) (a : App) (r : Restart) → SameNodes o.state (each_target a r o ns).state
turns_same [] o a r = record { cluster = refl; time = refl; modes = refl; incarnations = refl }
turns_same (n ∷ ns) o a r = same_then o.state (start_if_target a r o n).state (each_target a r o (n ∷ ns)).state (turn_same o n a r)
    (turns_same ns (start_if_target a r o n) a r)

pub turn_cluster : (o : Course) (n : Node) (a : App) (r : Restart) → (start_if_target a r o n).state.cluster ≡ o.state.cluster
turn_cluster o n a r = (turn_same o n a r).cluster

pub started_all_same : (o : Course) (a : App) (r : Restart) → SameNodes o.state (start_all o a r).state
started_all_same o a r = subst (λ (p : Course). SameNodes o.state p.state) (sym (start_all_each o a r)) (turns_same (nodes_of o.state.cluster) o a r)

-- earlier notices don't matter
pub start_all_after : (base : List Notice) (o : Course) (a : App) (r : Restart)
    → start_all (after_notices base o) a r ≡ after_notices base (start_all o a r)
unfolding start_all
start_all_after base o a r = fold_after base (start_at a r) (λ p n. refl) o (targets o.state a)

-- ---- a sound state stays sound
pub record IsHost (s : StateView) (a : App) (n : Node) : Type 0 where
  pub up : is_up (mode_of s n) ≡ true
  pub listed : is_listed_at s.cluster a n ≡ true
  pub off : is_started s n a ≡ false

pub of_target : (s : StateView) (a : App) (n : Node) → is_target s a n ≡ true → IsHost s a n
of_target s a n t = by (is_up (mode_of s n)) (is_listed_at s.cluster a n) (is_started s n a) refl refl refl t
  where
    by : (p q b : Bool) → is_up (mode_of s n) ≡ p → is_listed_at s.cluster a n ≡ q → is_started s n a ≡ b → (p && q) && not b ≡ true → IsHost s a n
    by true true false up listed off t = record { up = up; listed = listed; off = off }
    by true true true up listed off t = absurd (cc t)
    by true false b up listed off t = absurd (cc t)
    by false q b up listed off t = absurd (cc t)

turns_sound : (ns : List Node) (o : Course) (a : App) (r : Restart) → All (IsNodeOf o.state.cluster) ns → IsAppOf o.state.cluster a → IsSound o.state
    → IsSound (each_target a r o ns).state
turns_sound [] o a r known app h = h
turns_sound (n ∷ ns) o a r known app h =
    let c = turn_cluster o n a r in
    turns_sound ns (start_if_target a r o n) a r
    (λ k d l. subst (λ (v : ClusterView). IsNodeOf v (get_or ns k d)) (sym c) (known (suc k) d (omega arith)))
    (subst (λ (v : ClusterView). IsAppOf v a) (sym c) app)
    (turn (λ p. IsSound p.state) o n a r
    (λ t. let at = of_target o.state a n t in sound_mark o.state n a r h (known 0 n (omega arith)) app at.up at.listed at.off) h)

pub sound_started_all : (o : Course) (a : App) (r : Restart) → IsAppOf o.state.cluster a → IsSound o.state → IsSound (start_all o a r).state
sound_started_all o a r app h =
    subst (λ (p : Course). IsSound p.state) (sym (start_all_each o a r))
    (turns_sound (nodes_of o.state.cluster) o a r (all_nodes o.state.cluster) app h)

-- ---- only pairs of the cluster are marked
turns_pairs : (c : ClusterView) (ns : List Node) (o : Course) (a : App) (r : Restart) → All (IsNodeOf c) ns → IsAppOf c a → All (IsPairOf c) o.marked
    → All (IsPairOf c) (each_target a r o ns).marked
turns_pairs c [] o a r known app before = before
turns_pairs c (n ∷ ns) o a r known app before =
    turns_pairs c ns (start_if_target a r o n) a r (λ k d l. known (suc k) d (omega arith)) app
    (turn (λ p. All (IsPairOf c) p.marked) o n a r
    (λ _. All-push (IsPairOf c) o.marked (pair n a) before (record { node = known 0 n (omega arith); app = app })) before)

pub started_all_pairs : (o : Course) (a : App) (r : Restart) → IsAppOf o.state.cluster a → All (IsPairOf o.state.cluster) o.marked
    → All (IsPairOf o.state.cluster) (start_all o a r).marked
started_all_pairs o a r app before =
    subst (λ (p : Course). All (IsPairOf o.state.cluster) p.marked) (sym (start_all_each o a r))
    (turns_pairs o.state.cluster (nodes_of o.state.cluster) o a r (all_nodes o.state.cluster) app before)

-- ---- behind it the application is started at each node that is up and may start it
mark_keeps : (s : StateView) (n m : Node) (a : App) (r : Restart) → is_started s m a ≡ true → is_started (with_mark s n a r) m a ≡ true
unfolding with_mark
mark_keeps s n m a r h =
    wanted_any (λ t. is_started t m a ≡ true) (with_restart (with_waiting s n a) n a r) n a (standing_of s a)
    (λ standings timers. either (runs_at s m a) (waits_at s m a) h
    (λ runs. or_left (runs_at s m a) _ runs)
    (λ waits. or_right (runs_at s m a) _ (put_keeps s.waiting n.0 m.0 a a waits)))

mark_starts : (s : StateView) (n m : Node) (a : App) (r : Restart) → m.0 ≡ n.0 → n.0 < length s.waiting → is_started (with_mark s n a r) m a ≡ true
unfolding with_mark
mark_starts s n m a r e lt =
    wanted_any (λ t. is_started t m a ≡ true) (with_restart (with_waiting s n a) n a r) n a (standing_of s a)
    (λ standings timers. or_right (runs_at s m a) _ (ap (λ k. has (put s.waiting n.0 a) k a) e ∙ put_gives s.waiting n.0 a a lt (same_refl a.0)))

turn_keeps : (o : Course) (n m : Node) (a : App) (r : Restart) → is_started o.state m a ≡ true → is_started (start_if_target a r o n).state m a ≡ true
turn_keeps o n m a r h = turn (λ p. is_started p.state m a ≡ true) o n a r (λ _. mark_keeps o.state n m a r h) h

turns_keep : (ns : List Node) (o : Course) (m : Node) (a : App) (r : Restart) → is_started o.state m a ≡ true → is_started (each_target a r o ns).state m a ≡ true
turns_keep [] o m a r h = h
turns_keep (n ∷ ns) o m a r h = turns_keep ns (start_if_target a r o n) m a r (turn_keeps o n m a r h)

-- at its own turn: it is started already, or now
host_started : (p b : Bool) → p ≡ true → p && not b ≡ false → b ≡ true
host_started true true h e = refl
host_started true false h e = absurd (cc e)
host_started false b h e = absurd (cc h)

turn_starts : (o : Course) (n m : Node) (a : App) (r : Restart) → m.0 ≡ n.0 → is_host o.state a m ≡ true → n.0 < length o.state.waiting
    → is_started (start_if_target a r o n).state m a ≡ true
turn_starts o n m a r e host lt = by (is_target o.state a n) refl
  where
    by : (b : Bool) → is_target o.state a n ≡ b → is_started (cond b (mark o n a r) o).state m a ≡ true
    by true t = mark_starts o.state n m a r e lt
    by false f = host_started (is_host o.state a m) (is_started o.state m a) host (ap (λ k. is_target o.state a (numbered k)) e ∙ f)

turn_hosts : (o : Course) (n m : Node) (a : App) (r : Restart) → is_host (start_if_target a r o n).state a m ≡ is_host o.state a m
turn_hosts o n m a r = turn (λ p. is_host p.state a m ≡ is_host o.state a m) o n a r
    (λ _. mark_any (λ t. is_host t a m ≡ is_host o.state a m) o.state n a r (λ w restarts st ts. refl)) refl

turn_waiting : (o : Course) (n : Node) (a : App) (r : Restart) → length (start_if_target a r o n).state.waiting ≡ length o.state.waiting
unfolding with_mark
turn_waiting o n a r = turn (λ p. length p.state.waiting ≡ length o.state.waiting) o n a r
    (λ _. wanted_any (λ t. length t.waiting ≡ length o.state.waiting) (with_restart (with_waiting o.state n a) n a r) n a (standing_of o.state a)
    (λ standings timers. length_put o.state.waiting n.0 a)) refl

started_in : (start len : ℕ) (o : Course) (m : Node) (a : App) (r : Restart) → is_host o.state a m ≡ true → m.0 < length o.state.waiting
    → start ≤ m.0 → m.0 < start + len → is_started (each_target a r o (map numbered (range_with_len start len))).state m a ≡ true
started_in start zero o m a r host lt ge below = absurd (omega (arith, ge, below))
started_in start (suc len) o m a r host lt ge below = cases (nat_eq start m.0)
    (λ t. let e = same_number start m.0 t in
    turns_keep ns p m a r (turn_starts o (numbered start) m a r (sym e) host (omega (arith, e, lt))))
    (λ d. started_in (start + 1) len p m a r (turn_hosts o (numbered start) m a r ∙ host)
    (let e = turn_waiting o (numbered start) a r in omega (arith, e, lt)) (above start m.0 d ge) (omega (arith, below)))
  where
    p : Course
    p = start_if_target a r o (numbered start)

    ns : List Node
    ns = map numbered (range_with_len (start + 1) len)

    above : (i j : ℕ) → nat_eq i j ≡ false → i ≤ j → i + 1 ≤ j
    above i j d l = grind (arith, nat_tests)

pub started_at_hosts : (o : Course) (a : App) (r : Restart) (m : Node) → length o.state.waiting ≡ node_count o.state.cluster → is_host o.state a m ≡ true
    → IsNodeOf o.state.cluster m → is_started (start_all o a r).state m a ≡ true
unfolding nodes_of
started_at_hosts o a r m long host node =
    ap (λ (p : Course). is_started p.state m a) (start_all_each o a r)
    ∙ started_in 0 (node_count o.state.cluster) o m a r host (omega (arith, long, node)) (omega arith) (omega (arith, node))

-- ---- what is started keeps its restart type
turn_types : (o : Course) (n m : Node) (a : App) (r : Restart) → is_started o.state m a ≡ true
    → restart_of (start_if_target a r o n).state m a ≡ restart_of o.state m a
unfolding with_mark
turn_types o n m a r h = turn (λ p. restart_of p.state m a ≡ restart_of o.state m a) o n a r
    (λ t. wanted_any (λ s. restart_of s m a ≡ restart_of o.state m a) (with_restart (with_waiting o.state n a) n a r) n a (standing_of o.state a)
    (λ standings timers. ap (λ cells. unwrap_or (slice_get cells a.0) Temporary) (at_set_there o.state.restarts n.0 m.0 _ [] (other t))))
    refl
  where
    other : is_target o.state a n ≡ true → m.0 ≢ n.0
    other t e = both (is_started o.state n a) (ap (λ k. is_started o.state (numbered k) a) (sym e) ∙ h) (of_target o.state a n t).off

turns_types : (ns : List Node) (o : Course) (m : Node) (a : App) (r : Restart) → is_started o.state m a ≡ true
    → restart_of (each_target a r o ns).state m a ≡ restart_of o.state m a
turns_types [] o m a r h = refl
turns_types (n ∷ ns) o m a r h = turns_types ns (start_if_target a r o n) m a r (turn_keeps o n m a r h) ∙ turn_types o n m a r h

pub started_all_types : (o : Course) (a : App) (r : Restart) (m : Node) → is_started o.state m a ≡ true
    → restart_of (start_all o a r).state m a ≡ restart_of o.state m a
started_all_types o a r m h =
    ap (λ (p : Course). restart_of p.state m a) (start_all_each o a r) ∙ turns_types (nodes_of o.state.cluster) o m a r h
