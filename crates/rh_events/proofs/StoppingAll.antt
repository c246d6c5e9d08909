-- An application that is stopped at all its nodes, one node after the other.
use Rattle.std.proofs.Common.{◌≡◌, ◌≢◌, ◌<◌, ◌≤◌, ◌+◌, ℕ, zero, suc, Bool, true, false, cond, not, List, [], ◌∷◌, fold, map, length, slice_set, nat_eq, refl, sym, ap}
use Rattle.std.proofs.Common.{◌∙◌, arith, slice_get, subst, unwrap_or}
use Rattle.std.specs.List.{range_with_len}
use Rattle.std.proofs.lemmas.List.FromFn.{map-range_with_len_more}
use Rattle.std.proofs.lemmas.List.Sums.{fold_push}
use Rattle.std.proofs.lemmas.Bool.Decides.{nat_tests}
use Rattle.rh_model.specs.ClusterView.{node_count, numbered}
use Rattle.rh_model.specs.declared.node.Node.{Node}
use Rattle.rh_model.specs.declared.node.App.{App}
use Rattle.rh_state.specs.declared.status.Standing.TheVariants.{Quiet, Running}
use Rattle.rh_state.specs.declared.status.Timer.TheVariants.{Failover}
use Rattle.rh_state.specs.Numbers.{same_app, nodes_of}
use Rattle.rh_state.specs.Shape.{IsNodeOf, IsAppOf}
use Rattle.rh_state.specs.Lists.{has_app, without_app}
use Rattle.rh_state.specs.StateView.{StateView, running_at, waiting_at, runs_at, waits_at, is_started, standing_of}
use Rattle.rh_state.specs.Setters.{without_due, unlisted}
use Rattle.rh_base.proofs.Lists.{cases}
use Rattle.rh_rules.specs.declared.notice.Notice.{Notice}
use Rattle.rh_rules.specs.declared.notice.Notice.TheVariants as notice
use Rattle.rh_rules.specs.Course.{Course, told, now_in, is_local}
use Rattle.rh_trace.specs.Validity.{IsSound}
use Rattle.rh_trace.proofs.Behind.{after_notices, told_after, fold_after}
use Rattle.rh_base.proofs.Truths.{same_number, both}
use Rattle.rh_trace.proofs.Entries.{is_false, taken, has, taken_has, taken_not, taken_keeps, row_there}
use Rattle.rh_trace.proofs.Every.{filter_yes}
use Rattle.rh_trace.proofs.Places.{at_set, at_set_here, at_set_there}
use Rattle.rh_trace.proofs.Kept.{at_pair}
use Rattle.rh_rules.specs.Everywhere.{leave_at, left_everywhere, quietened, stop_all}
use Rattle.rh_events.proofs.Emptying.{set_same}
use Rattle.rh_events.proofs.Fields.{SameNodes}
use Rattle.rh_events.proofs.SoundMarks.{not_started, neither}
use Rattle.rh_events.proofs.SoundEndingFits.{stands_here, stands_there, fit_found}
use Rattle.rh_events.proofs.SoundEndingLists.{ListsFit, lists_fit, lists_unlisted, lists_restood}

-- ---- one node
-- where an application is in no list, it leaves none
without_none : (xs : List App) (a : App) → has_app xs a ≡ false → without_app xs a ≡ xs
without_none [] a h = refl
without_none (x ∷ xs) a h =
    let apart = not_started (same_app a x) (has_app xs a) h in
    filter_yes (λ b. not (same_app a b)) x xs (ap not apart.0) ∙ ap (λ ys. x ∷ ys) (without_none xs a apart.1)

off_leaves : (s : StateView) (n : Node) (a : App) → is_started s n a ≡ false → unlisted s n a ≡ s
off_leaves s n a off =
    let apart = not_started (runs_at s n a) (waits_at s n a) off in
    λ i. record s {
      running = (ap (slice_set s.running n.0) (without_none (running_at s n) a apart.0) ∙ set_same s.running n.0 []) i;
      waiting = (ap (slice_set s.waiting n.0) (without_none (waiting_at s n) a apart.1) ∙ set_same s.waiting n.0 []) i;
    }

pub leave_off : (o : Course) (n : Node) (a : App) → is_started o.state n a ≡ false → o ≡ leave_at a o n
leave_off o n a off =
    sym (ap (λ b. cond b (told (now_in o (unlisted o.state n a)) (notice.Stopped a n)) (now_in o (unlisted o.state n a)))
    (not_started (runs_at o.state n a) (waits_at o.state n a) off).0
    ∙ ap (now_in o) (off_leaves o.state n a off))

-- what it does to the state
left_here : (o : Course) (n : Node) (a : App) → (leave_at a o n).state ≡ unlisted o.state n a
left_here o n a = by (runs_at o.state n a)
  where
    by : (b : Bool) → (cond b (told (now_in o (unlisted o.state n a)) (notice.Stopped a n)) (now_in o (unlisted o.state n a))).state ≡ unlisted o.state n a
    by true = refl
    by false = refl

pub leave_cluster : (o : Course) (n : Node) (a : App) → (leave_at a o n).state.cluster ≡ o.state.cluster
leave_cluster o n a = ap (λ (s : StateView). s.cluster) (left_here o n a)

leave_after : (base : List Notice) (a : App) (o : Course) (n : Node) → leave_at a (after_notices base o) n ≡ after_notices base (leave_at a o n)
leave_after base a o n = by (runs_at o.state n a)
  where
    by : (b : Bool) → cond b (told (now_in (after_notices base o) (unlisted o.state n a)) (notice.Stopped a n)) (now_in (after_notices base o) (unlisted o.state n a))
        ≡ after_notices base (cond b (told (now_in o (unlisted o.state n a)) (notice.Stopped a n)) (now_in o (unlisted o.state n a)))
    by true = told_after base (now_in o (unlisted o.state n a)) (notice.Stopped a n)
    by false = refl

-- ---- the first i nodes
abbrev pub left_below : Course → App → ℕ → Course
left_below o a i = fold (leave_at a) o (map numbered (range_with_len 0 i))

pub left_more : (o : Course) (a : App) (i : ℕ) → left_below o a (i + 1) ≡ leave_at a (left_below o a i) (numbered i)
left_more o a i =
    ap (λ ns. fold (leave_at a) o ns) (map-range_with_len_more numbered 0 i i (omega arith))
    ∙ fold_push (leave_at a) o (map numbered (range_with_len 0 i)) (numbered i)

pub left_below_all : (o : Course) (a : App) (i : ℕ) → i ≡ node_count o.state.cluster → left_below o a i ≡ left_everywhere o a
unfolding left_everywhere nodes_of
left_below_all o a i e = ap (left_below o a) e

-- ---- all of them
abbrev unlisted_at : App → StateView → Node → StateView
unlisted_at a s n = unlisted s n a

abbrev unlisted_from : App → StateView → List Node → StateView
unlisted_from a s ns = fold (unlisted_at a) s ns

left_state : (a : App) (ns : List Node) (o : Course) → (fold (leave_at a) o ns).state ≡ unlisted_from a o.state ns
left_state a [] o = refl
left_state a (n ∷ ns) o = left_state a ns (leave_at a o n) ∙ ap (λ s. unlisted_from a s ns) (left_here o n a)

-- only lists change
only_lists : (a : App) (ns : List Node) (s : StateView)
    → unlisted_from a s ns ≡ record s { running = (unlisted_from a s ns).running; waiting = (unlisted_from a s ns).waiting }
only_lists a [] s = refl
only_lists a (n ∷ ns) s = only_lists a ns (unlisted s n a)

lists_left : (a : App) (ns : List Node) (s : StateView) → ListsFit s → ListsFit (unlisted_from a s ns)
lists_left a [] s h = h
lists_left a (n ∷ ns) s h = lists_left a ns (unlisted s n a) (lists_unlisted s n a h)

-- what runs did so before, and another application still does
ran_before : (a : App) (ns : List Node) (s : StateView) (m : Node) (b : App) → runs_at (unlisted_from a s ns) m b ≡ true → runs_at s m b ≡ true
ran_before a [] s m b h = h
ran_before a (n ∷ ns) s m b h = taken_has s.running n.0 m.0 a b (ran_before a ns (unlisted s n a) m b h)

waited_before : (a : App) (ns : List Node) (s : StateView) (m : Node) (b : App) → waits_at (unlisted_from a s ns) m b ≡ true → waits_at s m b ≡ true
waited_before a [] s m b h = h
waited_before a (n ∷ ns) s m b h = taken_has s.waiting n.0 m.0 a b (waited_before a ns (unlisted s n a) m b h)

still_runs : (a : App) (ns : List Node) (s : StateView) (m : Node) (b : App) → same_app b a ≡ false → runs_at s m b ≡ true
    → runs_at (unlisted_from a s ns) m b ≡ true
still_runs a [] s m b d h = h
still_runs a (n ∷ ns) s m b d h = still_runs a ns (unlisted s n a) m b d (taken_keeps s.running n.0 m.0 a b d h)

-- the application is in no list of any of them
left_there : (a : App) (start len : ℕ) (s : StateView) (m : Node) → ListsFit s → IsNodeOf s.cluster m → start ≤ m.0 → m.0 < start + len
    → is_started (unlisted_from a s (map numbered (range_with_len start len))) m a ≡ false
left_there a start zero s m h node ge lt = absurd (omega (arith, ge, lt))
left_there a start (suc len) s m h node ge lt = cases (nat_eq start m.0)
    (λ t. gone (same_number start m.0 t))
    (λ d. left_there a (start + 1) len (unlisted s (numbered start) a) m (lists_unlisted s (numbered start) a h) node (above start m.0 d ge) (omega (arith, lt)))
  where
    above : (i j : ℕ) → nat_eq i j ≡ false → i ≤ j → i + 1 ≤ j
    above i j d l = grind (arith, nat_tests)

    ns : List Node
    ns = map numbered (range_with_len (start + 1) len)

    gone : start ≡ m.0 → is_started (unlisted_from a (unlisted s (numbered start) a) ns) m a ≡ false
    gone e =
        let t : StateView = unlisted s (numbered start) a in
        neither (runs_at (unlisted_from a t ns) m a) (waits_at (unlisted_from a t ns) m a)
        (is_false _ (λ r. both (has (taken s.running m.0 a) m.0 a)
        (ap (λ k. has (taken s.running k a) m.0 a) (sym e) ∙ ran_before a ns t m a r)
        (taken_not s.running m.0 a (let k = h.shaped.running in omega (arith, k, node)))))
        (is_false _ (λ w. both (has (taken s.waiting m.0 a) m.0 a)
        (ap (λ k. has (taken s.waiting k a) m.0 a) (sym e) ∙ waited_before a ns t m a w)
        (taken_not s.waiting m.0 a (let k = h.shaped.waiting in omega (arith, k, node)))))

-- nor of one that isn't there
pub left_nowhere : (o : Course) (a : App) (m : Node) → ListsFit o.state → is_started (left_everywhere o a).state m a ≡ false
unfolding left_everywhere nodes_of
left_nowhere o a m h =
    subst (λ t. is_started t m a ≡ false) (sym (left_state a ns o))
    (neither (runs_at t m a) (waits_at t m a)
    (is_false _ (λ r. both (runs_at t m a) r (not_started (runs_at t m a) (waits_at t m a) (there (inside t.running fit.shaped.running r))).0))
    (is_false _ (λ w. both (waits_at t m a) w (not_started (runs_at t m a) (waits_at t m a) (there (inside t.waiting fit.shaped.waiting w))).1)))
  where
    ns : List Node
    ns = map numbered (range_with_len 0 (node_count o.state.cluster))

    t : StateView
    t = unlisted_from a o.state ns

    fit : ListsFit t
    fit = lists_left a ns o.state h

    same : node_count t.cluster ≡ node_count o.state.cluster
    same = ap (λ (s : StateView). node_count s.cluster) (only_lists a ns o.state)

    inside : (table : List (List App)) → length table ≡ node_count t.cluster → has table m.0 a ≡ true → m.0 < node_count o.state.cluster
    inside table long h = let below = row_there table m.0 a h in let e = same in omega (arith, long, below, e)

    there : m.0 < node_count o.state.cluster → is_started t m a ≡ false
    there lt = left_there a 0 (node_count o.state.cluster) o.state m h lt (omega arith) (omega (arith, lt))

-- ---- a sound state stays sound: what runs nowhere is quiet, and has no timer
abbrev relisted : StateView → List (List App) → List (List App) → StateView
relisted s running waiting = record s { running = running; waiting = waiting }

sound_quietened : (s : StateView) (a : App) (running waiting : List (List App)) → is_local s.cluster a ≡ false → IsAppOf s.cluster a
    → ListsFit (relisted s running waiting)
    → ((m : Node) (b : App) → has running m.0 b ≡ true → runs_at s m b ≡ true)
    → ((m : Node) (b : App) → same_app b a ≡ false → runs_at s m b ≡ true → has running m.0 b ≡ true)
    → ((m : Node) → has running m.0 a ≡ false)
    → IsSound s → IsSound (quietened (relisted s running waiting) a)
sound_quietened s a running waiting distributed app lists had keeps gone h =
    let t : StateView = relisted s running waiting in
    let l = lists_restood t a Quiet (without_due s (Failover a)).timers tt lists in
    let fit = fit_found s a Quiet in_standings refl h.timers in
    record {
      within = h.within;
      shaped = l.shaped;
      once = l.once;
      idle = l.idle;
      standing = record {
        listed = l.listed;
        stands = λ m b free r. cases (same_app b a)
            (λ e. both (has running m.0 a) (sym (at_pair running m.0 m.0 a b refl e) ∙ r) (gone m))
            (λ d. stands_there s a b Quiet d ∙ h.standing.stands m b free (had m b r));
        local = λ b loc. cases (same_app b a)
            (λ e. both (is_local s.cluster b) loc (ap (λ k. is_local s.cluster (record { 0 = k })) (same_number b.0 a.0 e) ∙ distributed))
            (λ d. stands_there s a b Quiet d ∙ h.standing.local b loc);
      };
      runs = record {
        runs = λ b m e. cases (same_app b a)
            (λ same. absurd (never m (sym (stands_here s a b Quiet in_standings same) ∙ e)))
            (λ d. keeps m b d (h.runs.runs b m (sym (stands_there s a b Quiet d) ∙ e)));
      };
      timers = record { sync = fit.sync; failover = fit.failover; once = fit.once; order = fit.order; due = fit.due };
    }
  where
    in_standings : a.0 < length s.standings
    in_standings = let e = h.shaped.standings in omega (arith, e, app)

    never : (m : Node) → Quiet ≡ Running m → ⊥
    never m e = cc

pub sound_stopped_all : (o : Course) (a : App) → is_local o.state.cluster a ≡ false → IsAppOf o.state.cluster a → IsSound o.state → IsSound (stop_all o a).state
unfolding stop_all left_everywhere
sound_stopped_all o a distributed app h =
    let s : StateView = o.state in
    let ns = nodes_of s.cluster in
    let t : StateView = unlisted_from a s ns in
    let whole = left_state a ns o ∙ only_lists a ns s in
    subst (λ u. IsSound (quietened u a)) (sym whole)
    (sound_quietened s a t.running t.waiting distributed app
    (subst ListsFit (only_lists a ns s) (lists_left a ns s (lists_fit s h)))
    (ran_before a ns s)
    (still_runs a ns s)
    (λ m. ap (λ (u : StateView). runs_at u m a) (sym (left_state a ns o))
    ∙ (not_started (runs_at (left_everywhere o a).state m a) (waits_at (left_everywhere o a).state m a) (left_nowhere o a m (lists_fit s h))).0)
    h)

-- ---- the rest is as it was
pub stopped_all_same : (o : Course) (a : App) → SameNodes o.state (stop_all o a).state
unfolding stop_all left_everywhere
stopped_all_same o a =
    let ns = nodes_of o.state.cluster in
    subst (λ (s : StateView). SameNodes o.state (quietened s a)) (sym (left_state a ns o ∙ only_lists a ns o.state))
    (record { cluster = refl; time = refl; modes = refl; incarnations = refl })

each_leave_after : (base : List Notice) (a : App) (o : Course) (ns : List Node)
    → fold (leave_at a) (after_notices base o) ns ≡ after_notices base (fold (leave_at a) o ns)
each_leave_after base a o ns = fold_after base (leave_at a) (leave_after base a) o ns

pub stop_all_after : (base : List Notice) (o : Course) (a : App) → stop_all (after_notices base o) a ≡ after_notices base (stop_all o a)
unfolding stop_all left_everywhere
stop_all_after base o a = ap (λ (p : Course). now_in p (quietened p.state a)) (each_leave_after base a o (nodes_of o.state.cluster))

-- and no mark is set or forgotten
left_marks : (a : App) (ns : List Node) (o : Course) → (fold (leave_at a) o ns).marked ≡ o.marked
left_marks a [] o = refl
left_marks a (n ∷ ns) o = left_marks a ns (leave_at a o n) ∙ by (runs_at o.state n a)
  where
    by : (b : Bool) → (cond b (told (now_in o (unlisted o.state n a)) (notice.Stopped a n)) (now_in o (unlisted o.state n a))).marked ≡ o.marked
    by true = refl
    by false = refl

pub stop_all_marks : (o : Course) (a : App) → (stop_all o a).marked ≡ o.marked
unfolding stop_all left_everywhere
stop_all_marks o a = left_marks a (nodes_of o.state.cluster) o

-- ---- behind it the application is started nowhere and quiet, and the others stand as they did
pub stopped_all_nowhere : (o : Course) (a : App) (m : Node) → ListsFit o.state → is_started (stop_all o a).state m a ≡ false
unfolding stop_all
stopped_all_nowhere o a m h = left_nowhere o a m h

stopped_all_standings : (o : Course) (a : App) → (stop_all o a).state.standings ≡ slice_set o.state.standings a.0 Quiet
unfolding stop_all left_everywhere
stopped_all_standings o a =
    let ns = nodes_of o.state.cluster in
    ap (λ (s : StateView). slice_set s.standings a.0 Quiet) (left_state a ns o ∙ only_lists a ns o.state)

pub stopped_all_quiet : (o : Course) (a : App) → a.0 < length o.state.standings → standing_of (stop_all o a).state a ≡ Quiet
stopped_all_quiet o a lt =
    ap (λ standings. unwrap_or (slice_get standings a.0) Quiet) (stopped_all_standings o a) ∙ at_set_here o.state.standings a.0 Quiet Quiet lt

pub stop_all_of_another : (o : Course) (b a : App) → a.0 ≢ b.0 → standing_of (stop_all o b).state a ≡ standing_of o.state a
stop_all_of_another o b a other =
    ap (λ standings. unwrap_or (slice_get standings a.0) Quiet) (stopped_all_standings o b) ∙ at_set_there o.state.standings b.0 a.0 Quiet Quiet other

pub quiet_stays_quiet : (o : Course) (b a : App) → standing_of o.state a ≡ Quiet → standing_of (stop_all o b).state a ≡ Quiet
quiet_stays_quiet o b a is =
    ap (λ standings. unwrap_or (slice_get standings a.0) Quiet) (stopped_all_standings o b)
    ∙ at_set o.state.standings b.0 a.0 Quiet Quiet (λ same. same ∙ is) (λ here v. v)
