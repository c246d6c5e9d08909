-- A node that ends keeps a state sound.
use Rattle.std.proofs.Common.{◌≡◌, ◌≢◌, ◌<◌, ◌≤◌, ◌+◌, ◌==◌, ℕ, zero, suc, Bool, true, false, cond, ◌||◌, List, [], ◌∷◌, length, map, fold, refl, sym, ap, ◌∙◌}
use Rattle.std.proofs.Common.{subst, arith, slice_get, slice_set, unwrap_or, Some}
use Rattle.std.specs.List.{range_with_len, list_any}
use Rattle.std.proofs.lemmas.Bool.Decides.{nat_tests}
use Rattle.std.proofs.lemmas.List.Elements.{All-nil}
use Rattle.rh_model.specs.ClusterView.{ClusterView, IsWithin, app_count, app_numbered}
use Rattle.rh_model.specs.declared.node.Node.{Node}
use Rattle.rh_model.specs.declared.node.App.{App}
use Rattle.rh_state.specs.declared.status.Mode.TheVariants.{Down}
use Rattle.rh_state.specs.declared.status.Standing.{Standing}
use Rattle.rh_state.specs.declared.status.Standing.TheVariants.{Quiet, Wanted, Running, Lost}
use Rattle.rh_state.specs.declared.status.Timer.{Timer}
use Rattle.rh_state.specs.declared.status.Timer.TheVariants.{Sync, Failover}
use Rattle.rh_state.specs.First.{configured}
use Rattle.rh_state.specs.Numbers.{same_app, same_node, apps_of}
use Rattle.rh_state.specs.Shape.{IsNodeOf, IsAppOf, IsStandingOf}
use Rattle.rh_state.specs.Tables.{row}
use Rattle.rh_state.specs.Lists.{has_app}
use Rattle.rh_state.specs.StateView.{StateView, mode_of, is_up, runs_at, waits_at, is_started, standing_of}
use Rattle.rh_state.specs.Setters.{with_standing, with_timer, without_due}
use Rattle.rh_rules.specs.Course.{Course, is_local}
use Rattle.rh_trace.specs.Validity.{TimersFit, IsSound}
use Rattle.rh_state.specs.Standings.{is_lost}
use Rattle.rh_base.proofs.Lists.{cases}
use Rattle.rh_state.proofs.FirstStates.{length-configured}
use Rattle.rh_state.proofs.Listings.{IsShaped-running, IsShaped-waiting}
use Rattle.rh_trace.proofs.Shapes.{shaped_timers, shaped_mode, shaped_permissions}
use Rattle.rh_base.proofs.Truths.{or_left, or_right, same_number, both}
use Rattle.rh_trace.proofs.Places.{at_set, at_set_here, at_set_there}
use Rattle.rh_rules.specs.NodesEnd.{timeout_of, emptied, with_configured, cleared, lost_at, lost_from, lost_if_ran, all_lost, ended}
use Rattle.rh_trace.proofs.Kept.{same_running}
use Rattle.rh_trace.proofs.Entries.{other_number, is_false, has, AreOnce, either}
use Rattle.rh_events.proofs.SoundEndingFits.{stands_here, stands_there, same_standing, fit_standing, fit_lost, fit_down}
use Rattle.rh_events.proofs.SoundEndingLists.{ListsFit, restood, lists_restood}

-- the part of soundness that an ending node keeps at each moment, and where the others run
pub record IsSoundBut (n : Node) (rest : List App) (s : StateView) : Type 0 where
  pub within : IsWithin s.cluster
  pub node : IsNodeOf s.cluster n
  pub lists : ListsFit s
  pub stands : (m : Node) (a : App) → is_local s.cluster a ≡ false → runs_at s m a ≡ true → standing_of s a ≡ Running m
  pub local : (a : App) → is_local s.cluster a ≡ true → standing_of s a ≡ Quiet
  pub timers : TimersFit s
  -- nothing runs at the node; what stands as running there is still to be lost
  pub none : (a : App) → runs_at s n a ≡ false
  pub others : (a : App) (m : Node) → standing_of s a ≡ Running m → same_node m n ≡ false → runs_at s m a ≡ true
  pub left : (a : App) (m : Node) → standing_of s a ≡ Running m → same_node m n ≡ true → has_app rest a ≡ true

-- ---- the node is cleared
-- a list of it is empty
pub emptied_row : (table : List (List App)) (n : ℕ) → row (slice_set table n []) n ≡ []
emptied_row [] n = refl
emptied_row (xs ∷ table) zero = refl
emptied_row (xs ∷ table) (suc n) = emptied_row table n

pub emptied_has : (table : List (List App)) (n m : ℕ) (a : App) → has (slice_set table n []) m a ≡ true → has table m a ≡ true
emptied_has table n m a h = at_set table n m [] []
    (λ e. sym (ap (λ xs. has_app xs a) e) ∙ h)
    (λ e v. both (has (slice_set table n []) m a) h (ap (λ xs. has_app xs a) v))

emptied_empty : (table : List (List App)) (n m : ℕ) → row table m ≡ [] → row (slice_set table n []) m ≡ []
emptied_empty table n m h = at_set table n m [] [] (λ e. e ∙ h) (λ e v. v)

-- a node that isn't up then is that node, or wasn't up
by_mode : {P : Type 0} (s : StateView) (n m : Node) → is_up (unwrap_or (slice_get (slice_set s.modes n.0 Down) m.0) Down) ≡ false → (m.0 ≡ n.0 → P)
    → (m.0 ≢ n.0 → is_up (mode_of s m) ≡ false → P) → P
by_mode s n m f here there = cases (same_node m n)
    (λ t. here (same_number m.0 n.0 t))
    (λ d. there (other_number m.0 n.0 d) (sym (ap is_up (at_set_there s.modes n.0 m.0 Down Down (other_number m.0 n.0 d))) ∙ f))

started_before : (s : StateView) (n m : Node) (a : App) → is_started (cleared s n) m a ≡ true → is_started s m a ≡ true
unfolding cleared
started_before s n m a h = either (has (slice_set s.running n.0 []) m.0 a) (has (slice_set s.waiting n.0 []) m.0 a) h
    (λ r. or_left (runs_at s m a) (waits_at s m a) (emptied_has s.running n.0 m.0 a r))
    (λ w. or_right (runs_at s m a) (waits_at s m a) (emptied_has s.waiting n.0 m.0 a w))

lists_cleared : (s : StateView) (n : Node) → IsSound s → IsNodeOf s.cluster n → ListsFit (cleared s n)
unfolding cleared
lists_cleared s n h within = record {
  shaped = shaped_mode (with_configured (emptied (without_due s (Sync n)) n) n) n Down
      (shaped_permissions (emptied (without_due s (Sync n)) n) n (configured s.cluster n) (length-configured s.cluster n)
      (IsShaped-waiting (record (without_due s (Sync n)) { running = slice_set s.running n.0 [] }) n.0 [] (IsShaped-running (without_due s (Sync n)) n.0 []
      (shaped_timers s (without_due s (Sync n)).timers h.shaped) (All-nil (IsAppOf s.cluster))) (All-nil (IsAppOf s.cluster))));
  once = record {
    running = λ m. at_set s.running n.0 m.0 [] [] (λ e. subst AreOnce (sym e) (h.once.running m))
        (λ e v. subst AreOnce (sym v) (λ i j d l k. absurd (omega arith)));
    waiting = λ m. at_set s.waiting n.0 m.0 [] [] (λ e. subst AreOnce (sym e) (h.once.waiting m))
        (λ e v. subst AreOnce (sym v) (λ i j d l k. absurd (omega arith)));
    apart = λ m a w. is_false _ (λ r. both (runs_at s m a) (emptied_has s.running n.0 m.0 a r) (h.once.apart m a (emptied_has s.waiting n.0 m.0 a w)));
  };
  idle = record {
    running = λ m f. by_mode s n m f (λ e. ap (λ k. row (slice_set s.running n.0 []) k) e ∙ emptied_row s.running n.0)
        (λ d g. emptied_empty s.running n.0 m.0 (h.idle.running m g));
    waiting = λ m f. by_mode s n m f (λ e. ap (λ k. row (slice_set s.waiting n.0 []) k) e ∙ emptied_row s.waiting n.0)
        (λ d g. emptied_empty s.waiting n.0 m.0 (h.idle.waiting m g));
    permissions = λ m of f. by_mode s n m f
        (λ e. ap (λ k. row (slice_set s.allowed n.0 (configured s.cluster n)) k) e
        ∙ at_set_here s.allowed n.0 (configured s.cluster n) [] (let l = h.shaped.allowed in omega (arith, l, within))
        ∙ ap (λ k. configured s.cluster (record { 0 = k })) (sym e))
        (λ d g. at_set_there s.allowed n.0 m.0 (configured s.cluster n) [] d ∙ h.idle.permissions m of g);
  };
  listed = λ m a t. h.standing.listed m a (started_before s n m a t);
}

-- an application that stands as running has a number of the cluster
stands_within : (xs : List Standing) (i : ℕ) (m : Node) → unwrap_or (slice_get xs i) Quiet ≡ Running m → i < length xs
stands_within [] i m h = cc
stands_within (x ∷ xs) zero m h = omega arith
stands_within (x ∷ xs) (suc i) m h = let l = stands_within xs i m h in omega (arith, l)

has_range : (start len i : ℕ) → start ≤ i → i < start + len → list_any (λ j. i == j) (range_with_len start len) ≡ true
has_range start zero i ge lt = absurd (omega arith)
has_range start (suc len) i ge lt = cases (i == start)
    (λ t. or_left (i == start) _ t)
    (λ d. or_right (i == start) _ (has_range (start + 1) len i (above start i d ge) (omega arith)))
  where
    above : (start i : ℕ) → (i == start) ≡ false → start ≤ i → start + 1 ≤ i
    above start i d ge = grind (arith, nat_tests)

any_map : (xs : List ℕ) (a : App) → has_app (map app_numbered xs) a ≡ list_any (λ j. a.0 == j) xs
any_map [] a = refl
any_map (x ∷ xs) a = ap (λ b. (a.0 == x) || b) (any_map xs a)

has_apps : (c : ClusterView) (a : App) → a.0 < app_count c → has_app (apps_of c) a ≡ true
unfolding apps_of
has_apps c a lt = any_map (range_with_len 0 (app_count c)) a ∙ has_range 0 (app_count c) a.0 (omega arith) (omega arith)

sound_cleared : (s : StateView) (n : Node) → IsSound s → IsNodeOf s.cluster n → IsSoundBut n (apps_of s.cluster) (cleared s n)
unfolding cleared
sound_cleared s n h within = record {
  within = h.within;
  node = within;
  lists = lists_cleared s n h within;
  stands = λ m a distributed r. h.standing.stands m a distributed (emptied_has s.running n.0 m.0 a r);
  local = h.standing.local;
  timers = let f = fit_down s n h.timers in record { sync = f.sync; failover = f.failover; once = f.once; order = f.order; due = f.due };
  none = λ a. ap (λ xs. has_app xs a) (emptied_row s.running n.0);
  others = λ a m e d. ap (λ xs. has_app xs a) (at_set_there s.running n.0 m.0 [] [] (other_number m.0 n.0 d)) ∙ h.runs.runs a m e;
  left = λ a m e t. has_apps s.cluster a (let l = stands_within s.standings a.0 m e in let k = h.shaped.standings in omega (arith, l, k));
}

-- ---- each application that ran there is lost

-- one that doesn't stand as running there is to be lost no more
not_left : (n : Node) (s : StateView) (a : App) (rest : List App) → ((m : Node) → standing_of s a ≡ Running m → same_node m n ≡ false)
    → IsSoundBut n (a ∷ rest) s → IsSoundBut n rest s
not_left n s a rest elsewhere h = record {
  within = h.within;
  node = h.node;
  lists = h.lists;
  stands = h.stands;
  local = h.local;
  timers = h.timers;
  none = h.none;
  others = h.others;
  left = λ b m e t. either (same_app b a) (has_app rest b) (h.left b m e t)
      (λ same. both (same_node m n) t (elsewhere m (sym (same_standing s a b same) ∙ e)))
      (λ later. later);
}

-- one that stood so stands otherwise
stands_otherwise : (n k : Node) (s : StateView) (a : App) (rest : List App) (st : Standing) (timers : List (ℕ × Timer)) → ((m : Node) → st ≡ Running m → ⊥)
    → IsStandingOf s.cluster st
    → standing_of s a ≡ Running k → same_node k n ≡ true → TimersFit (restood s a st timers) → IsSoundBut n (a ∷ rest) s
    → IsSoundBut n rest (restood s a st timers)
stands_otherwise n k s a rest st timers stops known stood here fit h = record {
  within = h.within;
  node = h.node;
  lists = lists_restood s a st timers known h.lists;
  stands = λ m b distributed r. cases (same_app b a)
      (λ t. let e : standing_of s a ≡ Running m = sym (same_standing s a b t) ∙ h.stands m b distributed r in
      let at : k.0 ≡ m.0 = ap (λ (x : Node). x.0) (same_running k m (sym stood ∙ e)) in
      both (runs_at s n b) (ap (λ i. has s.running i b) (sym (same_number k.0 n.0 here) ∙ at) ∙ r) (h.none b))
      (λ d. stands_there s a b st d ∙ h.stands m b distributed r);
  local = λ b l. cases (same_app b a)
      (λ t. absurd (never_quiet (sym stood ∙ sym (same_standing s a b t) ∙ h.local b l)))
      (λ d. stands_there s a b st d ∙ h.local b l);
  timers = fit;
  none = h.none;
  others = λ b m e d. cases (same_app b a)
      (λ t. absurd (stops m (sym (stands_here s a b st lt t) ∙ e)))
      (λ f. h.others b m (sym (stands_there s a b st f) ∙ e) d);
  left = λ b m e t. cases (same_app b a)
      (λ f. absurd (stops m (sym (stands_here s a b st lt f) ∙ e)))
      (λ f. either (same_app b a) (has_app rest b) (h.left b m (sym (stands_there s a b st f) ∙ e) t)
      (λ same. both (same_app b a) same f)
      (λ later. later));
}
  where
    lt : a.0 < length s.standings
    lt = stands_within s.standings a.0 k stood

    never_quiet : Running k ≡ Quiet → ⊥
    never_quiet e = cc

lost_here : (n k : Node) (s : StateView) (a : App) (rest : List App) → standing_of s a ≡ Running k → same_node k n ≡ true → IsSoundBut n (a ∷ rest) s
    → IsSoundBut n rest (lost_at s n a)
lost_here n k s a rest stood here h = by (timeout_of s.cluster a == 0)
  where
    wanted_stops : (m : Node) → Wanted (Some n) ≡ Running m → ⊥
    wanted_stops m e = cc

    lost_stops : (m : Node) → Lost n ≡ Running m → ⊥
    lost_stops m e = cc

    by : (b : Bool) → IsSoundBut n rest (cond b (with_standing s a (Wanted (Some n)))
        (with_timer (with_standing s a (Lost n)) (s.time + timeout_of s.cluster a) (Failover a)))
    by true = stands_otherwise n k s a rest (Wanted (Some n)) s.timers wanted_stops h.node stood here
        (fit_standing s a (Wanted (Some n)) (sym (ap is_lost stood)) h.timers) h
    by false = stands_otherwise n k s a rest (Lost n) (with_timer s (s.time + timeout_of s.cluster a) (Failover a)).timers lost_stops h.node stood here
        (fit_lost s a (Lost n) (s.time + timeout_of s.cluster a) (stands_within s.standings a.0 k stood) refl (ap is_lost stood) (omega arith) h.timers) h

one_lost : (n : Node) (s : StateView) (a : App) (rest : List App) → IsSoundBut n (a ∷ rest) s → IsSoundBut n rest (lost_if_ran n s a)
unfolding lost_if_ran
one_lost n s a rest h = by (standing_of s a) refl
  where
    by : (st : Standing) → standing_of s a ≡ st → IsSoundBut n rest (lost_from s n a st)
    by Quiet e = not_left n s a rest (λ m r. cc (e, r)) h
    by (Wanted from) e = not_left n s a rest (λ m r. cc (e, r)) h
    by (Lost m) e = not_left n s a rest (λ m r. cc (e, r)) h
    by (Running k) e = there (same_node k n) refl
      where
        there : (b : Bool) → same_node k n ≡ b → IsSoundBut n rest (cond b (lost_at s n a) s)
        there true t = lost_here n k s a rest e t h
        there false d = not_left n s a rest (λ m r. ap (λ (x : Node). same_node x n) (same_running m k (sym r ∙ e)) ∙ d) h

each_lost : (n : Node) (rest : List App) (s : StateView) → IsSoundBut n rest s → IsSoundBut n [] (fold (lost_if_ran n) s rest)
each_lost n [] s h = h
each_lost n (a ∷ rest) s h = each_lost n rest (lost_if_ran n s a) (one_lost n s a rest h)

-- nothing is left to be lost
sound_again : (n : Node) (s : StateView) → IsSoundBut n [] s → IsSound s
sound_again n s h = record {
  within = h.within;
  shaped = h.lists.shaped;
  once = h.lists.once;
  idle = h.lists.idle;
  standing = record { listed = h.lists.listed; stands = h.stands; local = h.local };
  runs = record { runs = λ a m e. cases (same_node m n) (λ t. absurd (nowhere a (h.left a m e t))) (λ d. h.others a m e d) };
  timers = h.timers;
}
  where
    nowhere : (a : App) → has_app [] a ≡ true → ⊥
    nowhere a e = cc

pub sound_ended : (o : Course) (n : Node) → IsSound o.state → IsNodeOf o.state.cluster n → IsSound (ended o n).state
unfolding ended all_lost cleared
sound_ended o n h within =
    let t = each_lost n (apps_of o.state.cluster) (cleared o.state n) (sound_cleared o.state n h within) in
    let u = sound_again n (fold (lost_if_ran n) (cleared o.state n) (apps_of o.state.cluster)) t in
    record { within = u.within; shaped = u.shaped; once = u.once; idle = u.idle; standing = u.standing; runs = u.runs; timers = u.timers }
