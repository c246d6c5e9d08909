-- From one state to another, no more local applications can start.
use Rattle.std.proofs.Common.{◌≡◌, ◌+◌, ◌==◌, ◌&&◌, ℕ, zero, suc, Bool, true, false, cond, List, [], ◌∷◌, fold, Some, None, refl, sym, ap, ◌∙◌, slice_get, slice_set, unwrap_or}
use Rattle.std.specs.List.{list_all}
use Rattle.std.proofs.lemmas.Bool.{and_parts}
use Rattle.rh_model.specs.ClusterView.{ClusterView, is_platform, deps_of, sync_wait_of}
use Rattle.rh_model.specs.declared.node.Node.{Node}
use Rattle.rh_model.specs.declared.node.App.{App}
use Rattle.rh_model.specs.declared.settings.Dep.{Dep}
use Rattle.rh_model.specs.declared.settings.Dep.TheVariants.{Listed, Platform}
use Rattle.rh_model.specs.declared.settings.SyncWait.{SyncWait}
use Rattle.rh_model.specs.declared.settings.SyncWait.TheVariants.{Unset, After, Forever}
use Rattle.rh_state.specs.declared.status.Mode.TheVariants.{Waiting}
use Rattle.rh_state.specs.declared.status.Standing.{Standing}
use Rattle.rh_state.specs.declared.status.Standing.TheVariants.{Quiet, Wanted, Running, Lost}
use Rattle.rh_state.specs.declared.status.Timer.{Timer}
use Rattle.rh_state.specs.declared.status.Timer.TheVariants.{Failover}
use Rattle.rh_state.specs.First.{configured}
use Rattle.rh_state.specs.Lists.{has_app}
use Rattle.rh_state.specs.Numbers.{same_node, apps_of}
use Rattle.rh_state.specs.Setters.{with_mode, with_incarnation, with_allowed, with_standing, with_timer, without_due, unlisted}
use Rattle.rh_state.specs.StateView.{StateView, incarnation_of, runs_at, waits_at, is_allowed, standing_of}
use Rattle.rh_state.specs.Tables.{row, cell, with_cell}
use Rattle.rh_rules.specs.Course.{is_local}
use Rattle.rh_rules.specs.Placing.{dep_runs, deps_run}
use Rattle.rh_rules.specs.Moves.{can_start, with_stopped}
use Rattle.rh_rules.specs.Marking.{with_distributed_standing}
use Rattle.rh_rules.specs.NodesStart.{with_sync_timer, booted}
use Rattle.rh_rules.specs.NodesEnd.{timeout_of, cleared, lost_at, lost_from, lost_if_ran, all_lost, wanted_if_lost}
use Rattle.rh_rules.specs.ByHand.{is_started_anywhere, quiet_if_nowhere}
use Rattle.rh_base.proofs.Truths.{both, same_number}
use Rattle.rh_trace.proofs.Entries.{has, taken, taken_has, put_has}
use Rattle.rh_trace.proofs.Places.{at_set}
use Rattle.rh_events.proofs.SoundEnding.{emptied_row, emptied_has}

-- ---- what an application needs to start
-- in the same cluster, where no more applications run, a dependency that runs did so before
module _ (s t : StateView) (cluster : t.cluster ≡ s.cluster) (ran : (n : Node) (a : App) → runs_at t n a ≡ true → runs_at s n a ≡ true) where
  dep_ran : (n : Node) (d : Dep) → dep_runs t n d ≡ true → dep_runs s n d ≡ true
  dep_ran n (Listed b) e = ran n b e
  dep_ran n (Platform p) e = ap (λ (c : ClusterView). is_platform c n p) (sym cluster) ∙ e

  each_ran : (n : Node) (deps : List Dep) → list_all (dep_runs t n) deps ≡ true → list_all (dep_runs s n) deps ≡ true
  each_ran n [] e = refl
  each_ran n (d ∷ deps) e = let h = and_parts (dep_runs t n d) _ e in λ i. dep_ran n d h.0 i && each_ran n deps h.1 i

  deps_ran : (n : Node) (a : App) → deps_run t n a ≡ true → deps_run s n a ≡ true
  unfolding deps_run
  deps_ran n a e = each_ran n (deps_of s.cluster a) (ap (λ (c : ClusterView). list_all (dep_runs t n) (deps_of c a)) (sym cluster) ∙ e)

  -- so one that can start could start, if it was permitted
  pub could_start : (n : Node) (a : App) → is_allowed s n a ≡ true → can_start t n a ≡ true → can_start s n a ≡ true
  unfolding can_start
  could_start n a free start =
      let h = and_parts (is_local t.cluster a) _ start in
      let k = and_parts (is_allowed t n a) _ h.1 in
      λ i. (ap (λ (c : ClusterView). is_local c a) (sym cluster) ∙ h.0) i && (free i && deps_ran n a k.1 i)

pub is_permitted : (s : StateView) (n : Node) (a : App) → can_start s n a ≡ true → is_allowed s n a ≡ true
unfolding can_start
is_permitted s n a start = (and_parts (is_allowed s n a) _ (and_parts (is_local s.cluster a) _ start).1).0

-- ---- no more can start
-- what waits and is permitted in t did and was so in s, and what runs in t ran in s
pub record StartsFewer (s t : StateView) : Type 0 where
  pub cluster : t.cluster ≡ s.cluster
  pub waited : (n : Node) (a : App) → waits_at t n a ≡ true → is_allowed t n a ≡ true → (waits_at s n a ≡ true) × (is_allowed s n a ≡ true)
  pub ran : (n : Node) (a : App) → runs_at t n a ≡ true → runs_at s n a ≡ true

pub fewer_then : (s t u : StateView) → StartsFewer s t → StartsFewer t u → StartsFewer s u
fewer_then s t u h k = record {
  cluster = k.cluster ∙ h.cluster;
  waited = λ n a w p. let then = k.waited n a w p in h.waited n a then.0 then.1;
  ran = λ n a r. h.ran n a (k.ran n a r);
}

-- modes, incarnations, restart types, standings, time and timers don't matter
pub alike : (s t : StateView) → t.cluster ≡ s.cluster → t.waiting ≡ s.waiting → t.running ≡ s.running → t.allowed ≡ s.allowed → StartsFewer s t
alike s t cluster waiting running allowed = record {
  cluster = cluster;
  waited = λ n a w p. (ap (λ table. has table n.0 a) (sym waiting) ∙ w, ap (λ table. cell table n.0 a.0 false) (sym allowed) ∙ p);
  ran = λ n a r. ap (λ table. has table n.0 a) (sym running) ∙ r;
}

pub restood_fewer : (s : StateView) (standings : List Standing) (timers : List (ℕ × Timer))
    → StartsFewer s (record s { standings = standings; timers = timers })
restood_fewer s standings timers = alike s (record s { standings = standings; timers = timers }) refl refl refl refl

-- ---- a node boots or ends
pub booted_fewer : (s : StateView) (n : Node) → StartsFewer s (booted s n)
unfolding booted
booted_fewer s n = by (sync_wait_of s.cluster n)
  where
    t : StateView
    t = with_mode (with_incarnation s n (incarnation_of s n + 1)) n Waiting

    by : (wait : SyncWait) → StartsFewer s (with_sync_timer t n wait)
    by Unset = alike s t refl refl refl refl
    by Forever = alike s t refl refl refl refl
    by (After ms) = alike s (with_sync_timer t n (After ms)) refl refl refl refl

-- nothing waits at the node any more, and at the others the permissions are as they were
cleared_fewer : (s : StateView) (n : Node) → StartsFewer s (cleared s n)
unfolding cleared
cleared_fewer s n = record {
  cluster = refl;
  waited = λ m a w p. (
    emptied_has s.waiting n.0 m.0 a w,
    at_set s.allowed n.0 m.0 (configured s.cluster n) []
        (λ same. sym (ap (λ cells. unwrap_or (slice_get cells a.0) false) same) ∙ p)
        (λ here v. both (has (slice_set s.waiting n.0 []) m.0 a) w
        (ap (λ k. has (slice_set s.waiting n.0 []) k a) here ∙ ap (λ apps. has_app apps a) (emptied_row s.waiting n.0))),
  );
  ran = λ m a r. emptied_has s.running n.0 m.0 a r;
}

one_lost_fewer : (n : Node) (s : StateView) (a : App) → StartsFewer s (lost_if_ran n s a)
unfolding lost_if_ran
one_lost_fewer n s a = by (standing_of s a)
  where
    wanted : StateView
    wanted = with_standing s a (Wanted (Some n))

    lost : StateView
    lost = with_timer (with_standing s a (Lost n)) (s.time + timeout_of s.cluster a) (Failover a)

    at : (b : Bool) → StartsFewer s (cond b wanted lost)
    at true = restood_fewer s wanted.standings wanted.timers
    at false = restood_fewer s lost.standings lost.timers

    there : (b : Bool) → StartsFewer s (cond b (lost_at s n a) s)
    there true = at (timeout_of s.cluster a == 0)
    there false = restood_fewer s s.standings s.timers

    by : (st : Standing) → StartsFewer s (lost_from s n a st)
    by (Running m) = there (same_node m n)
    by _ = restood_fewer s s.standings s.timers

each_lost_fewer : (n : Node) (apps : List App) (s : StateView) → StartsFewer s (fold (lost_if_ran n) s apps)
each_lost_fewer n [] s = restood_fewer s s.standings s.timers
each_lost_fewer n (a ∷ apps) s =
    fewer_then s (lost_if_ran n s a) (fold (lost_if_ran n) s (a ∷ apps)) (one_lost_fewer n s a) (each_lost_fewer n apps (lost_if_ran n s a))

pub ended_fewer : (s : StateView) (n : Node) → StartsFewer s (all_lost (cleared s n) n)
unfolding all_lost
ended_fewer s n =
    fewer_then s (cleared s n) (all_lost (cleared s n) n) (cleared_fewer s n) (each_lost_fewer n (apps_of (cleared s n).cluster) (cleared s n))

-- ---- an application leaves its list, or stands otherwise
pub unlisted_fewer : (s : StateView) (n : Node) (a : App) → StartsFewer s (unlisted s n a)
unlisted_fewer s n a = record {
  cluster = refl;
  waited = λ m b w p. (taken_has s.waiting n.0 m.0 a b w, p);
  ran = λ m b r. taken_has s.running n.0 m.0 a b r;
}

distributed_fewer : (s : StateView) (a : App) (st : Standing) → StartsFewer s (with_distributed_standing s a st)
distributed_fewer s a st = by (is_local s.cluster a)
  where
    by : (b : Bool) → StartsFewer s (cond b s (with_standing s a st))
    by true = restood_fewer s s.standings s.timers
    by false = restood_fewer s (with_standing s a st).standings s.timers

quiet_fewer : (s : StateView) (a : App) (st : Standing) → StartsFewer s (quiet_if_nowhere s a st)
quiet_fewer s a Quiet = restood_fewer s s.standings s.timers
quiet_fewer s a (Running m) = restood_fewer s s.standings s.timers
quiet_fewer s a (Wanted from) = by (is_started_anywhere s a)
  where
    by : (b : Bool) → StartsFewer s (cond b s (with_standing s a Quiet))
    by true = restood_fewer s s.standings s.timers
    by false = restood_fewer s (with_standing s a Quiet).standings s.timers
quiet_fewer s a (Lost m) = by (is_started_anywhere s a)
  where
    t : StateView
    t = without_due (with_standing s a Quiet) (Failover a)

    by : (b : Bool) → StartsFewer s (cond b s t)
    by true = restood_fewer s s.standings s.timers
    by false = restood_fewer s t.standings t.timers

pub stopped_fewer : (s : StateView) (n : Node) (a : App) → StartsFewer s (with_distributed_standing (unlisted s n a) a Quiet)
stopped_fewer s n a = fewer_then s (unlisted s n a) _ (unlisted_fewer s n a) (distributed_fewer (unlisted s n a) a Quiet)

pub left_waiting_fewer : (s : StateView) (n : Node) (a : App) → StartsFewer s (quiet_if_nowhere (unlisted s n a) a (standing_of s a))
left_waiting_fewer s n a = fewer_then s (unlisted s n a) _ (unlisted_fewer s n a) (quiet_fewer (unlisted s n a) a (standing_of s a))

pub wanted_fewer : (s : StateView) (a : App) (st : Standing) → StartsFewer s (wanted_if_lost s a st)
wanted_fewer s a (Lost n) = restood_fewer s (with_standing s a (Wanted (Some n))).standings s.timers
wanted_fewer s a _ = restood_fewer s s.standings s.timers

-- ---- a permission is taken
no_longer : (cells : List Bool) (i : ℕ) → unwrap_or (slice_get (slice_set cells i false) i) false ≡ false
no_longer [] i = refl
no_longer (x ∷ cells) zero = refl
no_longer (x ∷ cells) (suc i) = no_longer cells i

refused_here : (table : List (List Bool)) (n i : ℕ) → cell (with_cell table n i false) n i false ≡ false
refused_here [] n i = refl
refused_here (cells ∷ table) zero i = no_longer cells i
refused_here (cells ∷ table) (suc n) i = refused_here table n i

-- what is permitted then was so before
permitted_before : (table : List (List Bool)) (n m i j : ℕ) → cell (with_cell table n i false) m j false ≡ true → cell table m j false ≡ true
permitted_before table n m i j p = at_set table n m (slice_set (row table n) i false) []
    (λ same. sym (ap (λ cells. unwrap_or (slice_get cells j) false) same) ∙ p)
    (λ here v. let q = sym (ap (λ cells. unwrap_or (slice_get cells j) false) v) ∙ p in
    ap (λ k. cell table k j false) here ∙ at_set (row table n) i j false false
    (λ same. sym same ∙ q)
    (λ at w. both (unwrap_or (slice_get (slice_set (row table n) i false) j) false) q w))

pub refused_fewer : (s : StateView) (n : Node) (a : App) → StartsFewer s (with_allowed s n a false)
refused_fewer s n a = record {
  cluster = refl;
  waited = λ m b w p. (w, permitted_before s.allowed n.0 m.0 a.0 b.0 p);
  ran = λ m b r. r;
}

-- one that ran and waits then can't start
sent_away : (s : StateView) (n : Node) (a : App) → StartsFewer s (with_stopped (with_allowed s n a false) n a)
sent_away s n a = record {
  cluster = refl;
  waited = λ m b w p. put_has (taken s.waiting n.0 a) n.0 m.0 a b w
      (λ before. (taken_has s.waiting n.0 m.0 a b before, permitted_before s.allowed n.0 m.0 a.0 b.0 p))
      (λ here same. both (cell (with_cell s.allowed n.0 a.0 false) m.0 b.0 false) p
      (ap (λ k. cell (with_cell s.allowed n.0 a.0 false) k b.0 false) here
      ∙ ap (λ k. cell (with_cell s.allowed n.0 a.0 false) n.0 k false) (same_number b.0 a.0 same) ∙ refused_here s.allowed n.0 a.0));
  ran = λ m b r. taken_has s.running n.0 m.0 a b r;
}

pub forbidden_fewer : (s : StateView) (n : Node) (a : App)
    → StartsFewer s (with_distributed_standing (with_stopped (with_allowed s n a false) n a) a (Wanted None))
forbidden_fewer s n a =
    let t : StateView = with_stopped (with_allowed s n a false) n a in
    fewer_then s t _ (sent_away s n a) (distributed_fewer t a (Wanted None))
