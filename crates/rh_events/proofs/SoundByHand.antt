-- What an operator changes by hand keeps a state sound: stopping, permitting, and applications that end.
use Rattle.std.proofs.Common.{◌≡◌, ◌≢◌, ◌<◌, ◌&&◌, ℕ, Bool, true, false, cond, not, List, length, refl, sym, ap, ◌∙◌, arith, None}
use Rattle.rh_model.specs.ClusterView.{is_listed_at}
use Rattle.rh_model.specs.declared.node.Node.{Node}
use Rattle.rh_model.specs.declared.node.App.{App}
use Rattle.rh_state.specs.declared.status.Standing.{Standing}
use Rattle.rh_state.specs.declared.status.Standing.TheVariants.{Quiet, Wanted, Running, Lost}
use Rattle.rh_state.specs.declared.status.Timer.{Timer}
use Rattle.rh_state.specs.declared.status.Timer.TheVariants.{Failover}
use Rattle.rh_state.specs.Numbers.{same_app}
use Rattle.rh_state.specs.Shape.{IsNodeOf, IsAppOf, IsStandingOf}
use Rattle.rh_state.specs.Tables.{row}
use Rattle.rh_state.specs.Lists.{without_app}
use Rattle.rh_state.specs.StateView.{StateView, mode_of, is_up, runs_at, waits_at, is_allowed, restart_of, standing_of}
use Rattle.rh_state.specs.Setters.{with_allowed, with_standing, without_due, unlisted}
use Rattle.rh_rules.specs.Course.{Course, is_local}
use Rattle.rh_rules.specs.Moves.{with_stopped}
use Rattle.rh_trace.specs.Validity.{TimersFit, IsSound}
use Rattle.rh_state.specs.Standings.{is_lost}
use Rattle.rh_base.proofs.Lists.{cases}
use Rattle.rh_base.proofs.Truths.{or_left, same_number, both}
use Rattle.rh_rules.specs.Marking.{with_distributed_standing}
use Rattle.rh_rules.specs.NodesEnd.{ended}
use Rattle.rh_rules.specs.ByHand.{stopped, is_started_anywhere, quiet_if_nowhere, left_waiting, forbidden, permitted, permission_set, ends_node, exited}
use Rattle.rh_trace.proofs.Entries.{taken, has, taken_has, taken_not, taken_keeps, there}
use Rattle.rh_trace.proofs.Kept.{at_pair}
use Rattle.rh_events.proofs.SoundEndingFits.{stands_here, stands_there, same_standing, fit_standing, fit_found}
use Rattle.rh_events.proofs.SoundEndingLists.{ListsFit, lists_fit, lists_unlisted, lists_waiting, lists_allowed, restood, lists_restood}
use Rattle.rh_trace.proofs.Kept.{same_running}
use Rattle.rh_events.proofs.SoundEnding.{sound_ended}

-- a state in which the pair runs no more
abbrev pub relieved : StateView → Node → App → List (List App) → List (List Bool) → StateView
relieved s n a waiting allowed = record s { running = taken s.running n.0 a; waiting = waiting; allowed = allowed }

-- an application that stands nowhere as running at the node stands as before
pub sound_unlisted : (s : StateView) (n : Node) (a : App) (waiting : List (List App)) (allowed : List (List Bool))
    → ((m : Node) → standing_of s a ≡ Running m → m.0 ≢ n.0)
    → ListsFit (relieved s n a waiting allowed) → IsSound s → IsSound (relieved s n a waiting allowed)
sound_unlisted s n a waiting allowed elsewhere lists h = record {
  within = h.within;
  shaped = lists.shaped;
  once = lists.once;
  idle = lists.idle;
  standing = record {
    listed = lists.listed;
    stands = λ m b distributed r. h.standing.stands m b distributed (taken_has s.running n.0 m.0 a b r);
    local = h.standing.local;
  };
  runs = record {
    runs = λ b m e. cases (same_app b a)
        (λ t. there s.running n.0 m.0 (without_app (row s.running n.0) a) b (elsewhere m (sym (same_standing s a b t) ∙ e)) ∙ h.runs.runs b m e)
        (λ d. taken_keeps s.running n.0 m.0 a b d (h.runs.runs b m e));
  };
  timers = record { sync = h.timers.sync; failover = h.timers.failover; once = h.timers.once; order = h.timers.order; due = h.timers.due };
}

-- a distributed one that ran nowhere else stands otherwise
pub sound_relieved : (s : StateView) (n : Node) (a : App) (waiting : List (List App)) (allowed : List (List Bool)) (st : Standing) (timers : List (ℕ × Timer))
    → IsStandingOf s.cluster st → is_local s.cluster a ≡ false → IsNodeOf s.cluster n → IsAppOf s.cluster a → ((m : Node) → st ≡ Running m → ⊥)
    → ((m : Node) → runs_at s m a ≡ true → m.0 ≡ n.0)
    → TimersFit (restood s a st timers) → ListsFit (relieved s n a waiting allowed) → IsSound s → IsSound (restood (relieved s n a waiting allowed) a st timers)
sound_relieved s n a waiting allowed st timers known distributed node app stops here fit lists h =
    let l = lists_restood (relieved s n a waiting allowed) a st timers known lists in
    record {
      within = h.within;
      shaped = l.shaped;
      once = l.once;
      idle = l.idle;
      standing = record {
        listed = l.listed;
        stands = λ m b free r. cases (same_app b a)
            (λ t. let e : m.0 ≡ n.0 = here m (sym (at_pair s.running m.0 m.0 a b refl t) ∙ taken_has s.running n.0 m.0 a b r) in
            both (has (taken s.running n.0 a) n.0 a) (sym (at_pair (taken s.running n.0 a) n.0 m.0 a b e t) ∙ r) (taken_not s.running n.0 a in_running))
            (λ d. stands_there s a b st d ∙ h.standing.stands m b free (taken_has s.running n.0 m.0 a b r));
        local = λ b loc. cases (same_app b a)
            (λ t. both (is_local s.cluster b) loc (ap (λ k. is_local s.cluster (record { 0 = k })) (same_number b.0 a.0 t) ∙ distributed))
            (λ d. stands_there s a b st d ∙ h.standing.local b loc);
      };
      runs = record {
        runs = λ b m e. cases (same_app b a)
            (λ t. absurd (stops m (sym (stands_here s a b st in_standings t) ∙ e)))
            (λ d. taken_keeps s.running n.0 m.0 a b d (h.runs.runs b m (sym (stands_there s a b st d) ∙ e)));
      };
      timers = record { sync = fit.sync; failover = fit.failover; once = fit.once; order = fit.order; due = fit.due };
    }
  where
    in_running : n.0 < length s.running
    in_running = let e = h.shaped.running in omega (arith, e, node)

    in_standings : a.0 < length s.standings
    in_standings = let e = h.shaped.standings in omega (arith, e, app)

-- ---- stopping
never_running : (m : Node) → Quiet ≡ Running m → ⊥
never_running m e = cc

wanted_never : (m : Node) → Wanted None ≡ Running m → ⊥
wanted_never m e = cc

-- a distributed application runs at one node
runs_alone : (s : StateView) (n m : Node) (a : App) → IsSound s → is_local s.cluster a ≡ false → runs_at s n a ≡ true → runs_at s m a ≡ true → m.0 ≡ n.0
runs_alone s n m a h distributed r q = ap (λ (x : Node). x.0)
    (same_running m n (sym (h.standing.stands m a distributed q) ∙ h.standing.stands n a distributed r))

-- a pair that ran runs no more, and the application stands so if it is distributed
stands_down : (s : StateView) (n : Node) (a : App) (waiting : List (List App)) (allowed : List (List Bool)) (st : Standing) → IsStandingOf s.cluster st
    → ((m : Node) → st ≡ Running m → ⊥) → is_lost st ≡ false
    → IsSound s → IsNodeOf s.cluster n → IsAppOf s.cluster a → runs_at s n a ≡ true → ListsFit (relieved s n a waiting allowed)
    → IsSound (with_distributed_standing (relieved s n a waiting allowed) a st)
stands_down s n a waiting allowed st known stops found h node app r lists = by (is_local s.cluster a) refl
  where
    by : (b : Bool) → is_local s.cluster a ≡ b → IsSound (cond b (relieved s n a waiting allowed) (with_standing (relieved s n a waiting allowed) a st))
    by true local = sound_unlisted s n a waiting allowed (λ m e. absurd (never_running m (sym (h.standing.local a local) ∙ e))) lists h
    by false distributed = sound_relieved s n a waiting allowed st s.timers known distributed node app stops
        (λ m q. runs_alone s n m a h distributed r q)
        (fit_standing s a st (found ∙ sym (ap is_lost (h.standing.stands n a distributed r))) h.timers)
        lists h

pub sound_stopped : (o : Course) (n : Node) (a : App) → IsSound o.state → IsNodeOf o.state.cluster n → IsAppOf o.state.cluster a → runs_at o.state n a ≡ true
    → IsSound (stopped o n a).state
unfolding stopped
sound_stopped o n a h node app r =
    let s : StateView = o.state in
    stands_down s n a (taken s.waiting n.0 a) s.allowed Quiet tt never_running refl h node app r (lists_unlisted s n a (lists_fit s h))

-- ---- leaving where it waits
pub sound_left_waiting : (o : Course) (n : Node) (a : App) → IsSound o.state → IsNodeOf o.state.cluster n → IsAppOf o.state.cluster a
    → waits_at o.state n a ≡ true → runs_at o.state n a ≡ false
    → IsSound (left_waiting o n a).state
unfolding left_waiting
sound_left_waiting o n a h node app w r = by (standing_of o.state a) refl
  where
    s : StateView
    s = o.state

    lists : ListsFit (unlisted s n a)
    lists = lists_unlisted s n a (lists_fit s h)

    free : (st : Standing) → standing_of s a ≡ st → (st ≡ Quiet → ⊥) → is_local s.cluster a ≡ false
    free st e other = cases (is_local s.cluster a) (λ t. absurd (other (sym e ∙ h.standing.local a t))) (λ f. f)

    -- one that doesn't stand as running runs nowhere
    nowhere : (st : Standing) → standing_of s a ≡ st → (st ≡ Quiet → ⊥) → ((m : Node) → st ≡ Running m → ⊥) → (m : Node) → runs_at s m a ≡ true → m.0 ≡ n.0
    nowhere st e other stops m q = absurd (stops m (sym e ∙ h.standing.stands m a (free st e other) q))

    stays : ((m : Node) → standing_of s a ≡ Running m → m.0 ≢ n.0) → IsSound (unlisted s n a)
    stays elsewhere = sound_unlisted s n a (taken s.waiting n.0 a) s.allowed elsewhere lists h

    in_standings : a.0 < length s.standings
    in_standings = let e = h.shaped.standings in omega (arith, e, app)

    by : (st : Standing) → standing_of s a ≡ st → IsSound (quiet_if_nowhere (unlisted s n a) a st)
    by Quiet e = stays (λ m q. absurd (never_running m (sym e ∙ q)))
    by (Wanted from) e = go (is_started_anywhere (unlisted s n a) a)
      where
        other : Wanted from ≡ Quiet → ⊥
        other e = cc

        stops : (m : Node) → Wanted from ≡ Running m → ⊥
        stops m e = cc

        go : (b : Bool) → IsSound (cond b (unlisted s n a) (with_standing (unlisted s n a) a Quiet))
        go true = stays (λ m q. absurd (stops m (sym e ∙ q)))
        go false = sound_relieved s n a (taken s.waiting n.0 a) s.allowed Quiet s.timers tt (free (Wanted from) e other) node app never_running
            (nowhere (Wanted from) e other stops)
            (fit_standing s a Quiet (sym (ap is_lost e)) h.timers) lists h
    by (Running k) e = stays (λ m q f. both (runs_at s n a) (ap (λ i. has s.running i a) (sym f) ∙ h.runs.runs a m q) r)
    by (Lost k) e = go (is_started_anywhere (unlisted s n a) a)
      where
        other : Lost k ≡ Quiet → ⊥
        other e = cc

        stops : (m : Node) → Lost k ≡ Running m → ⊥
        stops m e = cc

        go : (b : Bool) → IsSound (cond b (unlisted s n a) (without_due (with_standing (unlisted s n a) a Quiet) (Failover a)))
        go true = stays (λ m q. absurd (stops m (sym e ∙ q)))
        go false = sound_relieved s n a (taken s.waiting n.0 a) s.allowed Quiet (without_due s (Failover a)).timers tt
            (free (Lost k) e other) node app never_running (nowhere (Lost k) e other stops)
            (fit_found s a Quiet in_standings refl h.timers) lists h

-- ---- permissions
sound_allowed : (s : StateView) (n : Node) (a : App) (allow : Bool) → IsSound s → is_up (mode_of s n) ≡ true → IsSound (with_allowed s n a allow)
sound_allowed s n a allow h up =
    let l = lists_allowed s n a allow up (lists_fit s h) in
    record {
      within = h.within;
      shaped = l.shaped;
      once = l.once;
      idle = l.idle;
      standing = record { listed = l.listed; stands = h.standing.stands; local = h.standing.local };
      runs = record { runs = h.runs.runs };
      timers = record { sync = h.timers.sync; failover = h.timers.failover; once = h.timers.once; order = h.timers.order; due = h.timers.due };
    }

pub lists_stopped : (s : StateView) (n : Node) (a : App) → IsNodeOf s.cluster n → IsAppOf s.cluster a → is_up (mode_of s n) ≡ true
    → is_listed_at s.cluster a n ≡ true → ListsFit s
    → ListsFit (with_stopped s n a)
lists_stopped s n a node app up listed h =
    lists_waiting (unlisted s n a) n a up app listed
    (taken_not s.running n.0 a (let e = h.shaped.running in omega (arith, e, node)))
    (taken_not s.waiting n.0 a (let e = h.shaped.waiting in omega (arith, e, node)))
    (lists_unlisted s n a h)

sound_forbidden : (o : Course) (n : Node) (a : App) → IsSound o.state → IsNodeOf o.state.cluster n → IsAppOf o.state.cluster a
    → is_up (mode_of o.state n) ≡ true → runs_at o.state n a ≡ true
    → IsSound (forbidden o n a).state
unfolding forbidden
sound_forbidden o n a h node app up r =
    let s : StateView = o.state in
    let t : StateView = with_allowed s n a false in
    let listed = h.standing.listed n a (or_left (runs_at s n a) (waits_at s n a) r) in
    stands_down s n a (with_stopped t n a).waiting t.allowed (Wanted None) tt wanted_never refl h node app r
    (lists_stopped t n a node app up listed (lists_allowed s n a false up (lists_fit s h)))

last_of : (p q r : Bool) → (p && (q && r)) ≡ true → r ≡ true
last_of true true r h = h
last_of true false r h = cc
last_of false q r h = cc

pub sound_permitted : (o : Course) (n : Node) (a : App) (allow : Bool) → IsSound o.state → IsNodeOf o.state.cluster n → IsAppOf o.state.cluster a
    → is_up (mode_of o.state n) ≡ true
    → IsSound (permitted o n a allow).state
unfolding permitted
sound_permitted o n a allow h node app up = by (not allow && (is_allowed o.state n a && runs_at o.state n a)) refl
  where
    by : (b : Bool) → (not allow && (is_allowed o.state n a && runs_at o.state n a)) ≡ b
        → IsSound (cond b (forbidden o n a) (permission_set o n a allow)).state
    by true t = sound_forbidden o n a h node app up (last_of (not allow) (is_allowed o.state n a) (runs_at o.state n a) t)
    by false f = sound_allowed o.state n a allow h up

-- ---- an application that ends
pub sound_exited : (o : Course) (n : Node) (a : App) (normal : Bool) → IsSound o.state → IsNodeOf o.state.cluster n → IsAppOf o.state.cluster a
    → runs_at o.state n a ≡ true
    → IsSound (exited o n a normal).state
unfolding exited
sound_exited o n a normal h node app r = by (ends_node (restart_of o.state n a) normal)
  where
    by : (b : Bool) → IsSound (cond b (ended o n) (stopped o n a)).state
    by true = sound_ended o n h node
    by false = sound_stopped o n a h node app r
