-- A takeover by hand keeps a state sound.
use Rattle.std.proofs.Common.{◌≡◌, ◌≢◌, ◌<◌, true, false, List, [], ◌∷◌, ◌++◌, length, refl, sym, ap, ◌∙◌, arith}
use Rattle.std.proofs.lemmas.List.{length-set}
use Rattle.rh_model.specs.ClusterView.{is_listed_at}
use Rattle.rh_model.specs.declared.node.Node.{Node}
use Rattle.rh_model.specs.declared.node.App.{App}
use Rattle.rh_model.specs.declared.settings.Restart.{Restart}
use Rattle.rh_state.specs.declared.status.Kind.TheVariants as kind
use Rattle.rh_state.specs.declared.status.Standing.{Standing}
use Rattle.rh_state.specs.declared.status.Standing.TheVariants.{Quiet, Running}
use Rattle.rh_state.specs.Numbers.{same_app, same_node}
use Rattle.rh_state.specs.Shape.{IsNodeOf, IsAppOf}
use Rattle.rh_state.specs.Tables.{row}
use Rattle.rh_state.specs.Lists.{without_app}
use Rattle.rh_state.specs.StateView.{StateView, mode_of, is_up, runs_at, waits_at, standing_of}
use Rattle.rh_state.specs.Setters.{with_running, with_restart, unlisted}
use Rattle.rh_rules.specs.Course.{Course, is_local}
use Rattle.rh_rules.specs.Moves.{with_started, with_stopped, moved_state}
use Rattle.rh_rules.specs.declared.notice.Move.TheVariants.{Takeover}
use Rattle.rh_trace.specs.Validity.{IsSound}
use Rattle.rh_state.specs.Standings.{is_lost}
use Rattle.rh_base.proofs.Lists.{cases}
use Rattle.rh_trace.proofs.Shapes.{shaped_standing, shaped_restart, shaped_started, shaped_stopped}
use Rattle.rh_base.proofs.Truths.{or_left, same_number, both}
use Rattle.rh_rules.specs.ByHand.{taken_from, taken_over}
use Rattle.rh_trace.proofs.Entries.{other_number, row_there, taken, put, has, taken_has, taken_not, taken_keeps, there, put_has, put_keeps}
use Rattle.rh_trace.proofs.Entries.{put_gives}
use Rattle.rh_trace.proofs.Kept.{at_pair}
use Rattle.rh_events.proofs.SoundEndingFits.{stands_here, stands_there, fit_standing}
use Rattle.rh_events.proofs.SoundEndingLists.{ListsFit, lists_fit, up_where_runs, lists_unlisted, lists_running, restood, lists_restood}
use Rattle.rh_trace.proofs.Kept.{same_running}
use Rattle.rh_events.proofs.SoundByHand.{lists_stopped}

-- an application that runs at m runs at n then
module _ (s : StateView) (m n : Node) (a : App) (h : IsSound s) (node : IsNodeOf s.cluster n) (app : IsAppOf s.cluster a) (up : is_up (mode_of s n) ≡ true)
    (listed : is_listed_at s.cluster a n ≡ true) (stood : standing_of s a ≡ Running m) (other : same_node m n ≡ false) where
  in_running : n.0 < length s.running
  in_running = let e = h.shaped.running in omega (arith, e, node)

  in_waiting : n.0 < length s.waiting
  in_waiting = let e = h.shaped.waiting in omega (arith, e, node)

  in_standings : a.0 < length s.standings
  in_standings = let e = h.shaped.standings in omega (arith, e, app)

  abbrev left_at : List (List App)
  left_at = taken s.running n.0 a

  abbrev both_run : List (List App)
  both_run = put (taken s.running n.0 a) n.0 a

  in_left : n.0 < length left_at
  in_left = let e = length-set s.running n.0 (without_app (row s.running n.0) a) in let l = in_running in omega (arith, e, l)

  runs_there : runs_at s m a ≡ true
  runs_there = h.runs.runs a m stood

  in_both : m.0 < length both_run
  in_both =
      let e = length-set s.running n.0 (without_app (row s.running n.0) a) in
      let f = length-set left_at n.0 (row left_at n.0 ++ a ∷ []) in
      let l = row_there s.running m.0 a runs_there in omega (arith, e, f, l)

  lists_started : ListsFit (with_running (unlisted s n a) n a)
  lists_started = lists_running (unlisted s n a) n a up app listed (taken_not s.running n.0 a in_running) (taken_not s.waiting n.0 a in_waiting)
      (lists_unlisted s n a (lists_fit s h))

  within_m : IsNodeOf s.cluster m
  within_m = let e = h.shaped.running in let l = row_there s.running m.0 a runs_there in omega (arith, e, l)

  lists_moved : ListsFit (restood (with_stopped (with_running (unlisted s n a) n a) m a) a (Running n) s.timers)
  lists_moved = lists_restood (with_stopped (with_running (unlisted s n a) n a) m a) a (Running n) s.timers node
      (lists_stopped (with_running (unlisted s n a) n a) m a within_m app (up_where_runs s m a h.idle runs_there)
      (h.standing.listed m a (or_left (runs_at s m a) (waits_at s m a) runs_there)) lists_started)

  -- it runs at no third node, and no more at m
  at_n : (k : Node) → has (taken both_run m.0 a) k.0 a ≡ true → Running n ≡ Running k
  at_n k r = cases (same_node k m)
      (λ t. both (has (taken both_run m.0 a) m.0 a) (ap (λ i. has (taken both_run m.0 a) i a) (sym (same_number k.0 m.0 t)) ∙ r)
      (taken_not both_run m.0 a in_both))
      (λ d. put_has left_at n.0 k.0 a a (taken_has both_run m.0 k.0 a a r)
      (λ before. absurd (other_number k.0 m.0 d (ap (λ (x : Node). x.0) (same_running k m (sym (ran k (taken_has s.running n.0 k.0 a a before)) ∙ stood)))))
      (λ e t. ap (λ i. Running (record { 0 = i })) (sym e)))
    where
      free : is_local s.cluster a ≡ false
      free = cases (is_local s.cluster a) (λ t. absurd (clash (sym stood ∙ h.standing.local a t))) (λ f. f)
        where
          clash : Running m ≡ Quiet → ⊥
          clash e = cc

      ran : (k : Node) → runs_at s k a ≡ true → standing_of s a ≡ Running k
      ran k r = h.standing.stands k a free r

  not_here : n.0 ≢ m.0
  not_here e = other_number m.0 n.0 other (sym e)

  runs_now : (b : App) → same_app b a ≡ true → has (taken both_run m.0 a) n.0 b ≡ true
  runs_now b t = there both_run m.0 n.0 (without_app (row both_run m.0) a) b not_here ∙ put_gives left_at n.0 a b in_left t

  -- the other applications run where they ran
  ran_before : (k : Node) (b : App) → same_app b a ≡ false → has (taken both_run m.0 a) k.0 b ≡ true → runs_at s k b ≡ true
  ran_before k b d r = put_has left_at n.0 k.0 a b (taken_has both_run m.0 k.0 a b r)
      (λ before. taken_has s.running n.0 k.0 a b before)
      (λ e t. both (same_app b a) t d)

  run_still : (k : Node) (b : App) → same_app b a ≡ false → runs_at s k b ≡ true → has (taken both_run m.0 a) k.0 b ≡ true
  run_still k b d r = taken_keeps both_run m.0 k.0 a b d (put_keeps left_at n.0 k.0 a b (taken_keeps s.running n.0 k.0 a b d r))

  pub sound_takeover : (r : Restart) → IsSound (moved_state (with_restart s n a r) (Takeover a m n))
  sound_takeover r =
      let l = lists_moved in
      let begun : StateView = with_started (with_restart s n a r) n a (kind.Takeover m) in
      let f = fit_standing s a (Running n) (sym (ap is_lost stood)) h.timers in
      record {
        within = h.within;
        shaped = shaped_standing (with_stopped begun m a) a (Running n) node
            (shaped_stopped begun m a app
            (shaped_started (with_restart s n a r) n a (kind.Takeover m) node app within_m (shaped_restart s n a r node h.shaped)));
        once = record { running = l.once.running; waiting = l.once.waiting; apart = l.once.apart };
        idle = record { running = l.idle.running; waiting = l.idle.waiting; permissions = l.idle.permissions };
        standing = record {
          listed = l.listed;
          stands = λ k b free runs. cases (same_app b a)
              (λ t. stands_here s a b (Running n) in_standings t ∙ at_n k (sym (at_pair (taken both_run m.0 a) k.0 k.0 a b refl t) ∙ runs))
              (λ d. stands_there s a b (Running n) d ∙ h.standing.stands k b free (ran_before k b d runs));
          local = λ b loc. cases (same_app b a)
              (λ t. absurd (clash (sym stood ∙ h.standing.local a (ap (λ i. is_local s.cluster (record { 0 = i })) (sym (same_number b.0 a.0 t)) ∙ loc))))
              (λ d. stands_there s a b (Running n) d ∙ h.standing.local b loc);
        };
        runs = record {
          runs = λ b k e. cases (same_app b a)
              (λ t. ap (λ i. has (taken both_run m.0 a) i b) (ap (λ (x : Node). x.0) (same_running k n (sym e ∙ stands_here s a b (Running n) in_standings t)))
              ∙ runs_now b t)
              (λ d. run_still k b d (h.runs.runs b k (sym (stands_there s a b (Running n) d) ∙ e)));
        };
        timers = record { sync = f.sync; failover = f.failover; once = f.once; order = f.order; due = f.due };
      }
    where
      clash : Running m ≡ Quiet → ⊥
      clash e = cc

pub sound_taken_over : (o : Course) (n : Node) (a : App) (r : Restart) → IsSound o.state → IsNodeOf o.state.cluster n → IsAppOf o.state.cluster a
    → is_up (mode_of o.state n) ≡ true
    → is_listed_at o.state.cluster a n ≡ true → ((m : Node) → standing_of o.state a ≡ Running m → same_node m n ≡ false) → IsSound (taken_over o n a r).state
unfolding taken_over
sound_taken_over o n a r h node app up listed elsewhere = by (standing_of o.state a) refl
  where
    by : (st : Standing) → standing_of o.state a ≡ st → IsSound (taken_from o n a r st).state
    by (Running m) e = sound_takeover o.state m n a h node app up listed e (elsewhere m e) r
    by _ e = h
