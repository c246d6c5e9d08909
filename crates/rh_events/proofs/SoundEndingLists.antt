-- What the lists of a state keep: sizes, applications at most once, nothing at a node that isn't up, and each only where it
-- may be started.
use Rattle.std.proofs.Common.{◌≡◌, ◌≢◌, ℕ, Bool, true, false, List, [], ◌∷◌, ◌++◌, sym, ap, ◌∙◌, subst, slice_get, slice_set, unwrap_or}
use Rattle.rh_model.specs.ClusterView.{is_listed_at}
use Rattle.rh_model.specs.declared.node.Node.{Node}
use Rattle.rh_model.specs.declared.node.App.{App}
use Rattle.rh_state.specs.declared.status.Mode.TheVariants.{Down}
use Rattle.rh_state.specs.declared.status.Standing.{Standing}
use Rattle.rh_state.specs.declared.status.Timer.{Timer}
use Rattle.rh_state.specs.Shape.{IsShaped, IsAppOf, IsStandingOf, OnceAtEachNode}
use Rattle.rh_state.specs.Tables.{row}
use Rattle.rh_state.specs.StateView.{StateView, mode_of, is_up, running_at, runs_at, waits_at, is_started}
use Rattle.rh_state.specs.Setters.{with_running, with_waiting, with_allowed, with_standing, unlisted}
use Rattle.rh_trace.specs.Validity.{IdleUnlessUp, IsSound}
use Rattle.rh_base.proofs.Lists.{cases}
use Rattle.rh_base.proofs.Truths.{or_left, or_right, same_number, both}
use Rattle.rh_trace.proofs.Places.{at_set_there}
use Rattle.rh_trace.proofs.Entries.{is_false, taken_has, put_has, once_taken, once_put, either}
use Rattle.rh_trace.proofs.NextMoves.{up_within}
use Rattle.rh_trace.proofs.Shapes.{shaped_timers, shaped_standing, shaped_allowed, shaped_running, shaped_waiting, shaped_unlisted}
use Rattle.rh_trace.proofs.Kept.{at_pair}
use Rattle.rh_events.proofs.Tables.{not_empty, taken_empty}

pub record ListsFit (s : StateView) : Type 0 where
  pub shaped : IsShaped s
  pub once : OnceAtEachNode s
  pub idle : IdleUnlessUp s
  pub listed : (n : Node) (a : App) → is_started s n a ≡ true → is_listed_at s.cluster a n ≡ true

pub lists_fit : (s : StateView) → IsSound s → ListsFit s
lists_fit s h = record { shaped = h.shaped; once = h.once; idle = h.idle; listed = h.standing.listed }

-- a node where something is started is up
pub up_where_runs : (s : StateView) (n : Node) (a : App) → IdleUnlessUp s → runs_at s n a ≡ true → is_up (mode_of s n) ≡ true
up_where_runs s n a h r = cases (is_up (mode_of s n)) (λ t. t) (λ f. not_empty (running_at s n) a r (h.running n f))

-- ---- a pair leaves its list
started_before : (s : StateView) (n m : Node) (a b : App) → is_started (unlisted s n a) m b ≡ true → is_started s m b ≡ true
started_before s n m a b h = either (runs_at (unlisted s n a) m b) (waits_at (unlisted s n a) m b) h
    (λ r. or_left (runs_at s m b) (waits_at s m b) (taken_has s.running n.0 m.0 a b r))
    (λ w. or_right (runs_at s m b) (waits_at s m b) (taken_has s.waiting n.0 m.0 a b w))

pub lists_unlisted : (s : StateView) (n : Node) (a : App) → ListsFit s → ListsFit (unlisted s n a)
lists_unlisted s n a h = record {
  shaped = shaped_unlisted s n a h.shaped;
  once = record {
    running = λ m. once_taken s.running n.0 m.0 a (h.once.running n) (h.once.running m);
    waiting = λ m. once_taken s.waiting n.0 m.0 a (h.once.waiting n) (h.once.waiting m);
    apart = λ m b w. is_false _ (λ r. both (runs_at s m b) (taken_has s.running n.0 m.0 a b r) (h.once.apart m b (taken_has s.waiting n.0 m.0 a b w)));
  };
  idle = record {
    running = λ m f. taken_empty s.running n.0 m.0 a (h.idle.running m f);
    waiting = λ m f. taken_empty s.waiting n.0 m.0 a (h.idle.waiting m f);
    permissions = h.idle.permissions;
  };
  listed = λ m b t. h.listed m b (started_before s n m a b t);
}

-- ---- a pair enters a list of a node that is up
-- a node that isn't up is another one
elsewhere : (s : StateView) (n m : Node) → is_up (mode_of s n) ≡ true → is_up (mode_of s m) ≡ false → m.0 ≢ n.0
elsewhere s n m up f e = both (is_up (mode_of s n)) up (sym (ap (λ k. is_up (unwrap_or (slice_get s.modes k) Down)) e) ∙ f)

-- what the pair (n, a) has, the same pair has
carried : (P : ℕ → ℕ → Type 0) (n m a b : ℕ) → m ≡ n → b ≡ a → P n a → P m b
carried P n m a b e f p = subst (λ k. P k b) (sym e) (subst (λ k. P n k) (sym f) p)

pub lists_running : (s : StateView) (n : Node) (a : App) → is_up (mode_of s n) ≡ true → IsAppOf s.cluster a → is_listed_at s.cluster a n ≡ true
    → runs_at s n a ≡ false → waits_at s n a ≡ false → ListsFit s → ListsFit (with_running s n a)
lists_running s n a up app listed r w h = record {
  shaped = shaped_running s n a app h.shaped;
  once = record {
    running = λ m. once_put s.running n.0 m.0 a (h.once.running n) (h.once.running m) r;
    waiting = h.once.waiting;
    apart = λ m b waits. is_false _ (λ runs. put_has s.running n.0 m.0 a b runs
        (λ before. both (runs_at s m b) before (h.once.apart m b waits))
        (λ e t. both (waits_at s n a) (sym (at_pair s.waiting n.0 m.0 a b e t) ∙ waits) w));
  };
  idle = record {
    running = λ m f. at_set_there s.running n.0 m.0 (row s.running n.0 ++ a ∷ []) [] (elsewhere s n m up f) ∙ h.idle.running m f;
    waiting = h.idle.waiting;
    permissions = h.idle.permissions;
  };
  listed = λ m b t. started m b t (h.listed m b) (λ e f. carried (λ i j. is_listed_at s.cluster (record { 0 = j }) (record { 0 = i })
      ≡ true) n.0 m.0 a.0 b.0 e f listed);
}
  where
    started : {P : Type 0} (m : Node) (b : App) → is_started (with_running s n a) m b ≡ true → (is_started s m b ≡ true → P) → (m.0 ≡ n.0 → b.0 ≡ a.0 → P) → P
    started m b t before more = either (runs_at (with_running s n a) m b) (waits_at s m b) t
        (λ runs. put_has s.running n.0 m.0 a b runs
        (λ old. before (or_left (runs_at s m b) (waits_at s m b) old))
        (λ e f. more e (same_number b.0 a.0 f)))
        (λ waits. before (or_right (runs_at s m b) (waits_at s m b) waits))

pub lists_waiting : (s : StateView) (n : Node) (a : App) → is_up (mode_of s n) ≡ true → IsAppOf s.cluster a → is_listed_at s.cluster a n ≡ true
    → runs_at s n a ≡ false → waits_at s n a ≡ false → ListsFit s → ListsFit (with_waiting s n a)
lists_waiting s n a up app listed r w h = record {
  shaped = shaped_waiting s n a app h.shaped;
  once = record {
    running = h.once.running;
    waiting = λ m. once_put s.waiting n.0 m.0 a (h.once.waiting n) (h.once.waiting m) w;
    apart = λ m b waits. put_has s.waiting n.0 m.0 a b waits
        (λ before. h.once.apart m b before)
        (λ e t. at_pair s.running n.0 m.0 a b e t ∙ r);
  };
  idle = record {
    running = h.idle.running;
    waiting = λ m f. at_set_there s.waiting n.0 m.0 (row s.waiting n.0 ++ a ∷ []) [] (elsewhere s n m up f) ∙ h.idle.waiting m f;
    permissions = h.idle.permissions;
  };
  listed = λ m b t. started m b t (h.listed m b) (λ e f. carried (λ i j. is_listed_at s.cluster (record { 0 = j }) (record { 0 = i })
      ≡ true) n.0 m.0 a.0 b.0 e f listed);
}
  where
    started : {P : Type 0} (m : Node) (b : App) → is_started (with_waiting s n a) m b ≡ true → (is_started s m b ≡ true → P) → (m.0 ≡ n.0 → b.0 ≡ a.0 → P) → P
    started m b t before more = either (runs_at s m b) (waits_at (with_waiting s n a) m b) t
        (λ runs. before (or_left (runs_at s m b) (waits_at s m b) runs))
        (λ waits. put_has s.waiting n.0 m.0 a b waits
        (λ old. before (or_right (runs_at s m b) (waits_at s m b) old))
        (λ e f. more e (same_number b.0 a.0 f)))

-- ---- permissions change only of a node that is up
pub lists_allowed : (s : StateView) (n : Node) (a : App) (allow : Bool) → is_up (mode_of s n) ≡ true → ListsFit s → ListsFit (with_allowed s n a allow)
lists_allowed s n a allow up h = record {
  shaped = shaped_allowed s n a allow (up_within s n h.shaped.modes up) h.shaped;
  once = record { running = h.once.running; waiting = h.once.waiting; apart = h.once.apart };
  idle = record {
    running = h.idle.running;
    waiting = h.idle.waiting;
    permissions = λ m within f. at_set_there s.allowed n.0 m.0 (slice_set (row s.allowed n.0) a.0 allow) [] (elsewhere s n m up f)
        ∙ h.idle.permissions m within f;
  };
  listed = h.listed;
}

-- ---- standings and timers don't matter
abbrev pub restood : StateView → App → Standing → List (ℕ × Timer) → StateView
restood s a st timers = record s { standings = slice_set s.standings a.0 st; timers = timers }

pub lists_restood : (s : StateView) (a : App) (st : Standing) (timers : List (ℕ × Timer)) → IsStandingOf s.cluster st → ListsFit s
    → ListsFit (restood s a st timers)
lists_restood s a st timers known h = record {
  shaped = shaped_timers (with_standing s a st) timers (shaped_standing s a st known h.shaped);
  once = record { running = h.once.running; waiting = h.once.waiting; apart = h.once.apart };
  idle = record { running = h.idle.running; waiting = h.idle.waiting; permissions = h.idle.permissions };
  listed = h.listed;
}
