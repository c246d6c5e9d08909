-- Each next move keeps a sound state sound.
use Rattle.std.proofs.Common.{◌≡◌, ◌≢◌, ◌<◌, ℕ, true, false, List, [], ◌∷◌, ◌++◌, length, sym, ap, ◌∙◌, arith, unwrap_or, slice_get, slice_set, Option}
use Rattle.rh_model.specs.declared.node.Node.{Node}
use Rattle.rh_model.specs.declared.node.App.{App}
use Rattle.rh_model.specs.ClusterView.{IsWithin, numbered, app_numbered, is_listed_at}
use Rattle.rh_state.specs.declared.status.Kind.{Kind}
use Rattle.rh_state.specs.declared.status.Kind.TheVariants.{Normal}
use Rattle.rh_state.specs.declared.status.Standing.{Standing}
use Rattle.rh_state.specs.declared.status.Standing.TheVariants.{Quiet, Wanted, Running}
use Rattle.rh_state.specs.Numbers.{same_app}
use Rattle.rh_state.specs.Tables.{row}
use Rattle.rh_state.specs.Lists.{has_app, without_app}
use Rattle.rh_state.specs.Shape.{IsShaped}
use Rattle.rh_state.specs.StateView.{StateView, mode_of, is_up, runs_at, waits_at, is_started, standing_of}
use Rattle.rh_base.proofs.Lists.{cases}
use Rattle.rh_rules.specs.declared.notice.Move.{Move}
use Rattle.rh_rules.specs.declared.notice.Move.TheVariants.{Local, Placement, Takeover}
use Rattle.rh_rules.specs.Course.{is_local}
use Rattle.rh_rules.specs.Moves.{with_started, with_stopped, moved_state}
use Rattle.rh_trace.specs.Validity.{RunsWhereItStands, IdleUnlessUp, StandsWhereItRuns, TimersFit, IsSound}
use Rattle.rh_state.specs.Standings.{is_lost}
use Rattle.rh_base.proofs.Truths.{or_left, or_right, both, same_number}
use Rattle.rh_trace.proofs.Places.{at_set, at_set_here, at_set_there}
use Rattle.rh_trace.proofs.Entries.{taken, put, has, taken_has, taken_not, put_has, either, other_number, row_there, length_taken}
use Rattle.rh_trace.proofs.Entries.{length_put}
use Rattle.rh_trace.proofs.Falls.{Progresses}
use Rattle.rh_trace.proofs.Shapes.{shaped_moved}
use Rattle.rh_trace.proofs.Kept.{same_running, once_moved, runs_moved}

-- ---- idle
-- where anything is started the node is up
pub up_where_started : (s : StateView) (n : Node) (a : App) → IdleUnlessUp s → is_started s n a ≡ true → is_up (mode_of s n) ≡ true
up_where_started s n a idle h = cases (is_up (mode_of s n)) (λ t. t)
    (λ f. either (runs_at s n a) (waits_at s n a) h
    (λ r. both (runs_at s n a) r (ap (λ xs. has_app xs a) (idle.running n f)))
    (λ w. both (waits_at s n a) w (ap (λ xs. has_app xs a) (idle.waiting n f))))

-- a node that is up is another than one that isn't
other_node : (s : StateView) (n k : Node) → is_up (mode_of s n) ≡ true → is_up (mode_of s k) ≡ false → k.0 ≢ n.0
other_node s n k up down e = both (is_up (mode_of s n)) up (ap (λ i. is_up (mode_of s (numbered i))) (sym e) ∙ down)

taken_apart : (table : List (List App)) (n k : ℕ) (a : App) → k ≢ n → row (taken table n a) k ≡ row table k
taken_apart table n k a other = at_set_there table n k (without_app (row table n) a) [] other

put_apart : (table : List (List App)) (n k : ℕ) (a : App) → k ≢ n → row (put table n a) k ≡ row table k
put_apart table n k a other = at_set_there table n k (row table n ++ a ∷ []) [] other

pub idle_started : (s : StateView) (n : Node) (a : App) (kind : Kind) → is_up (mode_of s n) ≡ true → IdleUnlessUp s → IdleUnlessUp (with_started s n a kind)
idle_started s n a kind up h = record {
  running = λ k down. let o = other_node s n k up down in put_apart (taken s.running n.0 a) n.0 k.0 a o ∙ taken_apart s.running n.0 k.0 a o ∙ h.running k down;
  waiting = λ k down. taken_apart s.waiting n.0 k.0 a (other_node s n k up down) ∙ h.waiting k down;
  permissions = h.permissions;
}

pub idle_stopped : (s : StateView) (n : Node) (a : App) → is_up (mode_of s n) ≡ true → IdleUnlessUp s → IdleUnlessUp (with_stopped s n a)
idle_stopped s n a up h = record {
  running = λ k down. taken_apart s.running n.0 k.0 a (other_node s n k up down) ∙ h.running k down;
  waiting = λ k down. let o = other_node s n k up down in put_apart (taken s.waiting n.0 a) n.0 k.0 a o ∙ taken_apart s.waiting n.0 k.0 a o ∙ h.waiting k down;
  permissions = h.permissions;
}

-- where an application stands as running it is started
started_there : (s : StateView) (a : App) (m : Node) → RunsWhereItStands s → standing_of s a ≡ Running m → is_started s m a ≡ true
started_there s a m runs e = or_left (runs_at s m a) (waits_at s m a) (runs.runs a m e)

idle_moved : (s : StateView) (m : Move) → Progresses s m → RunsWhereItStands s → IdleUnlessUp s → IdleUnlessUp (moved_state s m)
idle_moved s (Local n a) p runs h = idle_started s n a Normal (up_where_started s n a h (or_right (runs_at s n a) _ p.3)) h
idle_moved s (Placement a from n) p runs h =
    let i = idle_started s n a Normal (up_where_started s n a h p.3) h in
    record { running = i.running; waiting = i.waiting; permissions = i.permissions }
idle_moved s (Takeover a m n) p runs h =
    let up = up_where_started s m a h (started_there s a m runs p.2) in
    let i = idle_stopped (with_started s n a Normal) m a up (idle_started s n a Normal (up_where_started s n a h p.5) h) in
    record { running = i.running; waiting = i.waiting; permissions = i.permissions }

-- ---- where each stands
-- what is started after a move was started before, or is what moves
started_by_start : {P : Type 0} (s : StateView) (n : Node) (a : App) (k : Node) (b : App) → is_started (with_started s n a Normal) k b ≡ true
    → (is_started s k b ≡ true → P) → (k.0 ≡ n.0 → same_app b a ≡ true → P) → P
started_by_start s n a k b h before moves = either _ _ h
    (λ r. put_has (taken s.running n.0 a) n.0 k.0 a b r (λ t. before (or_left (runs_at s k b) _ (taken_has s.running n.0 k.0 a b t))) moves)
    (λ w. before (or_right (runs_at s k b) _ (taken_has s.waiting n.0 k.0 a b w)))

started_by_stop : {P : Type 0} (s : StateView) (m : Node) (a : App) (k : Node) (b : App) → is_started (with_stopped s m a) k b ≡ true
    → (is_started s k b ≡ true → P) → (k.0 ≡ m.0 → same_app b a ≡ true → P) → P
started_by_stop s m a k b h before moves = either _ _ h
    (λ r. before (or_left (runs_at s k b) _ (taken_has s.running m.0 k.0 a b r)))
    (λ w. put_has (taken s.waiting m.0 a) m.0 k.0 a b w (λ t. before (or_right (runs_at s k b) _ (taken_has s.waiting m.0 k.0 a b t))) moves)

-- a move starts nothing that wasn't started
same_pair : (s : StateView) (n k : Node) (a b : App) → is_started s n a ≡ true → k.0 ≡ n.0 → same_app b a ≡ true → is_started s k b ≡ true
same_pair s n k a b h e t = ap (λ i. is_started s (numbered i) b) e ∙ ap (λ j. is_started s n (app_numbered j)) (same_number b.0 a.0 t) ∙ h

started_before : (s : StateView) (m : Move) (k : Node) (b : App) → Progresses s m → RunsWhereItStands s → is_started (moved_state s m) k b ≡ true
    → is_started s k b ≡ true
started_before s (Local n a) k b p runs h = started_by_start s n a k b h (λ t. t) (same_pair s n k a b (or_right (runs_at s n a) _ p.3))
started_before s (Placement a from n) k b p runs h = started_by_start s n a k b h (λ t. t) (same_pair s n k a b p.3)
started_before s (Takeover a m n) k b p runs h =
    started_by_stop (with_started s n a Normal) m a k b h
    (λ t. started_by_start s n a k b t (λ u. u) (same_pair s n k a b p.5))
    (same_pair s m k a b (started_there s a m runs p.2))

abbrev stands_now : StateView → App → Node → App → Standing
stands_now s a n b = unwrap_or (slice_get (slice_set s.standings a.0 (Running n)) b.0) Quiet

stands_here : (s : StateView) (a : App) (n : Node) (b : App) → a.0 < length s.standings → same_app b a ≡ true → stands_now s a n b ≡ Running n
stands_here s a n b lt t = ap (λ k. stands_now s a n (app_numbered k)) (same_number b.0 a.0 t) ∙ at_set_here s.standings a.0 (Running n) Quiet lt

stands_still : (s : StateView) (a : App) (n : Node) (b : App) → same_app b a ≡ false → stands_now s a n b ≡ standing_of s b
stands_still s a n b d = at_set_there s.standings a.0 b.0 (Running n) Quiet (other_number b.0 a.0 d)

same_standing : (s : StateView) (a b : App) → same_app b a ≡ true → standing_of s b ≡ standing_of s a
same_standing s a b t = ap (λ k. standing_of s (app_numbered k)) (same_number b.0 a.0 t)

no_wanted : {P : Type 0} (from : Option Node) (n : Node) → Wanted from ≡ Running n → P
no_wanted from n e = cc

no_quiet : {P : Type 0} (from : Option Node) → Quiet ≡ Wanted from → P
no_quiet from e = cc

-- what runs after a start ran before, or is what is started
runs_by_start : {P : Type 0} (s : StateView) (n : Node) (a : App) (k : Node) (b : App) → runs_at (with_started s n a Normal) k b ≡ true
    → (runs_at s k b ≡ true → P) → (k.0 ≡ n.0 → same_app b a ≡ true → P) → P
runs_by_start s n a k b r before moves = put_has (taken s.running n.0 a) n.0 k.0 a b r (λ t. before (taken_has s.running n.0 k.0 a b t)) moves

at_node : (n k : Node) → k.0 ≡ n.0 → Running n ≡ Running k
at_node n k e = ap (λ i. Running (numbered i)) (sym e)

stands_moved : (s : StateView) (m : Move) → Progresses s m → IsShaped s → RunsWhereItStands s → StandsWhereItRuns s
    → (k : Node) (b : App) → is_local s.cluster b ≡ false → runs_at (moved_state s m) k b ≡ true → standing_of (moved_state s m) b ≡ Running k
stands_moved s (Local n a) p shape runs h k b d r = runs_by_start s n a k b r (h.stands k b d)
    (λ e t. both (is_local s.cluster a) p.2 (ap (λ j. is_local s.cluster (app_numbered j)) (sym (same_number b.0 a.0 t)) ∙ d))
stands_moved s (Placement a from n) p shape runs h k b d r =
    let lt : a.0 < length s.standings = (let e = shape.standings in let l = p.1 in omega arith) in
    runs_by_start s n a k b r
    (λ u. cases (same_app b a)
    (λ t. no_wanted from k (sym p.2 ∙ sym (same_standing s a b t) ∙ h.stands k b d u))
    (λ f. stands_still s a n b f ∙ h.stands k b d u))
    (λ e t. stands_here s a n b lt t ∙ at_node n k e)
stands_moved s (Takeover a m n) p shape runs h k b d r =
    let lt : a.0 < length s.standings = (let e = shape.standings in let l = p.1 in omega arith) in
    let u : StateView = with_started s n a Normal in
    runs_by_start s n a k b (taken_has u.running m.0 k.0 a b r)
    (λ v. cases (same_app b a)
    (λ t. let at : m ≡ k = same_running m k (sym p.2 ∙ sym (same_standing s a b t) ∙ h.stands k b d v) in
    both (has (taken u.running m.0 a) m.0 a) (ap (λ i. has (taken u.running m.0 a) i a) (ap (λ (x : Node). x.0) at)
    ∙ ap (λ j. has (taken u.running m.0 a) k.0 (app_numbered j)) (sym (same_number b.0 a.0 t)) ∙ r)
    (taken_not u.running m.0 a (let x = length_put (taken s.running n.0 a) n.0 a in let y = length_taken s.running n.0 a in
    let z = row_there s.running m.0 a (runs.runs a m p.2) in omega (arith, x, y, z))))
    (λ f. stands_still s a n b f ∙ h.stands k b d v))
    (λ e t. stands_here s a n b lt t ∙ at_node n k e)

local_moved : (s : StateView) (m : Move) → Progresses s m → StandsWhereItRuns s → (b : App) → is_local s.cluster b ≡ true
    → standing_of (moved_state s m) b ≡ Quiet
local_moved s (Local n a) p h b l = h.local b l
local_moved s (Placement a from n) p h b l = cases (same_app b a)
    (λ t. no_quiet from (sym (h.local b l) ∙ same_standing s a b t ∙ p.2))
    (λ f. stands_still s a n b f ∙ h.local b l)
local_moved s (Takeover a m n) p h b l = cases (same_app b a)
    (λ t. both (is_local s.cluster a) (ap (λ j. is_local s.cluster (app_numbered j)) (sym (same_number b.0 a.0 t)) ∙ l) p.4)
    (λ f. stands_still s a n b f ∙ h.local b l)

listed_moved : (s : StateView) (m : Move) → Progresses s m → RunsWhereItStands s → StandsWhereItRuns s
    → (k : Node) (b : App) → is_started (moved_state s m) k b ≡ true → is_listed_at s.cluster b k ≡ true
listed_moved s m p runs h k b t = h.listed k b (started_before s m k b p runs t)

standing_moved : (s : StateView) (m : Move) → Progresses s m → IsShaped s → RunsWhereItStands s → StandsWhereItRuns s → StandsWhereItRuns (moved_state s m)
standing_moved s (Local n a) p shape runs h = record {
  listed = listed_moved s (Local n a) p runs h;
  stands = stands_moved s (Local n a) p shape runs h;
  local = local_moved s (Local n a) p h;
}
standing_moved s (Placement a from n) p shape runs h = record {
  listed = listed_moved s (Placement a from n) p runs h;
  stands = stands_moved s (Placement a from n) p shape runs h;
  local = local_moved s (Placement a from n) p h;
}
standing_moved s (Takeover a m n) p shape runs h = record {
  listed = listed_moved s (Takeover a m n) p runs h;
  stands = stands_moved s (Takeover a m n) p shape runs h;
  local = local_moved s (Takeover a m n) p h;
}

-- ---- timers
-- no application is lost or found again by a move
lost_now : (s : StateView) (a : App) (n : Node) (b : App) → is_lost (standing_of s a) ≡ false → is_lost (stands_now s a n b) ≡ is_lost (standing_of s b)
lost_now s a n b no_loss = at_set s.standings a.0 b.0 (Running n) Quiet
    (λ e. ap is_lost e)
    (λ e v. ap is_lost v ∙ sym (ap (λ j. is_lost (standing_of s (app_numbered j))) e ∙ no_loss))

timers_moved : (s : StateView) (m : Move) → Progresses s m → TimersFit s → TimersFit (moved_state s m)
timers_moved s (Local n a) p h = record { sync = h.sync; failover = h.failover; once = h.once; order = h.order; due = h.due }
timers_moved s (Placement a from n) p h = record {
  sync = h.sync;
  failover = λ b. h.failover b ∙ sym (lost_now s a n b (ap is_lost p.2));
  once = h.once;
  order = h.order;
  due = h.due;
}
timers_moved s (Takeover a m n) p h = record {
  sync = h.sync;
  failover = λ b. h.failover b ∙ sym (lost_now s a n b (ap is_lost p.2));
  once = h.once;
  order = h.order;
  due = h.due;
}

-- ---- all of it
within_moved : (s : StateView) (m : Move) → IsWithin s.cluster → IsWithin (moved_state s m).cluster
within_moved s (Local n a) h = h
within_moved s (Placement a from n) h = h
within_moved s (Takeover a m n) h = h

pub sound_moved : (s : StateView) (m : Move) → Progresses s m → IsSound s → IsSound (moved_state s m)
sound_moved s m p h = record {
  within = within_moved s m h.within;
  shaped = shaped_moved s m h.shaped p;
  once = once_moved s h.shaped h.runs m p h.once;
  idle = idle_moved s m p h.runs h.idle;
  standing = standing_moved s m p h.shaped h.runs h.standing;
  runs = runs_moved s h.shaped m p h.runs;
  timers = timers_moved s m p h.timers;
}
