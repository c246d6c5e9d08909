-- While applications settle, what is started stays so, and an application that is quiet starts nowhere.
use Rattle.std.proofs.Common.{◌≡◌, ◌<◌, ℕ, true, false, List, [], ◌∷◌, fold, length, nat_eq, refl, sym, ap, ◌∙◌, arith, subst}
use Rattle.rh_model.specs.ClusterView.{ClusterView, app_numbered}
use Rattle.rh_model.specs.declared.node.Node.{Node}
use Rattle.rh_model.specs.declared.node.App.{App}
use Rattle.rh_state.specs.declared.status.Kind.TheVariants.{Normal}
use Rattle.rh_state.specs.declared.status.Standing.TheVariants.{Quiet, Wanted, Running}
use Rattle.rh_state.specs.Numbers.{same_app}
use Rattle.rh_state.specs.StateView.{StateView, runs_at, waits_at, is_started, standing_of}
use Rattle.rh_rules.specs.declared.pick.Pick.{Pick}
use Rattle.rh_base.proofs.Lists.{cases}
use Rattle.rh_rules.specs.declared.notice.Move.{Move}
use Rattle.rh_rules.specs.declared.notice.Move.TheVariants.{Local, Placement, Takeover}
use Rattle.rh_rules.specs.Course.{Course, is_local}
use Rattle.rh_rules.specs.Moves.{with_started, with_stopped, moved, moved_state}
use Rattle.rh_rules.specs.Settling.{AreFirst, settled}
use Rattle.rh_trace.specs.Validity.{IsSound}
use Rattle.rh_base.proofs.Truths.{same_number, both, or_left, or_right}
use Rattle.rh_trace.proofs.Entries.{other_number, is_false, either, taken, put, has, taken_has, taken_keeps, put_keeps, put_gives, put_other}
use Rattle.rh_trace.proofs.Entries.{row_there, length_taken, there}
use Rattle.rh_trace.proofs.Falls.{app_of, Progresses}
use Rattle.rh_settle.proofs.Fuel.{state_moved, cluster_moved}
use Rattle.rh_trace.proofs.NextMoves.{enabled_progresses}
use Rattle.rh_settle.proofs.Resting.{rests, set_beside}
use Rattle.rh_settle.proofs.SettlingLaws.{settles_by_pick}
use Rattle.rh_settle.proofs.Soundly.{sound_moved}
use Rattle.rh_settle.proofs.Unchanged.{waits_told_state}

-- ---- tables
gives : (table : List (List App)) (n : ℕ) (a b : App) → n < length table → same_app b a ≡ true → has (put (taken table n a) n a) n b ≡ true
gives table n a b lt t = put_gives (taken table n a) n a b (let e = length_taken table n a in omega (arith, e, lt)) t

-- an application that goes to the end of its list stays in the table
kept : (table : List (List App)) (n k : ℕ) (a b : App) → n < length table → has table k b ≡ true → has (put (taken table n a) n a) k b ≡ true
kept table n k a b lt h = cases (same_app b a)
    (λ t. cases (nat_eq k n)
    (λ e. ap (λ i. has (put (taken table n a) n a) i b) (same_number k n e) ∙ gives table n a b lt t)
    (λ d. there (taken table n a) n k _ b (other_number k n d) ∙ there table n k _ b (other_number k n d) ∙ h))
    (λ f. put_keeps (taken table n a) n k a b (taken_keeps table n k a b f h))

-- one that leaves the other table is in this one then
changed : {P : Type 0} (table other : List (List App)) (n k : ℕ) (a b : App) → n < length table → has other k b ≡ true
    → (has (taken other n a) k b ≡ true → P) → (has (put (taken table n a) n a) k b ≡ true → P) → P
changed table other n k a b lt h stays goes = cases (same_app b a)
    (λ t. cases (nat_eq k n)
    (λ e. goes (ap (λ i. has (put (taken table n a) n a) i b) (same_number k n e) ∙ gives table n a b lt t))
    (λ d. stays (there other n k _ b (other_number k n d) ∙ h)))
    (λ f. stays (taken_keeps other n k a b f h))

had : (table : List (List App)) (n k : ℕ) (a b : App) → same_app b a ≡ false → has (put (taken table n a) n a) k b ≡ true → has table k b ≡ true
had table n k a b d h = taken_has table n k a b (put_other (taken table n a) n k a b d h)

-- ---- what is started stays so
start_keeps : (s : StateView) (n k : Node) (a b : App) → n.0 < length s.running → is_started s k b ≡ true → is_started (with_started s n a Normal) k b ≡ true
start_keeps s n k a b lt h = either (runs_at s k b) (waits_at s k b) h
    (λ r. or_left (runs_at (with_started s n a Normal) k b) _ (kept s.running n.0 k.0 a b lt r))
    (λ w. changed s.running s.waiting n.0 k.0 a b lt w
    (λ stays. or_right (runs_at (with_started s n a Normal) k b) _ stays)
    (λ goes. or_left (runs_at (with_started s n a Normal) k b) _ goes))

stop_keeps : (s : StateView) (n k : Node) (a b : App) → n.0 < length s.waiting → is_started s k b ≡ true → is_started (with_stopped s n a) k b ≡ true
stop_keeps s n k a b lt h = either (runs_at s k b) (waits_at s k b) h
    (λ r. changed s.waiting s.running n.0 k.0 a b lt r
    (λ stays. or_left (runs_at (with_stopped s n a) k b) _ stays)
    (λ goes. or_right (runs_at (with_stopped s n a) k b) _ goes))
    (λ w. or_right (runs_at (with_stopped s n a) k b) _ (kept s.waiting n.0 k.0 a b lt w))

move_keeps : (s : StateView) (m : Move) (k : Node) (b : App) → IsSound s → Progresses s m → is_started s k b ≡ true → is_started (moved_state s m) k b ≡ true
move_keeps s (Local n a) k b sound p h = start_keeps s n k a b (let e = sound.shaped.running in let l = p.0 in omega (arith, e, l)) h
move_keeps s (Placement a from n) k b sound p h = start_keeps s n k a b (let e = sound.shaped.running in let l = p.0 in omega (arith, e, l)) h
move_keeps s (Takeover a m n) k b sound p h =
    let running = sound.shaped.running in
    let waiting = sound.shaped.waiting in
    let there = row_there s.running m.0 a (sound.runs.runs a m p.2) in
    let same = length_taken s.waiting n.0 a in
    let number = p.0 in
    stop_keeps (with_started s n a Normal) m k a b (omega (arith, running, waiting, there, same))
    (start_keeps s n k a b (omega (arith, running, number)) h)

moves_keep : (ms : List Move) (o : Course) (k : Node) (b : App) → IsSound o.state → AreFirst o ms → is_started o.state k b ≡ true
    → is_started (fold moved o ms).state k b ≡ true
moves_keep [] o k b sound first h = h
moves_keep (m ∷ ms) o k b sound first h =
    let p = enabled_progresses o.state _ sound.shaped m first.0.enabled in
    moves_keep ms (moved o m) k b (subst IsSound (sym (state_moved o m)) (sound_moved o.state m p sound)) first.1
    (ap (λ s. is_started s k b) (state_moved o m) ∙ move_keeps o.state m k b sound p h)

pub settled_keeps : (pick : Pick) (o : Course) (k : Node) (b : App) → IsSound o.state → is_started o.state k b ≡ true
    → is_started (settled pick o).state k b ≡ true
settled_keeps pick o k b sound h =
    let run = settles_by_pick pick o sound.shaped in
    ap (λ (q : Course). is_started q.state k b) run.outcome
    ∙ ap (λ s. is_started s k b) (waits_told_state (fold moved o run.moves))
    ∙ moves_keep run.moves o k b sound run.are_first h

-- ---- one that is quiet starts nowhere
-- another one moves
moves_another : (s : StateView) (m : Move) (a : App) → Progresses s m → is_local s.cluster a ≡ false → standing_of s a ≡ Quiet
    → same_app a (app_of m) ≡ false
moves_another s (Local n b) a p far is =
    is_false _ (λ t. both (is_local s.cluster b) p.2 (ap (λ k. is_local s.cluster (app_numbered k)) (sym (same_number a.0 b.0 t)) ∙ far))
moves_another s (Placement b from n) a p far is =
    is_false _ (λ t. clash (sym is ∙ ap (λ k. standing_of s (app_numbered k)) (same_number a.0 b.0 t) ∙ p.2))
  where
    clash : Quiet ≡ Wanted from → ⊥
    clash e = cc e
moves_another s (Takeover b m n) a p far is =
    is_false _ (λ t. clash (sym is ∙ ap (λ k. standing_of s (app_numbered k)) (same_number a.0 b.0 t) ∙ p.2))
  where
    clash : Quiet ≡ Running m → ⊥
    clash e = cc e

quiet_moved : (s : StateView) (m : Move) (a : App) → Progresses s m → standing_of s a ≡ Quiet → standing_of (moved_state s m) a ≡ Quiet
quiet_moved s (Local n b) a p is = is
quiet_moved s (Placement b from n) a p is = set_beside s.standings a b (Wanted from) (Running n) (ap rests is) p.2 refl ∙ is
quiet_moved s (Takeover b m n) a p is = set_beside s.standings a b (Running m) (Running n) (ap rests is) p.2 refl ∙ is

start_of_another : (s : StateView) (n k : Node) (a b : App) → same_app b a ≡ false → is_started (with_started s n a Normal) k b ≡ true → is_started s k b ≡ true
start_of_another s n k a b d h = either (runs_at (with_started s n a Normal) k b) (waits_at (with_started s n a Normal) k b) h
    (λ r. or_left (runs_at s k b) _ (had s.running n.0 k.0 a b d r))
    (λ w. or_right (runs_at s k b) _ (taken_has s.waiting n.0 k.0 a b w))

stop_of_another : (s : StateView) (n k : Node) (a b : App) → same_app b a ≡ false → is_started (with_stopped s n a) k b ≡ true → is_started s k b ≡ true
stop_of_another s n k a b d h = either (runs_at (with_stopped s n a) k b) (waits_at (with_stopped s n a) k b) h
    (λ r. or_left (runs_at s k b) _ (taken_has s.running n.0 k.0 a b r))
    (λ w. or_right (runs_at s k b) _ (had s.waiting n.0 k.0 a b d w))

move_of_another : (s : StateView) (m : Move) (k : Node) (b : App) → same_app b (app_of m) ≡ false → is_started (moved_state s m) k b ≡ true
    → is_started s k b ≡ true
move_of_another s (Local n a) k b d h = start_of_another s n k a b d h
move_of_another s (Placement a from n) k b d h = start_of_another s n k a b d h
move_of_another s (Takeover a m n) k b d h = start_of_another s n k a b d (stop_of_another (with_started s n a Normal) m k a b d h)

moves_start_none : (ms : List Move) (o : Course) (k : Node) (a : App) → IsSound o.state → AreFirst o ms → is_local o.state.cluster a ≡ false
    → standing_of o.state a ≡ Quiet → is_started o.state k a ≡ false → is_started (fold moved o ms).state k a ≡ false
moves_start_none [] o k a sound first far is off = off
moves_start_none (m ∷ ms) o k a sound first far is off =
    let p = enabled_progresses o.state _ sound.shaped m first.0.enabled in
    moves_start_none ms (moved o m) k a (subst IsSound (sym (state_moved o m)) (sound_moved o.state m p sound)) first.1
    (ap (λ (c : ClusterView). is_local c a) (cluster_moved o m) ∙ far)
    (ap (λ s. standing_of s a) (state_moved o m) ∙ quiet_moved o.state m a p is)
    (is_false _ (λ t. both (is_started o.state k a)
    (move_of_another o.state m k a (moves_another o.state m a p far is) (ap (λ s. is_started s k a) (sym (state_moved o m)) ∙ t)) off))

pub settled_starts_none : (pick : Pick) (o : Course) (k : Node) (a : App) → IsSound o.state → is_local o.state.cluster a ≡ false
    → standing_of o.state a ≡ Quiet → is_started o.state k a ≡ false → is_started (settled pick o).state k a ≡ false
settled_starts_none pick o k a sound far is off =
    let run = settles_by_pick pick o sound.shaped in
    ap (λ (q : Course). is_started q.state k a) run.outcome
    ∙ ap (λ s. is_started s k a) (waits_told_state (fold moved o run.moves))
    ∙ moves_start_none run.moves o k a sound run.are_first far is off
