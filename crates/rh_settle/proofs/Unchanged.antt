-- What settling leaves as it is: all but the lists of the applications that run and wait, the start kinds and the standings.
use Rattle.std.proofs.Common.{◌≡◌, ℕ, ◌*◌, zero, suc, Bool, true, false, cond, List, [], ◌∷◌, fold, Option, Some, None, refl, ap, ◌∙◌}
use Rattle.rh_state.specs.StateView.{StateView, waits_at}
use Rattle.rh_rules.specs.declared.pick.Pick.{Pick}
use Rattle.rh_rules.specs.Placing.{picked}
use Rattle.rh_rules.specs.declared.notice.Move.{Move}
use Rattle.rh_rules.specs.declared.notice.Move.TheVariants.{Local, Placement, Takeover}
use Rattle.rh_rules.specs.declared.notice.Notice.{Notice}
use Rattle.rh_rules.specs.declared.notice.Notice.TheVariants as notice
use Rattle.rh_rules.specs.declared.notice.Pair.{Pair}
use Rattle.rh_rules.specs.Course.{Course, told, fresh_of}
use Rattle.rh_rules.specs.Moves.{moved, moved_state}
use Rattle.rh_rules.specs.Settling.{nexts, after_move, moved_by, pair_count, all_moved, tell_waiting, waits_told, settled, Settles}
use Rattle.rh_settle.proofs.Fuel.{state_moved, marks_moved, fresh_moved}

-- ---- the pairs that wait are told, and no more
module _ {A : Type 0} (F : Course → A) (each : (o : Course) (n : Notice) → F (told o n) ≡ F o) where
  tell_keeps : (o : Course) (p : Pair) → F (tell_waiting o p) ≡ F o
  tell_keeps o p = by (waits_at o.state p.node p.app)
    where
      by : (b : Bool) → F (cond b (told o (notice.Waits p.app p.node)) o) ≡ F o
      by true = each o (notice.Waits p.app p.node)
      by false = refl

  tells_keep : (o : Course) (ps : List Pair) → F (fold tell_waiting o ps) ≡ F o
  tells_keep o [] = refl
  tells_keep o (p ∷ ps) = tells_keep (tell_waiting o p) ps ∙ tell_keeps o p

pub tell_marked : (o : Course) (p : Pair) → (tell_waiting o p).marked ≡ o.marked
tell_marked = tell_keeps (λ o. o.marked) (λ o n. refl)

pub waits_told_state : (o : Course) → (waits_told o).state ≡ o.state
waits_told_state o = tells_keep (λ p. p.state) (λ p n. refl) o o.marked

-- ---- what no move changes, settling doesn't
module _ {A : Type 0} (F : Course → A) (each : (o : Course) (m : Move) → F (moved o m) ≡ F o) where
  by_moves : (o : Course) (ms : List Move) → F (fold moved o ms) ≡ F o
  by_moves o [] = refl
  by_moves o (m ∷ ms) = by_moves (moved o m) ms ∙ each o m

  by_pick : (pick : Pick) (k : ℕ) (o : Course) → F (moved_by pick k o) ≡ F o
  unfolding moved_by
  by_pick pick zero o = refl
  by_pick pick (suc k) o = by (picked pick (nexts o)) (λ p. by_pick pick k p)
    where
      by : (next : Option Move) → ((p : Course) → F (moved_by pick k p) ≡ F p) → F (after_move o next (moved_by pick k)) ≡ F o
      by None rest = refl
      by (Some m) rest = rest (moved o m) ∙ each o m

  by_all : (pick : Pick) (o : Course) → F (all_moved pick o) ≡ F o
  unfolding all_moved
  by_all pick o = by_pick pick (2 * pair_count o.state.cluster) o

module _ {A : Type 0} (F : StateView → A) (each : (s : StateView) (m : Move) → F (moved_state s m) ≡ F s) where
  each_course : (o : Course) (m : Move) → F (moved o m).state ≡ F o.state
  each_course o m = ap F (state_moved o m) ∙ each o.state m

  pub settled_keeps : (pick : Pick) (o : Course) → F (settled pick o).state ≡ F o.state
  settled_keeps pick o = ap F (waits_told_state (all_moved pick o)) ∙ by_all (λ p. F p.state) each_course pick o

  pub settles_keeps : (o p : Course) → Settles o p → F p.state ≡ F o.state
  settles_keeps o p run = ap (λ (q : Course). F q.state) run.outcome ∙ ap F (waits_told_state (fold moved o run.moves))
      ∙ by_moves (λ q. F q.state) each_course o run.moves

-- ---- the marks and the fresh pairs
pub all_moved_marked : (pick : Pick) (o : Course) → (all_moved pick o).marked ≡ o.marked
all_moved_marked pick o = by_all (λ p. p.marked) marks_moved pick o

pub waits_told_fresh : (o : Course) → fresh_of (waits_told o) ≡ fresh_of o
waits_told_fresh o = tells_keep fresh_of (λ p n. refl) o o.marked

pub moves_fresh : (o : Course) (ms : List Move) → fresh_of (fold moved o ms) ≡ fresh_of o
moves_fresh o ms = by_moves fresh_of fresh_moved o ms

-- ---- parts of the state
pub cluster_same : (s : StateView) (m : Move) → (moved_state s m).cluster ≡ s.cluster
cluster_same s (Local n a) = refl
cluster_same s (Placement a from n) = refl
cluster_same s (Takeover a m n) = refl

pub settled_cluster : (pick : Pick) (o : Course) → (settled pick o).state.cluster ≡ o.state.cluster
settled_cluster = settled_keeps (λ (s : StateView). s.cluster) cluster_same

pub settles_cluster : (o p : Course) → Settles o p → p.state.cluster ≡ o.state.cluster
settles_cluster = settles_keeps (λ (s : StateView). s.cluster) cluster_same

time_same : (s : StateView) (m : Move) → (moved_state s m).time ≡ s.time
time_same s (Local n a) = refl
time_same s (Placement a from n) = refl
time_same s (Takeover a m n) = refl

pub settled_time : (pick : Pick) (o : Course) → (settled pick o).state.time ≡ o.state.time
settled_time = settled_keeps (λ (s : StateView). s.time) time_same

pub settles_time : (o p : Course) → Settles o p → p.state.time ≡ o.state.time
settles_time = settles_keeps (λ (s : StateView). s.time) time_same

modes_same : (s : StateView) (m : Move) → (moved_state s m).modes ≡ s.modes
modes_same s (Local n a) = refl
modes_same s (Placement a from n) = refl
modes_same s (Takeover a m n) = refl

pub settled_modes : (pick : Pick) (o : Course) → (settled pick o).state.modes ≡ o.state.modes
settled_modes = settled_keeps (λ (s : StateView). s.modes) modes_same

pub settles_modes : (o p : Course) → Settles o p → p.state.modes ≡ o.state.modes
settles_modes = settles_keeps (λ (s : StateView). s.modes) modes_same

incarnations_same : (s : StateView) (m : Move) → (moved_state s m).incarnations ≡ s.incarnations
incarnations_same s (Local n a) = refl
incarnations_same s (Placement a from n) = refl
incarnations_same s (Takeover a m n) = refl

pub settled_incarnations : (pick : Pick) (o : Course) → (settled pick o).state.incarnations ≡ o.state.incarnations
settled_incarnations = settled_keeps (λ (s : StateView). s.incarnations) incarnations_same

pub settles_incarnations : (o p : Course) → Settles o p → p.state.incarnations ≡ o.state.incarnations
settles_incarnations = settles_keeps (λ (s : StateView). s.incarnations) incarnations_same

restarts_same : (s : StateView) (m : Move) → (moved_state s m).restarts ≡ s.restarts
restarts_same s (Local n a) = refl
restarts_same s (Placement a from n) = refl
restarts_same s (Takeover a m n) = refl

pub settled_restarts : (pick : Pick) (o : Course) → (settled pick o).state.restarts ≡ o.state.restarts
settled_restarts = settled_keeps (λ (s : StateView). s.restarts) restarts_same

pub settles_restarts : (o p : Course) → Settles o p → p.state.restarts ≡ o.state.restarts
settles_restarts = settles_keeps (λ (s : StateView). s.restarts) restarts_same

allowed_same : (s : StateView) (m : Move) → (moved_state s m).allowed ≡ s.allowed
allowed_same s (Local n a) = refl
allowed_same s (Placement a from n) = refl
allowed_same s (Takeover a m n) = refl

pub settled_allowed : (pick : Pick) (o : Course) → (settled pick o).state.allowed ≡ o.state.allowed
settled_allowed = settled_keeps (λ (s : StateView). s.allowed) allowed_same

pub settles_allowed : (o p : Course) → Settles o p → p.state.allowed ≡ o.state.allowed
settles_allowed = settles_keeps (λ (s : StateView). s.allowed) allowed_same

timers_same : (s : StateView) (m : Move) → (moved_state s m).timers ≡ s.timers
timers_same s (Local n a) = refl
timers_same s (Placement a from n) = refl
timers_same s (Takeover a m n) = refl

pub settled_timers : (pick : Pick) (o : Course) → (settled pick o).state.timers ≡ o.state.timers
settled_timers = settled_keeps (λ (s : StateView). s.timers) timers_same

pub settles_timers : (o p : Course) → Settles o p → p.state.timers ≡ o.state.timers
settles_timers = settles_keeps (λ (s : StateView). s.timers) timers_same
