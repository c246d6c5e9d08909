-- The applications settle alike at a later time.
use Rattle.std.proofs.Common.{◌≡◌, ℕ, ◌+◌, ◌*◌, [], zero, suc, map, Option, Some, None, refl, ap, ◌∙◌}
use Rattle.rh_state.specs.declared.status.Kind.{Kind}
use Rattle.rh_state.specs.StateView.{waits_at}
use Rattle.rh_rules.specs.declared.pick.Pick.{Pick}
use Rattle.rh_rules.specs.Placing.{picked}
use Rattle.rh_rules.specs.declared.notice.Move.{Move}
use Rattle.rh_rules.specs.declared.notice.Move.TheVariants.{Local, Placement, Takeover}
use Rattle.rh_rules.specs.declared.notice.Notice.TheVariants as notice
use Rattle.rh_rules.specs.declared.notice.Pair.{Pair}
use Rattle.rh_rules.specs.Course.{Course, fresh_of, told, now_in}
use Rattle.rh_rules.specs.Moves.{moved, moved_state, lost_elsewhere}
use Rattle.rh_rules.specs.Settling.{nexts, after_move, moved_by, pair_count, all_moved, tell_waiting, waits_told, settled}
use Rattle.rh_keys.proofs.Reading.{kind_same, moves_same}
use Rattle.rh_keys.proofs.Shifting.{later, shifted, shifted_course, either_way, each_step}

-- ---- a move
pub moved_later : (d : ℕ) (o : Course) (m : Move) → moved (shifted_course d o) m ≡ shifted_course d (moved o m)
moved_later d o (Local n a) = refl
moved_later d o (Placement a from n) =
    ap (λ (k : Kind). told (now_in (shifted_course d o) (shifted d (moved_state o.state (Placement a from n)))) (notice.Started a n k (lost_elsewhere from n)))
    (kind_same o.state (d + o.state.time) [] [] (map (later d) o.state.timers) a from n)
moved_later d o (Takeover a m n) = refl

nexts_later : (d : ℕ) (o : Course) → nexts (shifted_course d o) ≡ nexts o
nexts_later d o = moves_same o.state (d + o.state.time) [] [] (map (later d) o.state.timers) (fresh_of o)

-- ---- all of them
moved_by_later : (d : ℕ) (pick : Pick) (k : ℕ) (o : Course) → moved_by pick k (shifted_course d o) ≡ shifted_course d (moved_by pick k o)
unfolding moved_by
moved_by_later d pick zero o = refl
moved_by_later d pick (suc k) o =
    ap (λ ms. after_move (shifted_course d o) (picked pick ms) (moved_by pick k)) (nexts_later d o)
    ∙ by (picked pick (nexts o)) (λ p. moved_by_later d pick k p)
  where
    by : (next : Option Move) → ((p : Course) → moved_by pick k (shifted_course d p) ≡ shifted_course d (moved_by pick k p))
        → after_move (shifted_course d o) next (moved_by pick k) ≡ shifted_course d (after_move o next (moved_by pick k))
    by None rest = refl
    by (Some m) rest = ap (moved_by pick k) (moved_later d o m) ∙ rest (moved o m)

all_moved_later : (d : ℕ) (pick : Pick) (o : Course) → all_moved pick (shifted_course d o) ≡ shifted_course d (all_moved pick o)
unfolding all_moved
all_moved_later d pick o = moved_by_later d pick (2 * pair_count o.state.cluster) o

-- ---- the pairs that wait
tell_waiting_later : (d : ℕ) (o : Course) (p : Pair) → tell_waiting (shifted_course d o) p ≡ shifted_course d (tell_waiting o p)
tell_waiting_later d o p = either_way (shifted_course d) (waits_at o.state p.node p.app) refl refl

pub settled_later : (d : ℕ) (pick : Pick) (o : Course) → settled pick (shifted_course d o) ≡ shifted_course d (settled pick o)
settled_later d pick o = ap waits_told (all_moved_later d pick o)
    ∙ each_step (shifted_course d) tell_waiting (tell_waiting_later d) (all_moved pick o) (all_moved pick o).marked
