-- In each profile the same moves come next, and do the same.
use Rattle.std.proofs.Common.{◌≡◌, ℕ, zero, suc, ◌*◌, Bool, true, false, cond, List, [], ◌∷◌, fold, Option, Some, None, refl, ap, ◌∙◌}
use Rattle.rh_state.specs.Numbers.{nodes_of, apps_of}
use Rattle.rh_state.specs.StateView.{StateView, waits_at}
use Rattle.rh_rules.specs.declared.pick.Pick.{Pick}
use Rattle.rh_rules.specs.Placing.{picked, deps_run, is_operational, best, candidates}
use Rattle.rh_rules.specs.declared.notice.Move.{Move}
use Rattle.rh_rules.specs.declared.notice.Move.TheVariants.{Local, Placement, Takeover}
use Rattle.rh_rules.specs.declared.notice.Notice.TheVariants as notice
use Rattle.rh_rules.specs.declared.notice.Pair.{Pair}
use Rattle.rh_rules.specs.Course.{Course, told, fresh_of}
use Rattle.rh_rules.specs.Moves.{can_start, local_moves, placements, calls_away, takeovers, moved}
use Rattle.rh_rules.specs.Settling.{next_moves, tell_waiting, waits_told, nexts, after_move, moved_by, all_moved, pair_count, settled}
use Rattle.rh_text_laws.specs.Profiles.{state_in}

-- ---- what is done alike is done alike in each branch, and over a list
pub swap : {A B : Type 0} (f : A → B) (b : Bool) (x y : A) → cond b (f x) (f y) ≡ f (cond b x y)
swap f true x y = refl
swap f false x y = refl

pub through : {S A : Type 0} (f : S → S) (g : S → A → S) → ((s : S) (x : A) → g (f s) x ≡ f (g s x)) → (s : S) (xs : List A)
    → fold g (f s) xs ≡ f (fold g s xs)
through f g each s [] = refl
through f g each s (x ∷ xs) = ap (λ t. fold g t xs) (each s x) ∙ through f g each (g s x) xs

-- a course in a cluster of this profile
abbrev pub course_in : ℕ → Course → Course
course_in profile o = record o { state = state_in profile o.state }

pub moves_alike : (profile : ℕ) (s : StateView) (fresh : List Pair) → next_moves (state_in profile s) fresh ≡ next_moves s fresh
unfolding nodes_of apps_of deps_run is_operational best candidates can_start local_moves placements calls_away takeovers next_moves
moves_alike profile s fresh = refl

module _ (profile : ℕ) where
  move_alike : (o : Course) (move : Move) → moved (course_in profile o) move ≡ course_in profile (moved o move)
  move_alike o (Local n a) = refl
  move_alike o (Placement a None n) = refl
  move_alike o (Placement a (Some m) n) = refl
  move_alike o (Takeover a m n) = refl

  moved_alike : (pick : Pick) (limit : ℕ) (o : Course) → moved_by pick limit (course_in profile o) ≡ course_in profile (moved_by pick limit o)
  unfolding moved_by
  moved_alike pick zero o = refl
  moved_alike pick (suc limit) o =
      ap (λ (moves : List Move). after_move (course_in profile o) (picked pick moves) (moved_by pick limit)) (moves_alike profile o.state (fresh_of o))
      ∙ by (λ move. moved_alike pick limit (moved o move)) (picked pick (nexts o))
    where
      by : ((move : Move) → moved_by pick limit (course_in profile (moved o move)) ≡ course_in profile (moved_by pick limit (moved o move)))
          → (move : Option Move) → after_move (course_in profile o) move (moved_by pick limit) ≡ course_in profile (after_move o move (moved_by pick limit))
      by rest None = refl
      by rest (Some move) = ap (moved_by pick limit) (move_alike o move) ∙ rest move

  waiting_alike : (o : Course) (p : Pair) → tell_waiting (course_in profile o) p ≡ course_in profile (tell_waiting o p)
  waiting_alike o p = swap (course_in profile) (waits_at o.state p.node p.app) (told o (notice.Waits p.app p.node)) o

  pub settled_alike : (pick : Pick) (o : Course) → settled pick (course_in profile o) ≡ course_in profile (settled pick o)
  unfolding all_moved
  settled_alike pick o =
      ap waits_told (moved_alike pick (2 * pair_count o.state.cluster) o)
      ∙ through (course_in profile) tell_waiting waiting_alike (all_moved pick o) (all_moved pick o).marked
