-- Earlier notices don't matter: behind them settling is the same.
use Rattle.std.proofs.Common.{◌≡◌, ℕ, ◌*◌, zero, suc, Bool, true, false, cond, List, [], ◌∷◌, ◌++◌, fold, Option, Some, None, refl, ap, ◌∙◌, append_assoc}
use Rattle.rh_state.specs.declared.status.Kind.TheVariants as kind
use Rattle.rh_state.specs.StateView.{waits_at}
use Rattle.rh_rules.specs.declared.pick.Pick.{Pick}
use Rattle.rh_rules.specs.Placing.{picked}
use Rattle.rh_rules.specs.declared.notice.Move.{Move}
use Rattle.rh_rules.specs.declared.notice.Move.TheVariants.{Local, Placement, Takeover}
use Rattle.rh_rules.specs.declared.notice.Notice.{Notice}
use Rattle.rh_rules.specs.declared.notice.Notice.TheVariants as notice
use Rattle.rh_rules.specs.declared.notice.Pair.{Pair}
use Rattle.rh_rules.specs.Course.{Course, told, now_in}
use Rattle.rh_rules.specs.Moves.{moved, moved_state}
use Rattle.rh_rules.specs.Settling.{nexts, after_move, moved_by, pair_count, all_moved, tell_waiting, waits_told, settled}

-- the same course behind earlier notices
abbrev pub after_notices : List Notice → Course → Course
after_notices base o = record o { notices = base ++ o.notices }

pub fold_after : {A : Type 0} (base : List Notice) (f : Course → A → Course) → ((o : Course) (x : A) → f (after_notices base o) x ≡ after_notices base (f o x))
    → (o : Course) (xs : List A) → fold f (after_notices base o) xs ≡ after_notices base (fold f o xs)
fold_after base f each o [] = refl
fold_after base f each o (x ∷ xs) = ap (λ p. fold f p xs) (each o x) ∙ fold_after base f each (f o x) xs

-- what is told is told behind them
pub told_after : (base : List Notice) (o : Course) (notice : Notice) → told (after_notices base o) notice ≡ after_notices base (told o notice)
told_after base o notice = λ i. record { state = o.state; notices = append_assoc base o.notices (notice ∷ []) i; marked = o.marked; freed = o.freed }

pub moved_after : (base : List Notice) (o : Course) (m : Move) → moved (after_notices base o) m ≡ after_notices base (moved o m)
moved_after base o (Local n a) = told_after base (now_in o (moved_state o.state (Local n a))) _
moved_after base o (Placement a from n) = told_after base (now_in o (moved_state o.state (Placement a from n))) _
moved_after base o (Takeover a m n) =
    let p : Course = now_in o (moved_state o.state (Takeover a m n)) in
    let started : Notice = notice.Started a n (kind.Takeover m) None in
    ap (λ q. told q (notice.Stopped a m)) (told_after base p started) ∙ told_after base (told p started) (notice.Stopped a m)

moved_by_after : (base : List Notice) (pick : Pick) (k : ℕ) (o : Course) → moved_by pick k (after_notices base o) ≡ after_notices base (moved_by pick k o)
unfolding moved_by
moved_by_after base pick zero o = refl
moved_by_after base pick (suc k) o = by (picked pick (nexts o)) (λ p. moved_by_after base pick k p)
  where
    by : (next : Option Move) → ((p : Course) → moved_by pick k (after_notices base p) ≡ after_notices base (moved_by pick k p))
        → after_move (after_notices base o) next (moved_by pick k) ≡ after_notices base (after_move o next (moved_by pick k))
    by None rest = refl
    by (Some m) rest = ap (moved_by pick k) (moved_after base o m) ∙ rest (moved o m)

all_moved_after : (base : List Notice) (pick : Pick) (o : Course) → all_moved pick (after_notices base o) ≡ after_notices base (all_moved pick o)
unfolding all_moved
all_moved_after base pick o = moved_by_after base pick (2 * pair_count o.state.cluster) o

tell_waiting_after : (base : List Notice) (o : Course) (p : Pair) → tell_waiting (after_notices base o) p ≡ after_notices base (tell_waiting o p)
tell_waiting_after base o p = by (waits_at o.state p.node p.app)
  where
    by : (b : Bool) → cond b (told (after_notices base o) (notice.Waits p.app p.node)) (after_notices base o)
        ≡ after_notices base (cond b (told o (notice.Waits p.app p.node)) o)
    by true = told_after base o (notice.Waits p.app p.node)
    by false = refl

pub waits_told_after : (base : List Notice) (o : Course) → waits_told (after_notices base o) ≡ after_notices base (waits_told o)
waits_told_after base o = fold_after base tell_waiting (tell_waiting_after base) o o.marked

pub settled_after : (base : List Notice) (pick : Pick) (o : Course) → settled pick (after_notices base o) ≡ after_notices base (settled pick o)
settled_after base pick o = ap waits_told (all_moved_after base pick o) ∙ waits_told_after base (all_moved pick o)
