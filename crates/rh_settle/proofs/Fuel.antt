-- The limit on the moves is never met.
use Rattle.std.proofs.Common.{◌≡◌, ℕ, ◌*◌, ◌<◌, ◌≤◌, zero, suc, Option, Some, None, refl, sym, ap, ◌∙◌, arith, subst}
use Rattle.rh_model.specs.ClusterView.{ClusterView, node_count, app_count}
use Rattle.rh_state.specs.Shape.{IsShaped}
use Rattle.rh_state.specs.StateView.{StateView}
use Rattle.rh_rules.specs.declared.pick.Pick.{Pick}
use Rattle.rh_rules.specs.Placing.{picked}
use Rattle.rh_rules.specs.declared.notice.Move.{Move}
use Rattle.rh_rules.specs.declared.notice.Move.TheVariants.{Local, Placement, Takeover}
use Rattle.rh_rules.specs.Course.{Course, fresh_of}
use Rattle.rh_rules.specs.Moves.{moved, moved_state}
use Rattle.rh_rules.specs.Settling.{nexts, after_move, moved_by, pair_count, all_moved}
use Rattle.rh_settle.proofs.Searches.{contains_picked}
use Rattle.rh_trace.proofs.Points.{points, bounded}
use Rattle.rh_trace.proofs.Falls.{Progresses, falls}
use Rattle.rh_trace.proofs.Shapes.{shaped_moved}
use Rattle.rh_trace.proofs.NextMoves.{progresses}

-- the state, the marks, the fresh pairs and the cluster after a move
pub state_moved : (o : Course) (m : Move) → (moved o m).state ≡ moved_state o.state m
state_moved o (Local n a) = refl
state_moved o (Placement a f n) = refl
state_moved o (Takeover a m n) = refl

pub marks_moved : (o : Course) (m : Move) → (moved o m).marked ≡ o.marked
marks_moved o (Local n a) = refl
marks_moved o (Placement a f n) = refl
marks_moved o (Takeover a m n) = refl

pub fresh_moved : (o : Course) (m : Move) → fresh_of (moved o m) ≡ fresh_of o
fresh_moved o (Local n a) = refl
fresh_moved o (Placement a f n) = refl
fresh_moved o (Takeover a m n) = refl

pub cluster_moved : (o : Course) (m : Move) → (moved o m).state.cluster ≡ o.state.cluster
cluster_moved o (Local n a) = refl
cluster_moved o (Placement a f n) = refl
cluster_moved o (Takeover a m n) = refl

pub shaped_on : (o : Course) (m : Move) → IsShaped o.state → Progresses o.state m → IsShaped (moved o m).state
shaped_on o m h p = subst IsShaped (sym (state_moved o m)) (shaped_moved o.state m h p)

pub progress : (o : Course) (pick : Pick) (m : Move) → IsShaped o.state → picked pick (nexts o) ≡ Some m → Progresses o.state m
progress o pick m h e = progresses o.state (fresh_of o) h m (contains_picked pick (nexts o) m e)

pub shaped_next : (o : Course) (pick : Pick) (m : Move) → IsShaped o.state → picked pick (nexts o) ≡ Some m → IsShaped (moved o m).state
shaped_next o pick m h e = shaped_on o m h (progress o pick m h e)

pub falls_next : (o : Course) (pick : Pick) (m : Move) → IsShaped o.state → picked pick (nexts o) ≡ Some m → points (moved o m).state < points o.state
falls_next o pick m h e =
    let f = falls o.state m h (progress o pick m h e) in
    let g = ap points (state_moved o m) in omega arith

pub by_option : {A P : Type 0} (o : Option A) → (o ≡ None → P) → ((x : A) → o ≡ Some x → P) → P
by_option None none some = none refl
by_option (Some x) none some = some x refl

-- where there is no next move, nothing moves
stops : (pick : Pick) (o : Course) (k : ℕ) → picked pick (nexts o) ≡ None → moved_by pick k o ≡ o
unfolding moved_by
stops pick o zero e = refl
stops pick o (suc k) e = ap (λ r. after_move o r (moved_by pick k)) e

goes : (pick : Pick) (o : Course) (m : Move) (k : ℕ) → picked pick (nexts o) ≡ Some m → moved_by pick (suc k) o ≡ moved_by pick k (moved o m)
unfolding moved_by
goes pick o m k e = ap (λ r. after_move o r (moved_by pick k)) e

-- every limit that the points don't exceed gives the same
enough : (pick : Pick) (k j : ℕ) (o : Course) → IsShaped o.state → points o.state ≤ k → points o.state ≤ j → moved_by pick k o ≡ moved_by pick j o
enough pick zero j o shape hk hj = by_option (picked pick (nexts o))
    (λ e. stops pick o zero e ∙ sym (stops pick o j e))
    (λ m e. let f = falls_next o pick m shape e in absurd (omega arith))
enough pick (suc k) zero o shape hk hj = by_option (picked pick (nexts o))
    (λ e. stops pick o (suc k) e ∙ sym (stops pick o zero e))
    (λ m e. let f = falls_next o pick m shape e in absurd (omega arith))
enough pick (suc k) (suc j) o shape hk hj = by_option (picked pick (nexts o))
    (λ e. stops pick o (suc k) e ∙ sym (stops pick o (suc j) e))
    (λ m e. let f = falls_next o pick m shape e in
    goes pick o m k e ∙ enough pick k j (moved o m) (shaped_next o pick m shape e) (omega arith) (omega arith) ∙ sym (goes pick o m j e))

pub within : (s : StateView) → points s ≤ 2 * pair_count s.cluster
within s = let h = bounded s in let e = swap (node_count s.cluster) (app_count s.cluster) in omega arith
  where
    swap : (n a : ℕ) → n * (a * 2) ≡ 2 * (n * a)
    swap n a = omega arith

-- all moves are those behind the next one
pub unrolled : (pick : Pick) (o : Course) (m : Move) → IsShaped o.state → picked pick (nexts o) ≡ Some m → all_moved pick o ≡ all_moved pick (moved o m)
unfolding all_moved
unrolled pick o m shape e =
    let limit : ℕ = 2 * pair_count o.state.cluster in
    let f = falls_next o pick m shape e in
    let w = within o.state in
    let c : 2 * pair_count (moved o m).state.cluster ≡ limit = ap (λ (v : ClusterView). 2 * pair_count v) (cluster_moved o m) in
    enough pick limit (suc limit) o shape w (omega arith)
    ∙ goes pick o m limit e
    ∙ ap (λ k. moved_by pick k (moved o m)) (sym c)

pub ended : (pick : Pick) (o : Course) → picked pick (nexts o) ≡ None → all_moved pick o ≡ o
unfolding all_moved
ended pick o e = stops pick o (2 * pair_count o.state.cluster) e
