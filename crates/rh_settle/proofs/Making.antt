-- One turn of settling.
use Rattle.std.proofs.Common.{◌≡◌, ◌<◌, ◌+◌, ℕ, List, [], Some, None, length, get_or, take, fold, sym, ap, ◌∙◌, arith, subst}
use Rattle.std.proofs.lemmas.List.Sums.{fold_more}
use Rattle.rh_state.specs.Shape.{IsShaped}
use Rattle.rh_rules.specs.declared.pick.Pick.{Pick}
use Rattle.rh_rules.specs.Placing.{picked}
use Rattle.rh_rules.specs.declared.notice.Move.{Move}
use Rattle.rh_rules.specs.declared.notice.Pair.{Pair}
use Rattle.rh_rules.specs.Course.{Course}
use Rattle.rh_rules.specs.Moves.{moved, moved_state}
use Rattle.rh_trace.specs.Making.{CanBeMade}
use Rattle.rh_rules.specs.Settling.{nexts, all_moved, tell_waiting}
use Rattle.rh_trace.specs.Validity.{RunsWhereItStands}
use Rattle.rh_settle.proofs.Searches.{none_picked}
use Rattle.rh_trace.proofs.Points.{points}
use Rattle.rh_settle.proofs.Unchanged.{tell_marked}
use Rattle.rh_trace.proofs.Falls.{Progresses}
use Rattle.rh_settle.proofs.Fuel.{state_moved, progress, falls_next, unrolled, ended}
use Rattle.rh_trace.proofs.Kept.{can_be_made, runs_moved}

module _ (o : Course) (pick : Pick) (m : Move) (shape : IsShaped o.state) (next : Some m ≡ picked pick (nexts o)) where
  known : Progresses o.state m
  known = progress o pick m shape (sym next)

  pub makeable : RunsWhereItStands o.state → CanBeMade o.state m
  makeable runs = can_be_made o.state shape runs m known

  module _ (p : Course) (made : p ≡ moved o m) where
    is_moved : p.state ≡ moved_state o.state m
    is_moved = ap (λ (q : Course). q.state) made ∙ state_moved o m

    pub smaller : points p.state < points o.state
    smaller =
        let f = falls_next o pick m shape (sym next) in
        let e = ap (λ (q : Course). points q.state) made in omega arith

    pub same : all_moved pick p ≡ all_moved pick o
    same = ap (all_moved pick) made ∙ sym (unrolled pick o m shape (sym next))

    pub runs_still : RunsWhereItStands o.state → RunsWhereItStands p.state
    runs_still runs = subst RunsWhereItStands (sym is_moved) (runs_moved o.state shape m known runs)

-- the end
pub none_left : (o : Course) (pick : Pick) → None ≡ picked pick (nexts o) → (all_moved pick o ≡ o) × (nexts o ≡ [])
none_left o pick h = (ended pick o (sym h), none_picked pick (nexts o) (sym h))

-- one marked pair more is told, if it waits
module _ (first o p : Course) (seen : List Pair) (i : ℕ) (d : Pair) (is : seen ≡ first.marked) (made : p ≡ tell_waiting o (get_or seen i d)) where
  pub one_told : i < length first.marked → o ≡ fold tell_waiting first (take i first.marked) → p ≡ fold tell_waiting first (take (i + 1) first.marked)
  one_told lt same =
      made
      ∙ ap (λ (ps : List Pair). tell_waiting o (get_or ps i d)) is
      ∙ ap (λ (q : Course). tell_waiting q (get_or first.marked i d)) same
      ∙ sym (fold_more tell_waiting first first.marked i d lt)

  pub same_marks : o.marked ≡ first.marked → p.marked ≡ first.marked
  same_marks same = ap (λ (q : Course). q.marked) made ∙ tell_marked o (get_or seen i d) ∙ same
