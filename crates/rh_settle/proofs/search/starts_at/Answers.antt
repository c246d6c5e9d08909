use Rattle.std.proofs.Common.{◌≡◌, ◌<◌, ℕ, sym, ap, ◌∙◌, true, List, IfSome, is_some, length, subst, arith, Some}
use Rattle.rh_model.specs.declared.node.App.{App}
use Rattle.rh_state.specs.Lists.{has_app, next_app}
use Rattle.rh_state.specs.StateView.{waiting_at}
use Rattle.rh_state.specs.Stored.{read}
use Rattle.rh_base.specs.Lists.{first_given, head}
use Rattle.rh_rules.specs.declared.notice.Move.TheVariants.{Local}
use Rattle.rh_rules.specs.Moves.{local_move, local_moves}
use Rattle.rh_state.proofs.ListWalks.{once_of, left_of, all_left, first_is_next, next_is_next, found_on_walk, later_on_walk, end_of_walk, shorter_walk}
use Rattle.rh_state.proofs.ListWalks.{is_in_list, behind_waiting}
use Rattle.rh_settle.proofs.Starts.{move_of, no_move_of}
use Rattle.rh_settle.proofs.search.starts_at.Goals as goal

pub waiting-init : goal.waiting-init
waiting-init c =
    let s = read c.args.state.now in
    let apps : List App = waiting_at s c.args.node in
    record {
      same = ap (λ o. first_given (local_move s c.args.node) (left_of apps o)) c.first_waiting-waiting.ensures.first
          ∙ ap (first_given (local_move s c.args.node)) (all_left apps);
      next = subst (λ o. IfSome o (λ a. has_app apps a ≡ true)) (sym c.first_waiting-waiting.ensures.first) (first_is_next apps);
      number = c.first_waiting-waiting.ensures.number;
    }

pub returns-then-can_start : goal.returns-then-can_start
unfolding local_moves
returns-then-can_start c =
    let s = read c.args.state.now in
    let n = c.args.node in
    let a = c.in-Some.app in
    let apps : List App = waiting_at s n in
    let there = is_in_list (λ b. has_app apps b ≡ true) c.waiting.waiting a c.waiting.invariant.next c.in-Some.is in
    sym (ap (λ ms. is_some (head ms)) (found_on_walk (local_move s n) apps c.waiting.waiting c.waiting.invariant.same a (Local n a)
    (once_of apps (c.formed.ensures.once.waiting n)) there c.in-Some.is (move_of s n a (sym c.can_start.ensures ∙ c.if-can_start.true))))

pub waiting-smaller : goal.waiting-smaller
waiting-smaller c =
    let s = read c.args.state.now in
    let n = c.args.node in
    let a = c.in-Some.app in
    let apps : List App = waiting_at s n in
    let there = is_in_list (λ b. has_app apps b ≡ true) c.waiting.waiting a c.waiting.invariant.next c.in-Some.is in
    let less = shorter_walk apps a (once_of apps (c.formed.ensures.once.waiting n)) there in
    let before : length (left_of apps c.waiting.waiting) ≡ length (left_of apps (Some a)) = ap (λ o. length (left_of apps o)) c.in-Some.is in
    let after : length (left_of apps c.next_in_list-waiting.result) ≡ length (left_of apps (next_app apps a)) =
    ap (λ o. length (left_of apps o)) (c.next_in_list-waiting.ensures.next ∙ behind_waiting s n a c.formed.ensures.once there) in
    fewer before after less
  where
    fewer : {i j k l : ℕ} → i ≡ j → k ≡ l → l < j → k < i
    fewer e f h = omega arith

pub waiting-preserved : goal.waiting-preserved
waiting-preserved c =
    let s = read c.args.state.now in
    let n = c.args.node in
    let a = c.in-Some.app in
    let apps : List App = waiting_at s n in
    let there = is_in_list (λ b. has_app apps b ≡ true) c.waiting.waiting a c.waiting.invariant.next c.in-Some.is in
    let behind = c.next_in_list-waiting.ensures.next ∙ behind_waiting s n a c.formed.ensures.once there in
    record {
      same = ap (λ o. first_given (local_move s n) (left_of apps o)) behind
          ∙ later_on_walk (local_move s n) apps c.waiting.waiting c.waiting.invariant.same a (once_of apps (c.formed.ensures.once.waiting n)) there c.in-Some.is
          (no_move_of s n a (sym c.can_start.ensures ∙ c.if-can_start.false));
      next = subst (λ o. IfSome o (λ b. has_app apps b ≡ true)) (sym behind) (next_is_next apps a);
      number = c.next_in_list-waiting.ensures.number;
    }

pub returns : goal.returns
unfolding local_moves
returns c =
    let s = read c.args.state.now in
    sym (ap (λ ms. is_some (head ms)) (end_of_walk (local_move s c.args.node)
    (waiting_at s c.args.node) c.waiting.waiting c.waiting.invariant.same c.in_default.is))
