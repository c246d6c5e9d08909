use Rattle.std.proofs.Common.{◌≡◌, true, length, IfSome}
use Rattle.rh_state.specs.Lists.{has_app}
use Rattle.rh_state.specs.Shape.{IsAppOf}
use Rattle.rh_state.specs.StateView.{waiting_at}
use Rattle.rh_state.specs.Stored.{read}
use Rattle.rh_base.specs.Lists.{first_given}
use Rattle.rh_rules.specs.Moves.{local_move}
use Rattle.rh_state.proofs.ListWalks.{left_of}
use Rattle.rh_settle.proofs.search.starts_at.Given as goal

abbrev pub invariant-waiting : goal.invariant-waiting
invariant-waiting l = record {
  same : first_given (local_move (read l.state) l.node) (left_of (waiting_at (read l.state) l.node) l.waiting)
      ≡ first_given (local_move (read l.state) l.node) (waiting_at (read l.state) l.node);
  next : IfSome l.waiting (λ a. has_app (waiting_at (read l.state) l.node) a ≡ true);
  number : IfSome l.waiting (λ a. IsAppOf (read l.state).cluster a);
}

abbrev pub decreases-waiting : goal.decreases-waiting
decreases-waiting l = length (left_of (waiting_at (read l.state) l.node) l.waiting)
