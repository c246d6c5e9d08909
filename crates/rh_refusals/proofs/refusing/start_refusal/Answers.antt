use Rattle.rh_state.specs.Stored.{read}
use Rattle.rh_refusals.proofs.RefusedByHand.{start_some}
use Rattle.rh_refusals.proofs.refusing.start_refusal.Goals as goal

pub returns-in-Some : goal.returns-in-Some
returns-in-Some c =
    start_some (read c.args.state.now) c.args.node c.args.app c.refusal_by_hand.result c.refusal_by_hand.ensures.tests c.args.restart c.in-Some.refusal
    c.in-Some.is
