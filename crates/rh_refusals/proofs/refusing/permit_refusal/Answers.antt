use Rattle.rh_state.specs.Stored.{read}
use Rattle.rh_refusals.proofs.RefusedByHand.{permit_all}
use Rattle.rh_refusals.proofs.refusing.permit_refusal.Goals as goal

pub returns : goal.returns
returns c = permit_all (read c.args.state.now) c.args.node c.args.app c.refusal_by_hand.result c.refusal_by_hand.ensures.tests c.args.allow
