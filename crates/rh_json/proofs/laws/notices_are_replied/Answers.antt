use Rattle.std.proofs.Common.{subst}
use Rattle.rh_trace.specs.Validity.{IsValid}
use Rattle.rh_state.specs.StateView.{StateView}
use Rattle.rh_json.proofs.Told.{notices_are_replied}
use Rattle.rh_json.proofs.laws.notices_are_replied.Goals as goal

pub returns : goal.returns
returns c =
    notices_are_replied c.args.sim.now.seen
    (subst (λ (s : StateView). IsValid s) c.state-state.ensures.state c.state-state.ensures.valid)
