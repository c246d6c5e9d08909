-- The last boot of a cold start, by what is proved of each side; and where it leads, wherever undo and redo lead.
use Rattle.rh_model.specs.declared.node.Node.{Node}
use Rattle.rh_rules.specs.declared.event.Event.TheVariants as event
use Rattle.rh_calls.specs.declared.call.Call.{Call}
use Rattle.rh_calls.specs.declared.call.Call.TheVariants as call
use Rattle.rh_start_laws.proofs.LastBoots.{last_boots_start_all}
use Rattle.rh_trail.specs.Lone.{served}
use Rattle.rh_trail.specs.SimView.{SimView}
use Rattle.rh_otp_sim.specs.Calls.{made_by}
use Rattle.rh_otp_sim.specs.Sim.{LiveSimView}
use Rattle.rh_otp_together.proofs.Booted.{come_to_one}
use Rattle.rh_otp_together.proofs.Law.{together_alike}
use Rattle.rh_otp_colds.specs.Starts.{LastBootsComeUp}
use Rattle.rh_otp_colds.proofs.Coming.{come_up}
use Rattle.rh_agreement.specs.Telling.{GoTogether}
use Rattle.rh_agreement.specs.Laws.{HasRoom}
use Rattle.rh_agreement.specs.Resting.{AreAlwaysAtRest}
use Rattle.rh_agreement.proofs.Always.{accepted_rest}
use Rattle.rh_agreement_colds.specs.Colds.{IsAnsweredInSomeOrder, StartsCold, LastBootsAreAnsweredInSomeOrder}
use Rattle.rh_agreement_colds.proofs.ColdAlike.{in_some_order, last_boots_alike}
use Rattle.rh_agreement_colds.proofs.Together as both

all_come_up : LastBootsComeUp
all_come_up = come_up together_alike come_to_one

pub cold_alike : LastBootsAreAnsweredInSomeOrder
cold_alike = last_boots_alike last_boots_start_all all_come_up

-- Both answer the call by the same lines, in some order; they go together behind it, and both are at rest now and behind each number of
-- steps.
pub record GoesOnInSomeOrder (c : Call) (sim : SimView) (l : LiveSimView) : Type 0 where
  pub alike : IsAnsweredInSomeOrder c sim l
  pub together : GoTogether (served sim c).sim (made_by c l)
  pub rest : AreAlwaysAtRest (served sim c).sim (made_by c l)

pub cold_on : (sim : SimView) (l : LiveSimView) (n : Node) → GoTogether sim l → HasRoom sim l → AreAlwaysAtRest sim l → StartsCold n sim l
    → GoesOnInSomeOrder (call.Step (event.Boot n)) sim l
cold_on sim l n together room rest starts = record {
  alike = in_some_order last_boots_start_all all_come_up sim l n together room rest.now starts;
  together = both.go_together last_boots_start_all all_come_up sim l n together room rest.now starts;
  rest = accepted_rest sim l (event.Boot n) (both.cells last_boots_start_all all_come_up sim l n together room rest.now starts) together
      room rest
      (both.fine last_boots_start_all all_come_up sim l n together room rest.now starts)
      (both.made last_boots_start_all all_come_up sim l n together room rest.now starts)
      (both.rest_again last_boots_start_all all_come_up sim l n together room rest.now starts);
}
