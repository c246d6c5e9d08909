use Rattle.std.proofs.Common.{◌≡◌, IfOk, OnOk, None, ap, sym, subst, ◌∙◌}
use Rattle.rh_otp_system.specs.Views.{NetView}
use Rattle.rh_otp_sim.specs.declared.stepping.Outcome.{Outcome}
use Rattle.rh_otp_sim.specs.Refusing.{refused}
use Rattle.rh_otp_sim.specs.Sim.{LiveSimView}
use Rattle.rh_otp_sim.proofs.Steps.{outcome_accepted, step_accepted}
use Rattle.rh_otp_sim.proofs.sim.LiveSim.step.Goals as goal

pub returns-clause-outcome : goal.returns-clause-outcome
returns-clause-outcome c =
    let none : refused c.in_ok-net.net.clock c.in_ok-net.net.last_call c.args.event c.args.self.now ≡ None =
    ap (λ (n : NetView). refused n.clock n.last_call c.args.event c.args.self.now) (sym c.net-2.view_is)
    ∙ sym c.in_ok-refusal.ensures ∙ c.in-None.is in
    subst (λ (x : Outcome). IfOk c.carry_out.result (λ o. o ≡ x))
    (outcome_accepted c.in_ok-net.net c.args.event c.args.self.now c.in_ok-net.ensures none) c.carry_out.ensures.outcome

pub returns-clause-state : goal.returns-clause-state
returns-clause-state c =
    let none : refused c.in_ok-net.net.clock c.in_ok-net.net.last_call c.args.event c.args.self.now ≡ None =
    ap (λ (n : NetView). refused n.clock n.last_call c.args.event c.args.self.now) (sym c.net-2.view_is)
    ∙ sym c.in_ok-refusal.ensures ∙ c.in-None.is in
    subst (λ (x : LiveSimView). OnOk c.carry_out.result (c.carry_out.new.self ≡ x))
    (step_accepted c.in_ok-net.net c.args.event c.args.self.now c.in_ok-net.ensures none) c.carry_out.ensures.state
