use Rattle.std.proofs.Common.{◌∙◌, sym, ap}
use Rattle.rh_model.specs.ClusterView.{ClusterView}
use Rattle.rh_script.specs.Commands.{line_of}
use Rattle.rh_otp_explore_text.proofs.BaseLines.{on_of_nothing, on_of_call, on_of_bad}
use Rattle.rh_otp_explore_text.proofs.bases.push_line.Goals as goal

pub returns-in-Nothing-clause-goes_on : goal.returns-in-Nothing-clause-goes_on
returns-in-Nothing-clause-goes_on c = λ lines.
    let asked = ap (λ (k : ClusterView). line_of k c.args.line.now) (sym c.cluster.ensures) ∙ sym c.in_ok-line_of.ensures ∙ c.in-Nothing.is in
    on_of_nothing c.args.sim.now.cluster c.args.sim.now c.args.number c.args.line.now lines c.args.out.now.items asked

pub returns-in_ok-push_reply-in-Asks-clause-goes_on : goal.returns-in_ok-push_reply-in-Asks-clause-goes_on
returns-in_ok-push_reply-in-Asks-clause-goes_on c = λ lines.
    let asked = ap (λ (k : ClusterView). line_of k c.args.line.now) (sym c.cluster.ensures) ∙ sym c.in_ok-line_of.ensures ∙ c.in-Asks.is in
    on_of_call c.args.sim.now.cluster c.args.sim.now c.args.number c.args.line.now lines c.args.out.now.items c.in-Asks.call
    c.push_reply.new.sim c.push_reply.new.out.items asked c.in_ok-push_reply-in-Asks.ensures.sim c.in_ok-push_reply-in-Asks.ensures.out

pub returns-in-Bad-clause-goes_on : goal.returns-in-Bad-clause-goes_on
returns-in-Bad-clause-goes_on c = λ lines.
    let asked = ap (λ (k : ClusterView). line_of k c.args.line.now) (sym c.cluster.ensures) ∙ sym c.in_ok-line_of.ensures ∙ c.in-Bad.is in
    on_of_bad c.args.sim.now.cluster c.args.sim.now c.args.number c.args.line.now lines c.args.out.now.items asked
