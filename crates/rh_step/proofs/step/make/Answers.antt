use Rattle.std.proofs.Common.{arith, sym, ap, ◌∙◌}
use Rattle.rh_state.specs.Stored.{read}
use Rattle.rh_rules.specs.Refusals.{refused}
use Rattle.rh_refusals.proofs.Accepted.{accepted_tick}
use Rattle.std.proofs.lemmas.Result.{on_ok_weaker}
use Rattle.rh_step.specs.Counts.{step_edits}
use Rattle.rh_step.proofs.Counts.{of_step}
use Rattle.rh_step.proofs.step.make.Goals as goal

pub pass_time-requires-clause-end : goal.pass_time-requires-clause-end
pass_time-requires-clause-end c =
    let s = read c.args.state.now in (accepted_tick s c.in-Tick.ms (sym (ap (refused s) c.in-Tick.is) ∙ c.requires.accepted)).limit

pub returns-in_default-clause-few : goal.returns-in_default-clause-few
returns-in_default-clause-few c =
    on_ok_weaker c.happen.result
    (λ few. of_step (read c.args.state.now) (read c.happen.new.state) c.args.event.now c.args.trace.now c.happen.new.trace few)
    c.happen.ensures.few

pub returns-in-Tick-clause-few : goal.returns-in-Tick-clause-few
returns-in-Tick-clause-few c =
    let s = read c.args.state.now in
    let t = read c.pass_time.new.state in
    on_ok_weaker c.pass_time.result
    (λ few. let same = ap (λ e. step_edits s e t) c.in-Tick.is in omega (arith, same, few))
    c.pass_time.ensures.few
