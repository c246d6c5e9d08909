use Rattle.std.proofs.Common.{◌≡◌, IfOk, map, subst}
use Rattle.rh_script.specs.Lines.{raw_lines, content}
use Rattle.rh_otp_sim.specs.Sim.{LiveSimView}
use Rattle.rh_otp_lint.specs.LiveSteps.{of_live_steps}
use Rattle.rh_otp_lint.proofs.linting.of_steps.Goals as goal

pub returns : goal.returns
returns c =
    subst (λ (s : LiveSimView). IfOk c.live_steps.result
    (λ found. found.items ≡ of_live_steps s c.args.first (map content (raw_lines c.args.script.now))))
    c.in_ok-sim.ensures c.live_steps.ensures
