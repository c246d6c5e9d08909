use Rattle.std.proofs.Common.{◌≡◌, length, ap, ◌∙◌, arith}
use Rattle.rh_history.specs.Draft.{DraftView}
use Rattle.rh_otp_system.specs.declared.cell.Cell.{Cell}
use Rattle.rh_otp_sim.proofs.stepping.finish.Goals as goal

-- what was set in a draft leaves the cells that it began with
pub returns-clause-places : goal.returns-clause-places
returns-clause-places c k d inside =
    let long : length c.set.new.self.base ≡ length c.args.system.nodes.base =
    ap (λ (n : DraftView Cell). length n.base) c.set.ensures ∙ ap (λ (n : DraftView Cell). length n.base) c.into_parts-nodes.ensures.nodes in
    omega (arith, c.in_ok-writes.ensures.places k d inside, long)
