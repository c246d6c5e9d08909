use Rattle.std.proofs.Common.{◌≡◌, true, false, sym, ap, ◌∙◌}
use Rattle.rh_state.specs.Stored.{read}
use Rattle.rh_step.proofs.Reasons.{is_memory, never_memory}
use Rattle.rh_trail.proofs.sim.Sim.accept.Goals as goal

pub returns-in-Some-clause-reason : goal.returns-in-Some-clause-reason
returns-in-Some-clause-reason c = λ is.
    let other = never_memory (read c.state.result.now) c.args.event.now c.in-Some.refusal (sym c.refusal_of.ensures ∙ c.in-Some.is) in
    absurd (clash (sym other ∙ ap is_memory is))
  where
    clash : false ≡ true → ⊥
    clash e = cc
