use Rattle.std.proofs.Common.{◌++◌, ◌∙◌, ap, sym}
use Rattle.std.proofs.lemmas.List.{append-nil}
use Rattle.rh_step_lint.proofs.Unlikely.{unlikely_in}
use Rattle.rh_step_lint.proofs.step.Step.push_in.Goals as goal

pub returns-else-may_speak : goal.returns-else-may_speak
returns-else-may_speak c = sym (ap (λ t. c.args.found.now.items ++ t)
    (unlikely_in c.args.self.now.state c.args.self.now.event c.args.code c.args.touch.now c.requires (sym c.may_speak.ensures ∙ c.if-may_speak.false))
    ∙ append-nil c.args.found.now.items)
