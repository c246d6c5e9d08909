use Rattle.std.proofs.Common.{◌∙◌, Option, sym, subst}
use Rattle.rh_programs.specs.declared.status.Tongue.{Tongue}
use Rattle.rehearse.specs.Process.{EndsBy}
use Rattle.rehearse.proofs.Ends.{dialogue_over}
use Rattle.rehearse.proofs.process.over_devices.Goals as goal

pub returns-in-Some : goal.returns-in-Some
returns-in-Some g c =
    subst (λ (t : Option Tongue). EndsBy g.S.Source.gives g.S.Source.fails g.K.Sink.takes g.K.Sink.flushes g.K.Sink.fails t c.args.program c.args.reader
    c.args.writer c.rehearse_dialogue.result) (sym (sym c.tongue_of.ensures ∙ c.in-Some.is))
    (dialogue_over g.S.Source.gives g.S.Source.fails g.K.Sink.takes g.K.Sink.flushes g.K.Sink.fails c.args.program c.rehearse_dialogue.result
    c.in-Some.tongue c.args.reader c.args.writer _ _ _ c.new.ensures c.new-device.ensures c.rehearse_dialogue.ensures)
