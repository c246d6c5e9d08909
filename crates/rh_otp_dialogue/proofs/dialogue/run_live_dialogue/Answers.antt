use Rattle.std.proofs.Common.{List, ℕ, subst}
use Rattle.rh_manner.specs.DialogueText.{DialogueGives}
use Rattle.rh_otp_dialogue.proofs.Saying.{spoken_is_voiced}
use Rattle.rh_otp_dialogue.proofs.dialogue.run_live_dialogue.Goals as goal

pub returns : goal.returns
returns g c =
    subst (λ (said : List ℕ → List ℕ). DialogueGives g.D.Source.gives g.D.Source.fails g.D.Sink.takes g.D.Sink.flushes g.D.Sink.fails said
    c.run_dialogue_by.result c.args.device.now c.run_dialogue_by.new.device)
    (λ i bytes. spoken_is_voiced c.args.voice bytes i) c.run_dialogue_by.ensures
