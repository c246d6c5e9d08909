use Rattle.std.proofs.Common.{◌≡◌, ◌-◌, List, ℕ, false}
use Rattle.rh_devices.specs.Devices.{input_limit}
use Rattle.rh_manner.specs.Deeds.{Deed, Goes}
use Rattle.rh_manner.specs.DialogueText.{IsPrompt}
use Rattle.rh_manner.specs.Speech.{spoken}
use Rattle.rh_manner.specs.Talking.{Stands}
use Rattle.rh_manner.proofs.dialogue.talk.Given as goal

abbrev pub invariant-talk : goal.invariant-talk
invariant-talk g l = record {
  stands : (log : List Deed) × (consumed : List ℕ)
      × Goes g.D.Source.gives g.D.Sink.takes g.D.Sink.flushes l.fn.device.inner l.device.inner log
      × IsPrompt (spoken (g.T.Speaker.speech l.fn.speaker)) log × Stands (g.T.Speaker.speech l.fn.speaker) g.T.Speaker.view log consumed l.ear l.stage;
  watch : l.device.failed ≡ false;
}

abbrev pub decreases-talk : goal.decreases-talk
decreases-talk g l = input_limit - l.ear.count
