-- How a dialogue speaks that is held by the manual's rules (ours).
use Rattle.rh_trail.specs.Lone.{opened, served}
use Rattle.rh_trail.specs.SimView.{SimView}
use Rattle.rh_manner.specs.declared.voice.Voice.{Voice}
use Rattle.rh_manner.specs.Speech.{Speech}
use Rattle.rh_manner.specs.Voices.{answer_in}

-- by a simulation, in the form of the voice; no more of the file counts than its cluster
abbrev pub manual : Voice → Speech SimView
manual voice = record {
  form = voice.form;
  begun = λ c text. opened c voice.pick;
  cluster = λ sim. sim.cluster;
  answer = λ sim k line call. answer_in voice.form sim.cluster sim k line call;
  behind = λ sim call. (served sim call).sim;
}
