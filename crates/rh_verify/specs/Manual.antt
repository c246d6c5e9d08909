-- A rehearsal by the rules of the manual (ours).
use Rattle.rh_calls.specs.Report.{report_text}
use Rattle.rh_trail.specs.Lone.{served}
use Rattle.rh_trail.specs.SimView.{SimView, state_of}
use Rattle.rh_script.specs.Answers.{answer_text}
use Rattle.rh_verify.specs.Rules.{Rules}

-- it answers as `run` does, and its report is that of its state
abbrev pub manual : Rules SimView
manual = record {
  cluster = λ sim. sim.cluster;
  answer = λ sim call. answer_text sim.cluster (served sim call).reply;
  behind = λ sim call. (served sim call).sim;
  report = λ sim. report_text (state_of sim);
}
