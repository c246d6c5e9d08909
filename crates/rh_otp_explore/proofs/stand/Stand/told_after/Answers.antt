use Rattle.std.proofs.Common.{◌≡◌, IfOk, ap, subst, ◌∙◌}
use Rattle.rh_otp_report.specs.Report.{report_of}
use Rattle.rh_otp_report.specs.Views.{ReportView}
use Rattle.rh_otp_sim.specs.Sim.{LiveSimView, without_past}
use Rattle.rh_otp_sim.specs.Stepping.{stepped}
use Rattle.rh_otp_explore.proofs.stand.Stand.told_after.Goals as goal

pub returns : goal.returns
returns c =
    subst (λ (s : LiveSimView). IfOk c.report_of.result (λ (report : ReportView). report ≡ report_of s))
    (c.in_ok-step.ensures.state ∙ ap (stepped c.args.event) (c.in_ok-sim.ensures ∙ ap without_past c.self.view_is)) c.report_of.ensures
