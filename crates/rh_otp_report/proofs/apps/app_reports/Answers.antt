use Rattle.std.proofs.Common.{◌≡◌, List, [], ◌∷◌, ◌++◌, sym, ap, ◌∙◌}
use Rattle.std.specs.Global.{Vec}
use Rattle.rh_model.specs.ClusterView.{app_numbered}
use Rattle.rh_otp_report.specs.declared.apps.AppReport.{AppReport}
use Rattle.rh_otp_report.specs.Apps.{app_report}
use Rattle.rh_otp_report.proofs.Numbers.{one_more, none_more}
use Rattle.rh_otp_report.proofs.apps.app_reports.Goals.{in-Some+in_ok-push, in_default}
use Rattle.rh_otp_report.proofs.apps.app_reports.Goals as goal

pub loop-number-preserved : goal.loop-number-preserved
loop-number-preserved c =
    let told = app_report c.args.sim.now in
    elim c.match-branch-2.branch [
      | in-Some+in_ok-push w ↦
          ap (λ (v : Vec AppReport). v.items) w.reports-is ∙ w.in_ok-push.ensures.items
          ∙ ap (λ (reports : List AppReport). reports ++ w.in-Some.report ∷ []) c.loop-number.invariant
          ∙ sym (one_more app_numbered told c.loop-number.number w.in-Some.report (sym c.in_ok-report.ensures ∙ w.in-Some.is))
      | in_default w ↦
          ap (λ (v : Vec AppReport). v.items) w.reports-is ∙ c.loop-number.invariant
          ∙ sym (none_more app_numbered told c.loop-number.number (sym c.in_ok-report.ensures ∙ w.in_default.is))
    ]
