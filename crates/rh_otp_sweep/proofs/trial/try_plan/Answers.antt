use Rattle.std.proofs.Common.{◌≡◌, List, sym, ap, subst, ◌∙◌}
use Rattle.rh_rules.specs.declared.event.Event.{Event}
use Rattle.rh_otp_report.specs.Report.{report_of}
use Rattle.rh_otp_report.specs.Views.{NodeReportView, ReportView}
use Rattle.rh_otp_sim.specs.Sim.{LiveSimView, at_step_of}
use Rattle.rh_otp_sweep.specs.declared.outcome.Hang.{Hang}
use Rattle.rh_otp_sweep.specs.Outcomes.{Course, course_of, hangs_in, told, outcome_in}
use Rattle.rh_otp_sweep.specs.Working.{IsAtBase}
use Rattle.rh_otp_sweep.proofs.Bare.{same_told}
use Rattle.rh_otp_sweep.proofs.Roots.{back_at_base}
use Rattle.rh_otp_sweep.proofs.trial.try_plan.Goals as goal

pub returns-clause-outcome : goal.returns-clause-outcome
unfolding outcome_in
returns-clause-outcome c =
    let sim : LiveSimView = c.args.sim.now in
    let events : List Event = c.args.plan.now.events.items in
    let p = c.in_ok-progress.progress in
    let inside = c.report.inside in
    let hangs : c.in_ok-hangs.hangs.items ≡ hangs_in inside.nodes.items =
    c.in_ok-hangs.ensures ∙ ap (λ (nodes : List NodeReportView). hangs_in nodes) c.as_slice-2.ensures.value in
    let report : record { time = inside.time; nodes = inside.nodes.items; apps = inside.apps.items; calls = inside.calls.items }
    ≡ report_of c.go_ahead.new.sim = c.report.view_is ∙ c.in_ok-report.ensures in
    let course : Course = record { accepted = p.accepted; answers = p.answers.items; stop = p.stop; sim = c.go_ahead.new.sim } in
    let went : course ≡ course_of 0 sim events =
    sym c.in_ok-progress.ensures ∙ ap (λ (es : List Event). course_of 0 sim es) c.as_slice.ensures.value in
    (λ i. record {
      accepted = p.accepted;
      answers = p.answers.items;
      stop = p.stop;
      apps = inside.apps.items;
      hangs = hangs i;
      calls = inside.calls.items;
    })
    ∙ ap (λ (r : ReportView). told course r) report
    ∙ ap (λ (k : Course). told k (report_of k.sim)) went
    ∙ sym (same_told sim events c.requires.start)

pub returns-clause-back : goal.returns-clause-back
returns-clause-back c =
    let sim : LiveSimView = c.args.sim.now in
    let events : List Event = c.as_slice.result.now in
    let there : at_step_of 0 (course_of 0 sim events).sim ≡ c.undo_all.new.self =
    ap (λ (k : Course). at_step_of 0 k.sim) c.in_ok-progress.ensures ∙ sym c.undo_all.ensures.state in
    subst (λ (s : LiveSimView). IsAtBase s sim) there (back_at_base sim events c.requires.begins)
