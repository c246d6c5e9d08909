use Rattle.std.proofs.Common.{◌≡◌, Some, ap, sym, ◌∙◌, arith}
use Rattle.rh_otp_report.specs.Report.{report_of}
use Rattle.rh_otp_report.specs.Views.{ReportView}
use Rattle.rh_otp_sim.specs.Sim.{without_past}
use Rattle.rh_otp_sim.specs.Stepping.{stepped, outcome_of}
use Rattle.rh_otp_explore.specs.Coming.{after, is_made, not_up_count}
use Rattle.rh_otp_explore.proofs.Standing.{not_made, too_few_up, may_come}
use Rattle.rh_otp_explore.proofs.stand.Stand.after.Goals as goal

pub returns-then-not-is_made : goal.returns-then-not-is_made
returns-then-not-is_made c =
    not_made c.args.down c.args.event c.args.self.now
    (ap is_made (sym (c.in_ok-step.ensures.outcome ∙ ap (outcome_of c.args.event) (c.in_ok-sim.ensures ∙ ap without_past c.self.view_is))) ∙ sym c.is_made.ensures
    ∙ c.if-not-is_made.true)

pub returns-then-not_up_count-down : goal.returns-then-not_up_count-down
returns-then-not_up_count-down c =
    let e = c.args.event in
    let stood : c.step.new.self ≡ after e c.args.self.now = c.in_ok-step.ensures.state ∙ ap (stepped e) (c.in_ok-sim.ensures ∙ ap without_past c.self.view_is) in
    let nodes =
    c.as_slice.ensures.value ∙ ap (λ (r : ReportView). r.nodes) (c.report.view_is ∙ c.in_ok-report.ensures ∙ ap report_of stood) in
    let count : c.not_up_count.result ≡ not_up_count (report_of (after e c.args.self.now)).nodes = c.not_up_count.ensures ∙ ap not_up_count nodes in
    too_few_up c.args.down e c.args.self.now
    (ap is_made (sym (c.in_ok-step.ensures.outcome ∙ ap (outcome_of e) (c.in_ok-sim.ensures ∙ ap without_past c.self.view_is))) ∙ sym c.is_made.ensures ∙ c.if-not-is_made.false)
    (omega (arith, count, c.if-not_up_count-down.true))

pub returns : goal.returns
returns c =
    let e = c.args.event in
    let stood : c.step.new.self ≡ after e c.args.self.now = c.in_ok-step.ensures.state ∙ ap (stepped e) (c.in_ok-sim.ensures ∙ ap without_past c.self.view_is) in
    let nodes =
    c.as_slice.ensures.value ∙ ap (λ (r : ReportView). r.nodes) (c.report.view_is ∙ c.in_ok-report.ensures ∙ ap report_of stood) in
    let count : c.not_up_count.result ≡ not_up_count (report_of (after e c.args.self.now)).nodes = c.not_up_count.ensures ∙ ap not_up_count nodes in
    ap Some stood
    ∙ may_come c.args.down e c.args.self.now
    (ap is_made (sym (c.in_ok-step.ensures.outcome ∙ ap (outcome_of e) (c.in_ok-sim.ensures ∙ ap without_past c.self.view_is))) ∙ sym c.is_made.ensures ∙ c.if-not-is_made.false)
    (omega (arith, count, c.if-not_up_count-down.false))
