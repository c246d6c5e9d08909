use Rattle.std.proofs.Common.{◌≡◌, ◌+◌, ℕ, List, [], drop, length, get_or, refl, sym, ap, ◌∙◌, arith}
use Rattle.std.proofs.lemmas.List.{drop_all}
use Rattle.rh_model.specs.ClusterView.{numbered}
use Rattle.rh_rules.specs.declared.event.Event.{Event}
use Rattle.rh_rules.specs.declared.event.Event.TheVariants.{Boot}
use Rattle.rh_otp_sim.specs.declared.lines.Answer.{Answer}
use Rattle.rh_otp_sim.specs.declared.stepping.Outcome.TheVariants as outcome
use Rattle.rh_otp_sim.specs.Sim.{LiveSimView}
use Rattle.rh_otp_sim.specs.Stepping.{stepped, outcome_of as comes_to}
use Rattle.rh_otp_sim.specs.Views.{HappenedView}
use Rattle.rh_otp_sweep.specs.declared.outcome.EventAnswer.{EventAnswer}
use Rattle.rh_otp_sweep.specs.declared.outcome.Stop.TheVariants as stop
use Rattle.rh_otp_sweep.specs.Outcomes.{course_of}
use Rattle.rh_otp_sweep.proofs.Courses.{with_answers, with_event, next_event, goes_on, ends_here, ends_there, stays}
use Rattle.rh_otp_sweep.proofs.trial.go_ahead.Goals as goal

pub returns-in-Refused : goal.returns-in-Refused
returns-in-Refused c =
    let es = c.args.events.now in
    let i = c.loop-index.index in
    let sim : LiveSimView = c.loop-index.sim in
    let e : Event = get_or es i (Boot (numbered 0)) in
    let why = c.in-Refused.refusal in
    let is : comes_to e sim ≡ outcome.Refused why = sym c.in_ok-happened.ensures.outcome ∙ c.in-Refused.is in
    let same : c.step.new.self ≡ sim =
    c.in_ok-happened.ensures.state ∙ stays e sim (outcome.Refused why) is (λ (h : HappenedView) (done : outcome.Refused why ≡ outcome.Done h). cc) in
    ends_here c.args.sim.now es i sim c.loop-index.answers.items c.loop-index.invariant e (drop (i + 1) es)
    (next_event es i (Boot (numbered 0)) c.loop-index-test.true) (outcome.Refused why) (stop.Refused why) c.step.new.self is same (λ later. refl)

pub returns-in-Endless : goal.returns-in-Endless
returns-in-Endless c =
    let es = c.args.events.now in
    let i = c.loop-index.index in
    let sim : LiveSimView = c.loop-index.sim in
    let e : Event = get_or es i (Boot (numbered 0)) in
    let is : comes_to e sim ≡ outcome.Endless = sym c.in_ok-happened.ensures.outcome ∙ c.in-Endless.is in
    let same : c.step.new.self ≡ sim =
    c.in_ok-happened.ensures.state ∙ stays e sim outcome.Endless is (λ (h : HappenedView) (done : outcome.Endless ≡ outcome.Done h). cc) in
    ends_here c.args.sim.now es i sim c.loop-index.answers.items c.loop-index.invariant e (drop (i + 1) es)
    (next_event es i (Boot (numbered 0)) c.loop-index-test.true) outcome.Endless stop.Endless c.step.new.self is same (λ later. refl)

pub loop-index-preserved : goal.loop-index-preserved
loop-index-preserved c =
    let es = c.args.events.now in
    let i = c.loop-index.index in
    let sim : LiveSimView = c.loop-index.sim in
    let e : Event = get_or es i (Boot (numbered 0)) in
    let h : HappenedView = c.in-Done.happened in
    let before : List EventAnswer = c.loop-index.answers.items in
    let is : comes_to e sim ≡ outcome.Done h = sym c.in_ok-happened.ensures.outcome ∙ c.in-Done.is in
    let more : c.push_answer.new.answers.items ≡ with_event before (i + 1) h.answer =
    c.in_ok-push_answer-in-Done.ensures
    ∙ ap (λ (a : Answer). with_event before (i + 1) a) (ap (λ (v : HappenedView). v.answer) c.happened.view_is) in
    let next : c.step.new.self ≡ stepped e sim = c.in_ok-happened.ensures.state in
    goes_on c.args.sim.now es i sim before c.loop-index.invariant e (drop (i + 1) es)
    (next_event es i (Boot (numbered 0)) c.loop-index-test.true) h is
    ∙ (λ j. with_answers ((sym more) j) (course_of (i + 1) ((sym next) j) (drop (i + 1) es)))

pub returns : goal.returns
returns c =
    let es = c.args.events.now in
    let i = c.loop-index.index in
    ends_there c.args.sim.now es i c.loop-index.sim c.loop-index.answers.items c.loop-index.invariant
    (drop_all i es (omega (arith, c.loop-index-test.false))) (length es)
    (omega (arith, c.loop-index-test.false, c.loop-index.auto.index-end))
