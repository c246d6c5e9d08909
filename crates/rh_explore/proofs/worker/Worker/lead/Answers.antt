use Rattle.std.proofs.Common.{rules, ◌≡◌, None, Some, sym, ◌∙◌}
use Rattle.rh_state.specs.Stored.{read}
use Rattle.rh_rules.specs.declared.event.Event.{Event}
use Rattle.rh_rules.specs.declared.refusal.Refusal.{Refusal}
use Rattle.rh_rules.specs.Refusals.{refused}
use Rattle.rh_explore.specs.Exploring.{scope_of}
use Rattle.rh_explore.specs.Families.{knowing}
use Rattle.rh_explore.specs.Moves.{event_in}
use Rattle.rh_explore.proofs.Leading.{no_event, limit_leads, refused_leads, made_leads, can_leave, left_again}
use Rattle.rh_explore.proofs.worker.Worker.lead.Goals as goal

pub returns-in_default-clause-lead : goal.returns-in_default-clause-lead
returns-in_default-clause-lead c =
    let s = c.args.search.now in
    no_event (scope_of s) s.asks.now (knowing c.args.known.now) (read c.args.state.now) c.args.one (sym c.event_in.ensures ∙ c.in_default.is)

pub returns-then-is_limit-clause-lead : goal.returns-then-is_limit-clause-lead
returns-then-is_limit-clause-lead c =
    let s = c.args.search.now in
    let e : Event = c.in-Some.event in
    let r : Refusal = c.in-Some-refusal_of.refusal in
    let now : event_in (read c.args.state.now) c.args.one ≡ Some e = sym c.event_in.ensures ∙ c.in-Some.is in
    let is : refused (read c.args.state.now) e ≡ Some r = sym c.refusal_of.ensures ∙ c.in-Some-refusal_of.is in
    limit_leads (scope_of s) s.asks.now (knowing c.args.known.now) (read c.args.state.now) c.args.one e now r is (sym c.is_limit.ensures ∙ c.if-is_limit.true)

pub returns-in-Some-refusal_of-clause-lead : goal.returns-in-Some-refusal_of-clause-lead
returns-in-Some-refusal_of-clause-lead c =
    let s = c.args.search.now in
    let e : Event = c.in-Some.event in
    let r : Refusal = c.in-Some-refusal_of.refusal in
    let now : event_in (read c.args.state.now) c.args.one ≡ Some e = sym c.event_in.ensures ∙ c.in-Some.is in
    let is : refused (read c.args.state.now) e ≡ Some r = sym c.refusal_of.ensures ∙ c.in-Some-refusal_of.is in
    refused_leads (scope_of s) s.asks.now (knowing c.args.known.now) (read c.args.state.now) c.args.one e now r is (sym c.is_limit.ensures ∙ c.if-is_limit.false)

pub take_back-requires : goal.take_back-requires
take_back-requires c =
    can_leave c.make.new.state c.lead_to.new.state c.make.new.self c.lead_to.new.self.tried c.in_ok-lead.ensures.state c.in_ok-lead.ensures.tried
    c.in_ok-make.ensures.led.all

pub returns-clause-lead : goal.returns-clause-lead
returns-clause-lead c =
    let s = c.args.search.now in
    let e : Event = c.in-Some.event in
    let now : event_in (read c.args.state.now) c.args.one ≡ Some e = sym c.event_in.ensures ∙ c.in-Some.is in
    let accepted : refused (read c.args.state.now) e ≡ None = search rules in
    made_leads (scope_of s) s.asks.now (knowing c.args.known.now) (read c.args.state.now) c.args.one e now (read c.make.new.state) c.in_ok-lead.lead accepted
    c.in_ok-make.ensures.state c.in_ok-make.ensures.cluster c.in_ok-lead.ensures.lead

pub returns-clause-state : goal.returns-clause-state
returns-clause-state c =
    c.take_back.ensures.state
    ∙ left_again c.make.new.state c.lead_to.new.state c.make.new.self c.lead_to.new.self.tried c.in_ok-lead.ensures.state c.in_ok-lead.ensures.tried
    ∙ c.in_ok-make.ensures.led.back

pub returns-clause-idle : goal.returns-clause-idle
returns-clause-idle c = record { none = c.take_back.ensures.none; calm = c.in_ok-lead.ensures.calm }
