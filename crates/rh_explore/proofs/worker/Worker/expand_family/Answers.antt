use Rattle.std.proofs.Common.{[], List, Option, length, sym, ap, ◌∙◌, subst, arith}
use Rattle.std.proofs.lemmas.List.{append-nil}
use Rattle.rh_state.specs.Stored.{Stored, read}
use Rattle.rh_trace.specs.Validity.{IsValid}
use Rattle.rh_rules.specs.declared.event.Event.{Event}
use Rattle.rh_explore.specs.declared.families.Family.{Family}
use Rattle.rh_explore.specs.Exploring.{scope_of}
use Rattle.rh_explore.specs.Families.{knowing, ExpandsSo}
use Rattle.rh_explore.proofs.Leading.{expanded_more, expanded_all, accepted_next}
use Rattle.rh_explore.proofs.worker.Worker.expand_family.Goals as goal

pub events-init : goal.events-init
events-init c = record {
  same = c.as_slice-event-items.ensures.value;
  state = c.into_inner-state.ensures;
  idle = c.requires.idle;
  entered = c.requires.entered;
  expanded = ([], sym (append-nil c.args.expansions.now.items), tt);
}

pub expand-requires-clause-valid : goal.expand-requires-clause-valid
expand-requires-clause-valid c = subst (λ (z : Stored). IsValid (read z)) (sym c.events.invariant.state) c.requires.family.valid

pub expand-requires-clause-accepted : goal.expand-requires-clause-accepted
expand-requires-clause-accepted c =
    let family : Family = c.args.family in
    accepted_next family.state.value c.events.state family.events.items _ c.events.event-index _ c.events.invariant.state c.events.invariant.same c.events-test.true
    c.requires.family.accepted

pub events-preserved : goal.events-preserved
events-preserved c =
    let family : Family = c.args.family in
    let s = c.args.search.now in
    let R = ExpandsSo (scope_of s) s.asks.now (knowing c.args.known.now) in
    let i = c.events.invariant in
    let x = c.in_ok-expansion.expansion in
    record {
      same = i.same;
      state = c.in_ok-expansion.ensures.state ∙ i.state;
      idle = c.in_ok-expansion.ensures.idle;
      entered = c.in_ok-expansion.ensures.entered;
      expanded = expanded_more R s.pick family.state.value c.events.state family.events.items _ c.events.event-index _ c.args.expansions.now.items
          c.events.expansions.items c.push_back.new.self.items x i.state i.same c.events-test.true i.expanded c.in_ok-expansion.ensures.expansion
          c.in_ok-push_back.ensures.items;
    }

pub returns-clause-expansions : goal.returns-clause-expansions
returns-clause-expansions c =
    let family : Family = c.args.family in
    let s = c.args.search.now in
    let R = ExpandsSo (scope_of s) s.asks.now (knowing c.args.known.now) in
    let i = c.events.invariant in
    expanded_all R s.pick family.state.value family.events.items c.events.event-index c.args.expansions.now.items c.events.expansions.items
    (omega (arith, c.events-test.false, ap (λ (es : List (Option Event)). length es) i.same)) i.expanded
