use Rattle.std.proofs.Common.{◌≡◌, ◌<◌, ◌≤◌, ◌+◌, ◌∷◌, ℕ, List, Option, None, length, map, drop, get_or, sym, ap, ◌∙◌, subst, arith}
use Rattle.std.proofs.lemmas.List.{length-drop, drop_more, nil_from_length}
use Rattle.rh_state.specs.StateView.{StateView}
use Rattle.rh_state.specs.Stored.{Stored, read}
use Rattle.rh_trace.specs.Validity.{IsValid}
use Rattle.rh_rules.specs.declared.event.Event.{Event}
use Rattle.rh_explore.specs.declared.families.Family.{Family}
use Rattle.rh_explore.specs.declared.families.Front.{Front}
use Rattle.rh_explore.specs.declared.leads.Expansion.{Expansion}
use Rattle.rh_explore.specs.declared.search.Search.{Search}
use Rattle.rh_explore.specs.declared.space.Space.{Space}
use Rattle.rh_explore.specs.Exploring.{scope_of}
use Rattle.rh_explore.specs.Families.{Knowing, child_by, ExpandsSo}
use Rattle.rh_explore.specs.Kept.{knowing_in, IsFrontOf, IsExpandedNext}
use Rattle.rh_explore.proofs.Begun.{at_none}
use Rattle.rh_explore.proofs.Finds.{known_there}
use Rattle.rh_explore.proofs.Leading.{accepted_next}
use Rattle.rh_explore.proofs.space.Space.take_family.Goals as goal

-- the states of a family that come next: that to which an event leads, and the others
abbrev others : Search → Stored → List (Option Event) → ℕ → List StateView
others search s events i = map (child_by search.pick (read s)) (drop (i + 1) events)

first_next : (search : Search) (space : Space) (front : Front) (s : Stored) (events : List (Option Event)) (i : ℕ) (d : Option Event) → i < length events
    → IsFrontOf search space front (map (child_by search.pick (read s)) (drop i events))
    → IsFrontOf search space front (child_by search.pick (read s) (get_or events i d) ∷ others search s events i)
first_next search space front s events i d within so =
    subst (λ (es : List (Option Event)). IsFrontOf search space front (map (child_by search.pick (read s)) es)) (drop_more events i d within) so

-- what came of it, said of the family and of what is known
expands_so : (search : Search) (k known : Knowing) (s z : Stored) (events seen : List (Option Event)) (i : ℕ) (d : Option Event) (x : Expansion) → k ≡ known
    → z ≡ s → seen ≡ events → ExpandsSo (scope_of search) search.asks.now k (child_by search.pick (read z) (get_or seen i d)) x
    → ExpandsSo (scope_of search) search.asks.now known (child_by search.pick (read s) (get_or events i d)) x
expands_so search k known s z events seen i d x knows state same so =
    subst (λ (q : Knowing). ExpandsSo (scope_of search) search.asks.now q (child_by search.pick (read s) (get_or events i d)) x) knows
    (subst (λ (y : Stored). ExpandsSo (scope_of search) search.asks.now k (child_by search.pick (read y) (get_or events i d)) x) state
    (subst (λ (es : List (Option Event)). ExpandsSo (scope_of search) search.asks.now k (child_by search.pick (read z) (get_or es i d)) x) same so))

next_expanded : (search : Search) (space : Space) (front : Front) (k : Knowing) (s z : Stored) (events seen : List (Option Event)) (i : ℕ) (d : Option Event)
    (x : Expansion) → k ≡ knowing_in space → z ≡ s → seen ≡ events → i < length events
    → ExpandsSo (scope_of search) search.asks.now k (child_by search.pick (read z) (get_or seen i d)) x
    → IsFrontOf search space front (map (child_by search.pick (read s)) (drop i events)) → IsExpandedNext search space front x
next_expanded search space front k s z events seen i d x knows state same within came so = (
  knowing_in space,
  child_by search.pick (read s) (get_or events i d),
  others search s events i,
  known_there space,
  expands_so search k (knowing_in space) s z events seen i d x knows state same came,
  first_next search space front s events i d within so,
)

pub events-init : goal.events-init
events-init c = record {
  same = c.as_slice-event-items.ensures.value;
  state = c.into_inner-state.ensures;
  idle = c.requires.idle;
  entered = c.requires.entered;
  kept = c.requires.kept;
  under_way = c.requires.under_way;
  front = c.requires.front;
  next = omega arith;
  few = omega arith;
}

pub expand-requires-clause-valid : goal.expand-requires-clause-valid
expand-requires-clause-valid c = subst (λ (z : Stored). IsValid (read z)) (sym c.events.invariant.state) c.requires.family.valid

pub expand-requires-clause-accepted : goal.expand-requires-clause-accepted
expand-requires-clause-accepted c =
    let family : Family = c.args.family in
    accepted_next family.state.value c.events.state family.events.items _ c.events.event-index _ c.events.invariant.state c.events.invariant.same c.events-test.true
    c.requires.family.accepted

pub expand-requires-clause-known : goal.expand-requires-clause-known
expand-requires-clause-known c = ap (λ (k : Knowing). length k.firsts) c.known_so_far.ensures ∙ c.events.invariant.kept.firsts.count

within_of : (events seen : List (Option Event)) (i : ℕ) → seen ≡ events → i < length seen → i < length events
within_of events seen i same within = subst (λ (es : List (Option Event)). i < length es) same within

pub take_one-requires-clause-front : goal.take_one-requires-clause-front
take_one-requires-clause-front c =
    let family : Family = c.args.family in
    let i = c.events.invariant in
    let within = within_of family.events.items _ c.events.event-index i.same c.events-test.true in
    next_expanded c.args.search.now c.events.self c.events.front _ family.state.value c.events.state family.events.items _ c.events.event-index _
    c.in_ok-expansion.expansion c.known_so_far.ensures i.state i.same within c.in_ok-expansion.ensures.expansion i.front

pub events-preserved : goal.events-preserved
events-preserved c =
    let family : Family = c.args.family in
    let search : Search = c.args.search.now in
    let i = c.events.invariant in
    let events = family.events.items in
    let at = c.events.event-index in
    let within = within_of events _ at i.same c.events-test.true in
    let end = c.in_ok-covered.ensures in
    let none = c.in_default.is in
    let next_is = at_none c.in_ok-covered.field-0 _ none end.next in
    record {
      same = i.same;
      state = c.in_ok-expansion.ensures.state ∙ i.state;
      idle = c.in_ok-expansion.ensures.idle;
      entered = c.in_ok-expansion.ensures.entered;
      kept = end.kept;
      under_way = at_none c.in_ok-covered.field-0 _ none end.under_way;
      front = at_none c.in_ok-covered.field-0 _ none end.front (child_by search.pick (read family.state.value) (get_or events at None))
          (others search family.state.value events at)
          (first_next search c.events.self c.events.front family.state.value events at None within i.front);
      next = omega (arith, next_is, i.next);
      few = omega (arith, within);
    }

pub returns-clause-front : goal.returns-clause-front
returns-clause-front c =
    let family : Family = c.args.family in
    let search : Search = c.args.search.now in
    let i = c.events.invariant in
    let past : length family.events.items ≤ c.events.event-index = omega (arith, c.events-test.false, ap (λ (es : List (Option Event)). length es) i.same) in
    let none = nil_from_length (drop c.events.event-index family.events.items) (omega (arith, past, length-drop c.events.event-index family.events.items)) in
    subst (λ (es : List (Option Event)). IsFrontOf search c.events.self c.events.front (map (child_by search.pick (read family.state.value)) es)) none i.front

pub returns-clause-next : goal.returns-clause-next
returns-clause-next c =
    let family : Family = c.args.family in
    let i = c.events.invariant in
    omega (arith, i.next, c.events-test.false, ap (λ (es : List (Option Event)). length es) i.same, i.few)
