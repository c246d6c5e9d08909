use Rattle.std.proofs.Common.{◌≡◌, ◌∷◌, [], List, length, refl, ap, subst, arith}
use Rattle.std.specs.List.{AllZip}
use Rattle.rh_state.specs.StateView.{StateView}
use Rattle.rh_explore.specs.declared.families.Front.{Front}
use Rattle.rh_explore.specs.declared.leads.Expansion.{Expansion}
use Rattle.rh_explore.specs.declared.search.Search.{Search}
use Rattle.rh_explore.specs.declared.space.Space.{Space}
use Rattle.rh_explore.specs.Exploring.{scope_of}
use Rattle.rh_explore.specs.Families.{Knowing, ExpandsSo}
use Rattle.rh_explore.specs.Kept.{knowing_in, IsFrontOf}
use Rattle.rh_explore.proofs.Begun.{at_none}
use Rattle.rh_explore.proofs.Finds.{known_there, known_later}
use Rattle.rh_explore.proofs.Popped.{first_is, none_left}
use Rattle.rh_explore.proofs.space.Space.take_in.Goals as goal

-- ---- the state that was expanded
-- these states come next, and this came of each
abbrev AreExpanded : Search → Space → Knowing → Front → List Expansion → Type 0
AreExpanded search space k front expansions =
    (states : List StateView) × AllZip (ExpandsSo (scope_of search) search.asks.now k) states expansions × IsFrontOf search space front states

-- this comes first, and those come then
record IsTurn (search : Search) (space : Space) (k : Knowing) (front : Front) (expansion : Expansion) (rest : List Expansion) : Type 0 where
  pub state : StateView
  pub states : List StateView
  pub expands : ExpandsSo (scope_of search) search.asks.now k state expansion
  pub others : AllZip (ExpandsSo (scope_of search) search.asks.now k) states rest
  pub families : IsFrontOf search space front (state ∷ states)

turn_of : (search : Search) (space : Space) (k : Knowing) (front : Front) (expansion : Expansion) (expansions rest : List Expansion) → expansions ≡ expansion ∷ rest
    → AreExpanded search space k front expansions → IsTurn search space k front expansion rest
turn_of search space k front expansion expansions rest is ([], zip, so) =
    absurd (subst (λ (es : List Expansion). AllZip (ExpandsSo (scope_of search) search.asks.now k) [] es) is zip)
turn_of search space k front expansion expansions rest is (s ∷ states, zip, so) =
    let both = subst (λ (es : List Expansion). AllZip (ExpandsSo (scope_of search) search.asks.now k) (s ∷ states) es) is zip in
    record { state = s; states = states; expands = both.0; others = both.1; families = so }

nothing_of : (search : Search) (space : Space) (k : Knowing) (front : Front) (expansions : List Expansion) → expansions ≡ []
    → AreExpanded search space k front expansions → IsFrontOf search space front []
nothing_of search space k front expansions is ([], zip, so) = so
nothing_of search space k front expansions is (s ∷ states, zip, so) =
    absurd (subst (λ (es : List Expansion). AllZip (ExpandsSo (scope_of search) search.asks.now k) (s ∷ states) es) is zip)

pub expansions-init : goal.expansions-init
expansions-init c =
    record {
      kept = c.requires.kept;
      under_way = c.requires.under_way;
      known = known_there c.args.self.now;
      front = c.requires.front;
      next = refl;
    }

pub take_one-requires-clause-front : goal.take_one-requires-clause-front
take_one-requires-clause-front c =
    let k = knowing_in c.args.self.now in
    let left = c.pop_front.new.self.items in
    let e : Expansion = c.in-Some.expansion in
    let turn = turn_of c.args.search.now c.expansions.self k c.expansions.front e c.expansions.rest.items left
    (first_is c.expansions.rest.items left c.pop_front.result e c.pop_front.ensures.items c.in-Some.is) c.expansions.invariant.front in
    (k, turn.state, turn.states, c.expansions.invariant.known, turn.expands, turn.families)

pub expansions-preserved : goal.expansions-preserved
expansions-preserved c =
    let k = knowing_in c.args.self.now in
    let left = c.pop_front.new.self.items in
    let e : Expansion = c.in-Some.expansion in
    let first = first_is c.expansions.rest.items left c.pop_front.result e c.pop_front.ensures.items c.in-Some.is in
    let turn = turn_of c.args.search.now c.expansions.self k c.expansions.front e c.expansions.rest.items left first c.expansions.invariant.front in
    let end = c.in_ok-covered.ensures in
    let none = c.in_default-2.is in
    let next_is = at_none c.in_ok-covered.field-0 _ none end.next in
    record {
      kept = end.kept;
      under_way = at_none c.in_ok-covered.field-0 _ none end.under_way;
      known = known_later k c.expansions.self c.take_one.new.self c.expansions.invariant.known (at_none c.in_ok-covered.field-0 _ none end.known);
      front = (turn.states, turn.others, at_none c.in_ok-covered.field-0 _ none end.front turn.state turn.states turn.families);
      next = omega (arith, next_is, c.expansions.invariant.next, ap (λ (es : List Expansion). length es) first);
    }

pub expansions-smaller : goal.expansions-smaller
expansions-smaller c =
    let left = c.pop_front.new.self.items in
    let first = first_is c.expansions.rest.items left c.pop_front.result c.in-Some.expansion c.pop_front.ensures.items c.in-Some.is in
    omega (arith, ap (λ (es : List Expansion). length es) first)

pub returns-clause-next : goal.returns-clause-next
returns-clause-next c =
    let none = none_left c.expansions.rest.items c.pop_front.new.self.items c.pop_front.result c.pop_front.ensures.items c.pop_front.ensures.rest c.in_default.is in
    omega (arith, c.expansions.invariant.next, ap (λ (es : List Expansion). length es) none)

pub returns-clause-front : goal.returns-clause-front
returns-clause-front c =
    nothing_of c.args.search.now c.expansions.self (knowing_in c.args.self.now) c.expansions.front c.expansions.rest.items
    (none_left c.expansions.rest.items c.pop_front.new.self.items c.pop_front.result c.pop_front.ensures.items c.pop_front.ensures.rest c.in_default.is)
    c.expansions.invariant.front
