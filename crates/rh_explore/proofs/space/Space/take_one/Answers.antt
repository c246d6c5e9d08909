use Rattle.std.proofs.Common.{◌≡◌, ◌<◌, ◌++◌, ◌∷◌, List, length, Option, Some, None, inl, inr, true, IsSome, refl, sym, ap, ◌∙◌, subst, arith, Box, Global}
use Rattle.std.specs.List.{list_any}
use Rattle.std.proofs.lemmas.Bool.{cases_lt}
use Rattle.std.proofs.lemmas.List.{length-map}
use Rattle.std.proofs.lemmas.Option.{none-some, same_Some}
use Rattle.rh_state.specs.StateView.{StateView}
use Rattle.rh_state.specs.Stored.{Stored, read}
use Rattle.rh_rules.specs.declared.event.Event.{Event}
use Rattle.rh_trace.specs.Validity.{IsValid}
use Rattle.rh_explore.specs.declared.families.Front.{Front}
use Rattle.rh_explore.specs.declared.leads.Expansion.{Expansion}
use Rattle.rh_explore.specs.declared.search.Search.{Search}
use Rattle.rh_explore.specs.declared.space.Found.{Found}
use Rattle.rh_explore.specs.declared.space.Space.{Space}
use Rattle.rh_explore.specs.Exploring.{scope_of}
use Rattle.rh_explore.specs.Families.{Knowing, LeadsSo, AreLeads, ExpandsSo, waiting_in, is_new}
use Rattle.rh_explore.specs.Kept.{seen_in, IsKnown, LeadAt, FindsFrom, IsFrontOf, IsExpandedNext}
use Rattle.rh_explore.specs.Spaces.{states_of, IsSeen, IsExpandedAt, IsUnderWay}
use Rattle.rh_keys.proofs.Places.{at_of, there_of}
use Rattle.rh_explore.proofs.Begun.{at_none, at_some}
use Rattle.rh_explore.proofs.PathsTo.{seen_stays, length-seen}
use Rattle.rh_explore.proofs.Reached.{begun}
use Rattle.rh_explore.proofs.UnderWay.{state_in, IsNextState, next_state, depth_of, ends_deep, ends_cut, goes_past, front_same, front_more}
use Rattle.rh_explore.proofs.space.Space.take_one.Goals as goal

-- ---- the state that was expanded
-- it comes next, and these come then
record IsTurn (search : Search) (space : Space) (front : Front) (expansion : Expansion) : Type 0 where
  pub known : Knowing
  pub state : StateView
  pub states : List StateView
  pub less : IsKnown known space
  pub expands : ExpandsSo (scope_of search) search.asks.now known state expansion
  pub families : IsFrontOf search space front (state ∷ states)

turn_of : (search : Search) (space : Space) (front : Front) (expansion : Expansion) → IsExpandedNext search space front expansion → IsTurn search space front expansion
turn_of search space front expansion (k, s, states, less, expands, so) =
    record { known = k; state = s; states = states; less = less; expands = expands; families = so }

module _ (search : Search) (space : Space) (front : Front) (expansion : Expansion) (turn : IsTurn search space front expansion)
    (way : IsUnderWay (scope_of search) search.bounds (seen_in search space) front.next) where
  abbrev next : IsNextState search space front.next turn.state (turn.states ++ waiting_in search.pick front.families.items)
  next = next_state search space front turn.state turn.states turn.families

  leads_there : LeadAt search space front.next (λ k s. AreLeads (LeadsSo (scope_of search) search.asks.now k s) search.moves.now expansion.leads.items)
  leads_there = (
    turn.known,
    next.seen,
    next.here,
    turn.less,
    subst (λ (s : StateView). AreLeads (LeadsSo (scope_of search) search.asks.now turn.known s) search.moves.now expansion.leads.items) (sym next.state)
        turn.expands.leads,
  )

  begins : IsExpandedAt (scope_of search) (seen_in search space) front.next 0
  begins = begun (scope_of search) (seen_in search space) front.next next.seen next.here way.searched way.near

pub index-requires : goal.index-requires
index-requires c =
    let search : Search = c.args.search.now in
    let space : Space = c.args.self.now in
    let turn = turn_of search space c.args.front.now c.args.expansion c.requires.front in
    let n = next search space c.args.front.now c.args.expansion turn c.requires.under_way in
    omega (arith, n.within, space.found.ok.0)

pub returns-then-depth-search-clause-ended : goal.returns-then-depth-search-clause-ended
returns-then-depth-search-clause-ended c =
    let search : Search = c.args.search.now in
    let space : Space = c.args.self.now in
    let at = c.args.front.now.next in
    let turn = turn_of search space c.args.front.now c.args.expansion c.requires.front in
    let n = next search space c.args.front.now c.args.expansion turn c.requires.under_way in
    let f : Found = c.index.result.now in
    let deep = depth_of search space at turn.state _ f c.requires.kept.linked n (there_of space.found.items at f n.within c.index.ensures) in
    ends_deep (scope_of search) search.bounds (seen_in search space) at n.seen n.here c.requires.under_way (omega (arith, c.if-depth-search.true, deep))

pub take_leads-requires-clause-short : goal.take_leads-requires-clause-short
take_leads-requires-clause-short c =
    let search : Search = c.args.search.now in
    let space : Space = c.args.self.now in
    let at = c.args.front.now.next in
    let turn = turn_of search space c.args.front.now c.args.expansion c.requires.front in
    let n = next search space c.args.front.now c.args.expansion turn c.requires.under_way in
    let f : Found = c.index.result.now in
    (f, there_of space.found.items at f n.within c.index.ensures, omega (arith, c.if-depth-search.false))

pub take_leads-requires-clause-begun : goal.take_leads-requires-clause-begun
take_leads-requires-clause-begun c =
    let search : Search = c.args.search.now in
    let space : Space = c.args.self.now in
    let turn = turn_of search space c.args.front.now c.args.expansion c.requires.front in
    begins search space c.args.front.now c.args.expansion turn c.requires.under_way

pub take_leads-requires-clause-leads : goal.take_leads-requires-clause-leads
take_leads-requires-clause-leads c =
    let search : Search = c.args.search.now in
    let space : Space = c.args.self.now in
    let turn = turn_of search space c.args.front.now c.args.expansion c.requires.front in
    leads_there search space c.args.front.now c.args.expansion turn c.requires.under_way

pub returns-in_default-clause-ended : goal.returns-in_default-clause-ended
returns-in_default-clause-ended c =
    let search : Search = c.args.search.now in
    let w = scope_of search in
    let space : Space = c.args.self.now in
    let new : Space = c.take_leads.new.self in
    let at = c.args.front.now.next in
    let turn = turn_of search space c.args.front.now c.args.expansion c.requires.front in
    let n = next search space c.args.front.now c.args.expansion turn c.requires.under_way in
    let f : Found = c.index.result.now in
    let deep = depth_of search space at turn.state _ f c.requires.kept.linked n (there_of space.found.items at f n.within c.index.ensures) in
    let here = seen_stays w space.found.items new.found.items at n.seen c.in_ok-events.ensures.grown n.here in
    let cut = at_none c.in_ok-events.field-0 _ c.in_default.is c.in_ok-events.ensures.cut in
    ends_cut w search.bounds (seen_in search new) at n.seen here cut.0 cut.1 (omega (arith, deep, c.if-depth-search.false)) f.depth deep cut.2

-- the state is kept where others were found
is_kept : (search : Search) (k : Knowing) (s : StateView) (e : Expansion) (events : List (Option Event)) → ExpandsSo (scope_of search) search.asks.now k s e
    → (0 < length events → list_any is_new e.leads.items ≡ true) → 0 < length events → (state : Box Stored Global) × (e.state ≡ Some state) × (read state.value ≡ s)
is_kept search k s e events so new some = so.kept (new some)

some_is : {A : Type 0} (o : Option A) (x : A) → o ≡ Some x → IsSome o
some_is None x e = absurd (none-some x e)
some_is (Some y) x e = refl

pub keep-requires-clause-some : goal.keep-requires-clause-some
keep-requires-clause-some c = λ some.
    let search : Search = c.args.search.now in
    let turn = turn_of search c.args.self.now c.args.front.now c.args.expansion c.requires.front in
    let events = c.in-Some.events.items in
    let e : Expansion = c.args.expansion in
    let state = is_kept search turn.known turn.state e events turn.expands (at_some c.in_ok-events.field-0 _ c.in-Some.events c.in-Some.is c.in_ok-events.ensures.new) some in
    some_is e.state state.0 state.1

pub keep-requires-clause-few : goal.keep-requires-clause-few
keep-requires-clause-few c =
    let search : Search = c.args.search.now in
    let space : Space = c.args.self.now in
    let turn = turn_of search space c.args.front.now c.args.expansion c.requires.front in
    let within = (next search space c.args.front.now c.args.expansion turn c.requires.under_way).within in
    let room = c.requires.under_way.room in
    omega (arith, within, room, length-seen (scope_of search) space.found.items)

-- ---- the search goes on
pub returns-clause-known : goal.returns-clause-known
returns-clause-known c =
    let search : Search = c.args.search.now in
    let turn = turn_of search c.args.self.now c.args.front.now c.args.expansion c.requires.front in
    let n = next search c.args.self.now c.args.front.now c.args.expansion turn c.requires.under_way in
    (at_some c.in_ok-events.field-0 _ c.in-Some.events c.in-Some.is c.in_ok-events.ensures.finds n.seen n.here).known

pub returns-clause-under_way : goal.returns-clause-under_way
returns-clause-under_way c =
    let search : Search = c.args.search.now in
    let w = scope_of search in
    let space : Space = c.args.self.now in
    let new : Space = c.take_leads.new.self in
    let at = c.args.front.now.next in
    let turn = turn_of search space c.args.front.now c.args.expansion c.requires.front in
    let n = next search space c.args.front.now c.args.expansion turn c.requires.under_way in
    let f : Found = c.index.result.now in
    let deep = depth_of search space at turn.state _ f c.requires.kept.linked n (there_of space.found.items at f n.within c.index.ensures) in
    let short : length n.seen.path < search.bounds.steps = omega (arith, deep, c.if-depth-search.false) in
    let here = seen_stays w space.found.items new.found.items at n.seen c.in_ok-events.ensures.grown n.here in
    let so = at_some c.in_ok-events.field-0 _ c.in-Some.events c.in-Some.is c.in_ok-events.ensures.all in
    let room = c.in_ok-events.ensures.room in
    let before = c.requires.under_way.room in
    let way = goes_past w search.bounds (seen_in search new) at n.seen here so short
    (omega (arith, room, before, length-seen w new.found.items, length-seen w space.found.items)) in
    subst (IsUnderWay w search.bounds (seen_in search new)) (sym c.in_ok-keep.ensures.next) way

pub returns-clause-front : goal.returns-clause-front
returns-clause-front c = λ s states before.
    let search : Search = c.args.search.now in
    let w = scope_of search in
    let space : Space = c.args.self.now in
    let new : Space = c.take_leads.new.self in
    let front : Front = c.args.front.now in
    let later : Front = c.keep.new.self in
    let at = front.next in
    let e : Expansion = c.args.expansion in
    let turn = turn_of search space front e c.requires.front in
    let m = next search space front e turn c.requires.under_way in
    let n = next_state search space front s states before in
    let same : turn.state ≡ s = sym m.state ∙ ap state_in (same_Some m.seen n.seen (sym m.here ∙ n.here)) ∙ n.state in
    let events = c.in-Some.events in
    let finds : FindsFrom search s space new events.items =
    subst (λ (z : StateView). FindsFrom search z space new events.items) n.state
    (at_some c.in_ok-events.field-0 _ events c.in-Some.is c.in_ok-events.ensures.finds n.seen n.here) in
    let within : at < length (states_of (seen_in search space)) =
    omega (arith, n.within, length-map (seen_in search space) state_in, length-seen w space.found.items) in
    let valid = subst IsValid n.state (at_of (IsSeen w) (seen_in search space) at n.seen c.requires.under_way.searched.each n.here).valid in
    let next_is = c.in_ok-keep.ensures.next in
    elim (cases_lt 0 (length events.items)) [
      | inl some ↦
          let state = is_kept search turn.known turn.state e events.items turn.expands
          (at_some c.in_ok-events.field-0 _ events c.in-Some.is c.in_ok-events.ensures.new) some in
          front_more search space new at s events finds within front later states before.families n.left next_is state.0 (state.2 ∙ same) valid some
          (c.in_ok-keep.ensures.some state.0 some state.1)
      | inr none ↦
          front_same search space new at s events finds within front later states before.families n.left next_is (omega (arith, none))
          (c.in_ok-keep.ensures.none (omega (arith, none)))
    ]
