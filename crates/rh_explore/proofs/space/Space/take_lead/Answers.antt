use Rattle.std.proofs.Common.{◌≡◌, ◌⊎◌, ◌<◌, ◌≤◌, ◌+◌, ℕ, Bool, true, false, List, [], ◌∷◌, length, slice_get, Some, All, inl, inr, sym, ap, ◌∙◌, subst, arith}
use Rattle.std.proofs.lemmas.Bool.{cases_lt}
use Rattle.std.proofs.lemmas.List.{append-nil, length-map, length_push}
use Rattle.std.proofs.lemmas.Option.{same_Some, slice_get_within}
use Rattle.rh_base.proofs.Truths.{both}
use Rattle.rh_state.specs.StateView.{StateView}
use Rattle.rh_rules.specs.declared.event.Event.{Event}
use Rattle.rh_step.specs.Runs.{step}
use Rattle.rh_explore.specs.declared.asking.Ask.{Ask}
use Rattle.rh_explore.specs.declared.bounds.Bounds.{Bounds}
use Rattle.rh_explore.specs.declared.leads.Lead.{Lead}
use Rattle.rh_explore.specs.declared.leads.Lead.TheVariants as lead
use Rattle.rh_explore.specs.declared.leads.Marks.{Marks}
use Rattle.rh_explore.specs.declared.moves.Move.{Move}
use Rattle.rh_explore.specs.declared.search.Search.{Search}
use Rattle.rh_explore.specs.declared.space.Found.{Found}
use Rattle.rh_explore.specs.declared.space.Space.{Space}
use Rattle.rh_explore.specs.Exploring.{scope_of, most_bytes, IsFull}
use Rattle.rh_explore.specs.Families.{Knowing, LeadsSo, is_new}
use Rattle.rh_explore.specs.Kept.{seen_of, seen_in, IsKept, LeadAt, FindsAt}
use Rattle.rh_explore.specs.Reaching.{Scope}
use Rattle.rh_explore.specs.Spaces.{Seen, states_of, IsExpandedAt, IsCut}
use Rattle.rh_explore.proofs.Begun.{at_true, at_false}
use Rattle.rh_explore.proofs.Finds.{finds_none}
use Rattle.rh_explore.proofs.FirstsTold.{fails_within}
use Rattle.rh_explore.proofs.KeyLists.{key_there, key_not_there}
use Rattle.rh_explore.proofs.NothingNew.{kept_same, finds_same, either}
use Rattle.rh_explore.proofs.OneFound.{kept_on, made_on, found_on}
use Rattle.rh_explore.proofs.PathsTo.{length-seen}
use Rattle.rh_explore.proofs.Taken.{IsWayTo, way_to, leads_nowhere, leads_back, leads_to_limit, leads_known, leads_too_far}
use Rattle.rh_keys.proofs.Places.{there_of}
use Rattle.rh_explore.proofs.space.Space.take_lead.Goals as goal

-- a move is next, and this is where it leads
abbrev IsNextLead : Search → Space → ℕ → Lead → Type 0
IsNextLead search space at lead = LeadAt search space at (λ k s. (made : ℕ) × (m : Move) × (slice_get search.moves.now made ≡ Some m)
    × IsExpandedAt (scope_of search) (seen_in search space) at made × LeadsSo (scope_of search) search.asks.now k s m lead)

-- there is no room, as it is said of what was found
full : (w : Scope) (space : Space) (asks : List Ask) (bounds : Bounds) → IsKept w bounds asks space
    → (bounds.states ≤ length space.found.items) ⊎ (most_bytes bounds ≤ space.bytes) → IsFull bounds (states_of (seen_of w space.found.items))
full w space asks bounds kept (inl l) =
    inl (omega (arith, l, length-map (seen_of w space.found.items) (λ (x : Seen). x.state), length-seen w space.found.items))
full w space asks bounds kept (inr l) = inr (omega (arith, l, kept.bytes))

-- there is room
room_left : (bounds : Bounds) (found : List Found) (bytes : ℕ) (full : Bool) → ((bounds.states ≤ length found) ⊎ (most_bytes bounds ≤ bytes) → full ≡ true)
    → full ≡ false → (length found < bounds.states) × (bytes < most_bytes bounds)
room_left bounds found bytes full so not = (
  elim (cases_lt (length found) bounds.states) [
    | inl l ↦ l
    | inr l ↦ absurd (both full (so (inl l)) not)
  ],
  elim (cases_lt bytes (most_bytes bounds)) [
    | inl l ↦ l
    | inr l ↦ absurd (both full (so (inr l)) not)
  ],
)

-- ---- a move that leads to no state that wasn't there
pub returns-in-Nowhere-clause-made : goal.returns-in-Nowhere-clause-made
returns-in-Nowhere-clause-made c = λ k x made m here knows is so leads.
    let s : Search = c.args.search.now in
    let w = scope_of s in
    elim c.in-Nowhere.is [
      | inl nowhere ↦
          leads_nowhere w s.bounds s.asks.now c.args.self.now c.requires.kept c.args.at x here k knows m made is so
          (subst (λ (l : Lead). LeadsSo w s.asks.now k x.state m l) nowhere leads)
      | inr known ↦
          leads_back w s.bounds s.asks.now c.args.self.now c.requires.kept c.args.at x here k knows m made is so
          (subst (λ (l : Lead). LeadsSo w s.asks.now k x.state m l) known leads)
    ]

pub returns-in-Nowhere-clause-finds : goal.returns-in-Nowhere-clause-finds
returns-in-Nowhere-clause-finds c =
    ([], sym (append-nil c.args.events.now.items), finds_none c.args.search.now c.args.at c.args.self.now, λ some. absurd (omega (arith, some)))

pub returns-in-AtLimit-clause-made : goal.returns-in-AtLimit-clause-made
returns-in-AtLimit-clause-made c = λ k x made m here knows is so leads.
    let s : Search = c.args.search.now in
    let w = scope_of s in (
      so,
      leads_to_limit w s.bounds s.asks.now c.args.self.now c.requires.kept c.args.at x here k knows m made is so
          (subst (λ (l : Lead). LeadsSo w s.asks.now k x.state m l) c.in-AtLimit.is leads),
    )

pub returns-in-AtLimit-clause-finds : goal.returns-in-AtLimit-clause-finds
returns-in-AtLimit-clause-finds c =
    ([], sym (append-nil c.args.events.now.items), finds_none c.args.search.now c.args.at c.args.self.now, λ some. absurd (omega (arith, some)))

-- what is kept of the state to which it leads
way_by : (w : Scope) (asks : List Ask) (k : Knowing) (s : StateView) (m : Move) (l : Lead) (e : Event) (marks : Marks)
    → l ≡ lead.To e marks → LeadsSo w asks k s m l → IsWayTo w asks k s m e marks
way_by w asks k s m l e marks is leads = way_to w asks k s m e marks (subst (λ (z : Lead). LeadsSo w asks k s m z) is leads)

-- where there is no room, it is asked whether the state is there
pub returns-then-is_full-clause-made : goal.returns-then-is_full-clause-made
returns-then-is_full-clause-made c = λ k x made m here knows is so leads.
    let s : Search = c.args.search.now in
    let w = scope_of s in
    let old : Space = c.args.self.now in
    let e : Event = c.in-To.event in
    let marks : Marks = c.in-To.marks in
    let way = way_by w s.asks.now k x.state m c.args.lead e marks c.in-To.is leads in
    either c.contains-known.result
    (IsExpandedAt w (seen_in s old) c.args.at (made + 1))
    (IsExpandedAt w (seen_in s old) c.args.at made × IsCut w s.bounds (seen_in s old) c.args.at)
    (λ there.
    leads_known w s.bounds s.asks.now old c.requires.kept c.args.at x here k knows m made is so e marks way
    (key_there old marks.key.bytes.items (sym c.contains-known.ensures ∙ there)))
    (λ not. (
      so,
      leads_too_far w s.bounds s.asks.now old c.requires.kept c.args.at x here k knows m made is so e marks way
          (key_not_there old marks.key.bytes.items (sym c.contains-known.ensures ∙ not))
          (full w old s.asks.now s.bounds c.requires.kept (c.is_full.ensures.full.0 c.if-is_full.true)),
    ))

pub returns-then-is_full-clause-finds : goal.returns-then-is_full-clause-finds
returns-then-is_full-clause-finds c =
    ([], sym (append-nil c.args.events.now.items), finds_none c.args.search.now c.args.at c.args.self.now, λ some. absurd (omega (arith, some)))

-- ---- one that does
pub overflow_add-found : goal.overflow_add-found
overflow_add-found c =
    let s = c.requires.short in
    let f : Found = c.index.result.now in
    let there = there_of c.args.self.now.found.items c.args.at f (slice_get_within c.args.self.now.found.items c.args.at s.0 s.1) c.index.ensures in
    let f_is : s.0 ≡ f = same_Some s.0 f (sym s.1 ∙ there) in
    let deep : f.depth < c.args.search.now.bounds.steps = subst (λ (h : Found). h.depth < c.args.search.now.bounds.steps) f_is s.2 in
    omega (arith, deep, c.ranges)

pub push-requires-clause-few : goal.push-requires-clause-few
push-requires-clause-few c = let small = c.is_full.ensures.small c.if-is_full.false in omega (arith, small, c.ranges)

pub push-requires-clause-fails : goal.push-requires-clause-fails
push-requires-clause-fails c = by c.requires.leads
  where
    by : IsNextLead c.args.search.now c.args.self.now c.args.at c.args.lead → All (λ (j : ℕ). j < length c.args.self.now.firsts.items) c.in-To.marks.fails.items
    by (k, x, here, knows, (made, m, is, so, leads)) =
        let s : Search = c.args.search.now in
        let marks : Marks = c.in-To.marks in
        let way = way_by (scope_of s) s.asks.now k x.state m c.args.lead c.in-To.event marks c.in-To.is leads in
        fails_within s.pick k.firsts c.args.self.now.firsts.items s.asks.now (step s.pick x.state c.in-To.event) marks.fails.items way.fails
        c.requires.kept.firsts.count

-- ---- to a state that another one led to before
pub returns-then-not-new-clause-kept : goal.returns-then-not-new-clause-kept
returns-then-not-new-clause-kept c =
    let s : Search = c.args.search.now in
    let same = at_false _ _ _ c.if-not-new.true c.in_ok-new-in-To.ensures.added in
    kept_same (scope_of s) s.bounds s.asks.now c.args.self.now c.push.new.self same c.requires.kept

pub returns-then-not-new-clause-grown : goal.returns-then-not-new-clause-grown
returns-then-not-new-clause-grown c =
    let same = at_false _ _ _ c.if-not-new.true c.in_ok-new-in-To.ensures.added in
    ([], same.found ∙ sym (append-nil c.args.self.now.found.items))

pub returns-then-not-new-clause-room : goal.returns-then-not-new-clause-room
returns-then-not-new-clause-room c =
    let same = at_false _ _ _ c.if-not-new.true c.in_ok-new-in-To.ensures.added in
    omega (arith, ap (λ (found : List Found). length found) same.found)

pub returns-then-not-new-clause-made : goal.returns-then-not-new-clause-made
returns-then-not-new-clause-made c = λ k x made m here knows is so leads.
    let s : Search = c.args.search.now in
    let w = scope_of s in
    let old : Space = c.args.self.now in
    let marks : Marks = c.in-To.marks in
    let way = way_by w s.asks.now k x.state m c.args.lead c.in-To.event marks c.in-To.is leads in
    let there = at_false _ _ _ c.if-not-new.true c.in_ok-new-in-To.ensures.new in
    let same = at_false _ _ _ c.if-not-new.true c.in_ok-new-in-To.ensures.added in
    subst (λ (found : List Found). IsExpandedAt w (seen_of w found) c.args.at (made + 1)) (sym same.found)
    (leads_known w s.bounds s.asks.now old c.requires.kept c.args.at x here k knows m made is so c.in-To.event marks way there)

pub returns-then-not-new-clause-finds : goal.returns-then-not-new-clause-finds
returns-then-not-new-clause-finds c =
    let same = at_false _ _ _ c.if-not-new.true c.in_ok-new-in-To.ensures.added in (
      [],
      sym (append-nil c.args.events.now.items),
      finds_same c.args.search.now c.args.at c.args.self.now c.push.new.self same,
      λ some. absurd (omega (arith, some)),
    )

-- ---- to one that none led to before
pub returns-in_ok-push-in-To-clause-kept : goal.returns-in_ok-push-in-To-clause-kept
returns-in_ok-push-in-To-clause-kept c = by c.requires.leads
  where
    by : IsNextLead c.args.search.now c.args.self.now c.args.at c.args.lead
        → IsKept (scope_of c.args.search.now) c.args.search.now.bounds c.args.search.now.asks.now c.push.new.self
    by (k, x, here, knows, (made, m, is, so, leads)) =
        let s : Search = c.args.search.now in
        let w = scope_of s in
        let old : Space = c.args.self.now in
        let e : Event = c.in-To.event in
        let marks : Marks = c.in-To.marks in
        let short = c.requires.short in
        let f : Found = c.index.result.now in
        let there = there_of old.found.items c.args.at f (slice_get_within old.found.items c.args.at short.0 short.1) c.index.ensures in
        let way = way_by w s.asks.now k x.state m c.args.lead e marks c.in-To.is leads in
        let fresh = at_true _ _ _ c.if-not-new.false c.in_ok-new-in-To.ensures.new in
        let more = at_true _ _ _ c.if-not-new.false c.in_ok-new-in-To.ensures.added in
        let room = room_left s.bounds old.found.items old.bytes c.is_full.result c.is_full.ensures.full.1 c.if-is_full.false in
        kept_on s old c.push.new.self c.args.at f there e marks c.requires.kept more.found more.keys more.bytes more.firsts
        k x here knows m made is so way fresh room.0 room.1

pub returns-in_ok-push-in-To-clause-made : goal.returns-in_ok-push-in-To-clause-made
returns-in_ok-push-in-To-clause-made c = λ k x made m here knows is so leads.
    let s : Search = c.args.search.now in
    let w = scope_of s in
    let old : Space = c.args.self.now in
    let e : Event = c.in-To.event in
    let marks : Marks = c.in-To.marks in
    let short = c.requires.short in
    let f : Found = c.index.result.now in
    let there = there_of old.found.items c.args.at f (slice_get_within old.found.items c.args.at short.0 short.1) c.index.ensures in
    let way = way_by w s.asks.now k x.state m c.args.lead e marks c.in-To.is leads in
    let fresh = at_true _ _ _ c.if-not-new.false c.in_ok-new-in-To.ensures.new in
    let more = at_true _ _ _ c.if-not-new.false c.in_ok-new-in-To.ensures.added in
    made_on s old c.push.new.self c.args.at f there e marks c.requires.kept more.found more.keys more.bytes more.firsts
    k x here knows m made is so way fresh

pub returns-in_ok-push-in-To-clause-grown : goal.returns-in_ok-push-in-To-clause-grown
returns-in_ok-push-in-To-clause-grown c =
    let more = at_true _ _ _ c.if-not-new.false c.in_ok-new-in-To.ensures.added in
    (_, more.found)

pub returns-in_ok-push-in-To-clause-room : goal.returns-in_ok-push-in-To-clause-room
returns-in_ok-push-in-To-clause-room c =
    let s : Search = c.args.search.now in
    let old : Space = c.args.self.now in
    let more = at_true _ _ _ c.if-not-new.false c.in_ok-new-in-To.ensures.added in
    let room = room_left s.bounds old.found.items old.bytes c.is_full.result c.is_full.ensures.full.1 c.if-is_full.false in
    let one : Found = record { last = Some (c.args.at, c.in-To.event); depth = c.index.result.now.depth + 1 } in
    omega (arith, room.0, ap (λ (found : List Found). length found) more.found, length_push old.found.items one)

pub returns-in_ok-push-in-To-clause-finds : goal.returns-in_ok-push-in-To-clause-finds
returns-in_ok-push-in-To-clause-finds c = (Some c.in-To.event ∷ [], c.in_ok-push-in-To.ensures.items, by c.requires.leads, λ some. ap is_new c.in-To.is)
  where
    by : IsNextLead c.args.search.now c.args.self.now c.args.at c.args.lead
        → FindsAt c.args.search.now c.args.at c.args.self.now c.push.new.self (Some c.in-To.event ∷ [])
    by (k, x, here, knows, (made, m, is, so, leads)) =
        let s : Search = c.args.search.now in
        let w = scope_of s in
        let old : Space = c.args.self.now in
        let e : Event = c.in-To.event in
        let marks : Marks = c.in-To.marks in
        let short = c.requires.short in
        let f : Found = c.index.result.now in
        let there = there_of old.found.items c.args.at f (slice_get_within old.found.items c.args.at short.0 short.1) c.index.ensures in
        let way = way_by w s.asks.now k x.state m c.args.lead e marks c.in-To.is leads in
        let fresh = at_true _ _ _ c.if-not-new.false c.in_ok-new-in-To.ensures.new in
        let more = at_true _ _ _ c.if-not-new.false c.in_ok-new-in-To.ensures.added in
        found_on s old c.push.new.self c.args.at f there e marks c.requires.kept more.found more.keys more.bytes more.firsts
        k x here knows m made is so way fresh
