use Rattle.std.proofs.Common.{◌≡◌, ◌<◌, ◌++◌, ◌∷◌, [], length, drop, All, refl, sym, ap, ◌∙◌, subst, arith}
use Rattle.std.proofs.lemmas.List.{length-map}
use Rattle.std.proofs.lemmas.List.Elements.{All-head, All-tail}
use Rattle.rh_state.specs.Stored.{read}
use Rattle.rh_explore.specs.declared.families.Family.{Family}
use Rattle.rh_explore.specs.declared.families.Front.{Front}
use Rattle.rh_explore.specs.declared.search.Search.{Search}
use Rattle.rh_explore.specs.declared.space.Space.{Space}
use Rattle.rh_explore.specs.Exploring.{scope_of}
use Rattle.rh_explore.specs.Families.{child_by, children, waiting_in, IsFamily}
use Rattle.rh_explore.specs.Kept.{seen_in, IsFrontOf}
use Rattle.rh_explore.specs.Spaces.{states_of}
use Rattle.rh_explore.proofs.Begun.{at_none}
use Rattle.rh_explore.proofs.Ends.{begins, base_waits, next_within, all_ended}
use Rattle.rh_explore.proofs.PathsTo.{length-seen}
use Rattle.rh_explore.proofs.Popped.{first_is, none_left}
use Rattle.rh_explore.proofs.alone.find_alone.Goals as goal

-- the first family is taken from those that wait
module _ (search : Search) (space : Space) (front later : Front) (family : Family) (first : front.families.items ≡ family ∷ later.families.items)
    (so : IsFrontOf search space front []) where
  is_one : IsFamily family
  is_one = All-head IsFamily family later.families.items (subst (All IsFamily) first so.families)

  wait : waiting_in search.pick front.families.items ≡ children search.pick family ++ waiting_in search.pick later.families.items
  wait = ap (waiting_in search.pick) first

  comes_next : later.next ≡ front.next → IsFrontOf search space later (children search.pick family)
  comes_next same = record {
    families = All-tail IsFamily family later.families.items (subst (All IsFamily) first so.families);
    waiting = sym wait ∙ so.waiting ∙ ap (λ n. drop n (states_of (seen_in search space))) (sym same);
  }

  within : front.next < length space.found.items
  within = next_within search space front later (children search.pick family) so
      (omega (arith, is_one.some, length-map family.events.items (child_by search.pick (read family.state.value)))) wait

pub families-init : goal.families-init
families-init g c =
    let search : Search = c.args.search.now in
    record {
      kept = c.in_ok-space.ensures.kept;
      under_way = begins search c.in_ok-space.space c.in_ok-front.front c.in_ok-space.ensures.found c.in_ok-front.ensures.next c.requires;
      front = base_waits search c.in_ok-space.space c.in_ok-front.front c.in_ok-space.ensures.found c.in_ok-front.ensures.next _
          c.in_ok-copy.ensures c.in_ok-front.ensures.families (c.in_ok-front.ensures.waiting search.pick);
      idle = c.of-worker.ensures.idle;
      entered = c.of-worker.ensures.entered;
    }

pub take_family-requires-clause-family : goal.take_family-requires-clause-family
take_family-requires-clause-family g c =
    let later : Front = record { families = c.pop_front.new.self; next = c.families.front.next } in
    is_one c.args.search.now c.families.space c.families.front later c.in-Some.family
    (first_is c.families.front.families.items c.pop_front.new.self.items c.pop_front.result c.in-Some.family c.pop_front.ensures.items c.in-Some.is)
    c.families.invariant.front

pub take_family-requires-clause-front : goal.take_family-requires-clause-front
take_family-requires-clause-front g c =
    let later : Front = record { families = c.pop_front.new.self; next = c.families.front.next } in
    comes_next c.args.search.now c.families.space c.families.front later c.in-Some.family
    (first_is c.families.front.families.items c.pop_front.new.self.items c.pop_front.result c.in-Some.family c.pop_front.ensures.items c.in-Some.is)
    c.families.invariant.front refl

pub families-preserved : goal.families-preserved
families-preserved g c =
    let end = c.in_ok-covered.ensures in
    let none = c.in_default-2.is in
    record {
      kept = end.kept;
      under_way = at_none c.in_ok-covered.field-0 _ none end.under_way;
      front = at_none c.in_ok-covered.field-0 _ none end.front;
      idle = end.idle;
      entered = end.entered;
    }

pub families-smaller : goal.families-smaller
families-smaller g c =
    let search : Search = c.args.search.now in
    let later : Front = record { families = c.pop_front.new.self; next = c.families.front.next } in
    let first = first_is c.families.front.families.items c.pop_front.new.self.items c.pop_front.result c.in-Some.family c.pop_front.ensures.items c.in-Some.is in
    let some = (is_one search c.families.space c.families.front later c.in-Some.family first c.families.invariant.front).some in
    let inside = within search c.families.space c.families.front later c.in-Some.family first c.families.invariant.front in
    let room = c.families.invariant.under_way.room in
    let next_is = at_none c.in_ok-covered.field-0 _ c.in_default-2.is c.in_ok-covered.ensures.next in
    omega (arith, some, inside, room, next_is, length-seen (scope_of search) c.families.space.found.items)

pub returns-clause-ended : goal.returns-clause-ended
returns-clause-ended g c =
    all_ended c.args.search.now c.families.space c.families.front c.families.invariant.under_way c.families.invariant.front
    (none_left c.families.front.families.items c.pop_front.new.self.items c.pop_front.result c.pop_front.ensures.items c.pop_front.ensures.rest c.in_default.is)
