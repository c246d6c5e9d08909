use Rattle.std.proofs.Common.{ℕ, length, ap, sym, ◌∙◌, subst, drop, arith}
use Rattle.std.proofs.lemmas.Bool.Decides.{nat_tests}
use Rattle.std.proofs.lemmas.List.{nil_from_length}
use Rattle.std.specs.List.{AllZip, flat_map}
use Rattle.rh_explore.specs.declared.search.Search.{Search}
use Rattle.rh_explore.specs.Exploring.{scope_of}
use Rattle.rh_explore.specs.Families.{Knowing, ExpandsSo, piece_waiting}
use Rattle.rh_explore.specs.Kept.{seen_in}
use Rattle.rh_explore.specs.Spaces.{states_of}
use Rattle.rh_explore.proofs.Begun.{at_none}
use Rattle.rh_explore.proofs.Ends.{begins, base_waits, next_within, all_ended}
use Rattle.rh_explore.proofs.PathsTo.{length-seen}
use Rattle.rh_explore.proofs.Zips.{zip_long}
use Rattle.rh_explore.proofs.space.find_together.Goals as goal

pub turns-init : goal.turns-init
turns-init g c =
    let search : Search = c.args.search.now in
    record {
      kept = c.in_ok-space.ensures.kept;
      under_way = begins search c.in_ok-space.space c.in_ok-front.front c.in_ok-space.ensures.found c.in_ok-front.ensures.next c.requires.valid;
      front = base_waits search c.in_ok-space.space c.in_ok-front.front c.in_ok-space.ensures.found c.in_ok-front.ensures.next _
          c.in_ok-copy.ensures c.in_ok-front.ensures.families (c.in_ok-front.ensures.waiting search.pick);
    }

pub take_up-requires-clause-some : goal.take_up-requires-clause-some
take_up-requires-clause-some g c = grind (arith, nat_tests, c.is_empty.ensures, c.turns-test.true)

pub expand-requires-clause-known : goal.expand-requires-clause-known
expand-requires-clause-known g c = ap (λ (k : Knowing). length k.firsts) c.known_so_far.ensures ∙ c.turns.invariant.kept.firsts.count

pub take_in-requires-clause-front : goal.take_in-requires-clause-front
take_in-requires-clause-front g c =
    let search : Search = c.args.search.now in
    let w = scope_of search in
    let pieces = c.in_ok-pieces.pieces.items in
    let states = flat_map (piece_waiting search.pick) pieces in (
      states,
      subst (λ (k : Knowing). AllZip (ExpandsSo w search.asks.now k) states c.in_ok-expansions.expansions.items) c.known_so_far.ensures c.in_ok-expansions.ensures,
      record {
        families = c.in_ok-pieces.ensures.families;
        waiting = sym (c.in_ok-pieces.ensures.waiting search.pick)
            ∙ c.turns.invariant.front.waiting
            ∙ ap (λ (n : ℕ). drop n (states_of (seen_in search c.turns.space))) (sym c.in_ok-pieces.ensures.next);
      },
    )

pub turns-smaller : goal.turns-smaller
turns-smaller g c =
    let search : Search = c.args.search.now in
    let states = flat_map (piece_waiting search.pick) c.in_ok-pieces.pieces.items in
    let some = c.in_ok-pieces.ensures.some search.pick in
    let within = next_within search c.turns.space c.turns.front c.take_up.new.self states c.turns.invariant.front some (c.in_ok-pieces.ensures.waiting search.pick) in
    let long = zip_long (ExpandsSo (scope_of search) search.asks.now _) states c.in_ok-expansions.expansions.items c.in_ok-expansions.ensures in
    let room = c.turns.invariant.under_way.room in
    omega (arith, some, within, long, room, at_none c.in_ok-covered.field-0 _ c.in_default.is c.in_ok-covered.ensures.next, c.in_ok-pieces.ensures.next, length-seen (scope_of search) c.turns.space.found.items)

pub returns-clause-ended : goal.returns-clause-ended
returns-clause-ended g c =
    all_ended c.args.search.now c.turns.space c.turns.front c.turns.invariant.under_way c.turns.invariant.front
    (nil_from_length c.turns.front.families.items (grind (arith, nat_tests, c.is_empty.ensures, c.turns-test.false)))
