use Rattle.std.proofs.Common.{◌≡◌, ◌<◌, ◌≤◌, ◌+◌, ◌-◌, ℕ, List, length, get_or, slice_get, Option, Some, None, sym, ap, ◌∙◌, subst, arith}
use Rattle.std.specs.List.{AllZip}
use Rattle.std.proofs.lemmas.List.{length-map}
use Rattle.std.proofs.lemmas.Option.{slice_get_within, slice_get-get_or}
use Rattle.rh_explore.specs.declared.space.Found.{Found}
use Rattle.rh_explore.specs.Exploring.{scope_of, IsVerdict, AreReached, IsEndOf}
use Rattle.rh_explore.specs.Spaces.{Seen, states_of}
use Rattle.rh_explore.specs.Kept.{seen_by, seen_of, AreLinked}
use Rattle.rh_explore.specs.Tellings.{IsTold}
use Rattle.rh_keys.proofs.Places.{at_of}
use Rattle.rh_explore.proofs.PathsTo.{path_at, seen_there, depth_is, length-seen}
use Rattle.rh_explore.proofs.Searched.{are_reached}
use Rattle.rh_explore.proofs.Answered.{next_in_order, verdict_so}
use Rattle.rh_explore.proofs.Told.{told_first, failure_within}
use Rattle.rh_explore.proofs.Zips.{zip_through}
use Rattle.rh_explore.proofs.answers.explore.Goals as goal

pub verdicts_on-requires-clause-linked : goal.verdicts_on-requires-clause-linked
verdicts_on-requires-clause-linked g c =
    subst AreLinked (sym (c.as_slice-found.ensures.value ∙ (λ i. (c.into_found-all.ensures.found i).items))) c.in_ok-space.ensures.kept.linked

pub verdicts_on-requires-clause-within : goal.verdicts_on-requires-clause-within
verdicts_on-requires-clause-within g c = λ j i at.
    let w = scope_of c.args.search.now in
    let space = c.in_ok-space.space in
    let k = c.in_ok-space.ensures.kept in
    let l = failure_within c.args.search.now.pick space.firsts.items c.args.search.now.asks.now (seen_of w space.found.items) k.firsts j i
    (ap (λ (fs : List (Option ℕ)). slice_get fs j) (sym (c.as_slice.ensures.value ∙ (λ i. (c.into_found-all.ensures.firsts i).items))) ∙ at) in
    omega (arith, l, length-seen w space.found.items, ap (λ (fs : List Found). length fs) (c.as_slice-found.ensures.value ∙ (λ i. (c.into_found-all.ensures.found i).items)))

abbrev none : Found
none = record { last = None; depth = 0 }

pub returns : goal.returns
returns g c =
    let w = scope_of c.args.search.now in
    let bounds = c.args.search.now.bounds in
    let steps = bounds.steps in
    let covered = c.in_ok-space.covered in
    let space = c.in_ok-space.space in
    let items : List Found = space.found.items in
    let slice : List Found = c.as_slice-found.result.now in
    let value : slice ≡ items = c.as_slice-found.ensures.value ∙ (λ i. (c.into_found-all.ensures.found i).items) in
    let many = ap (λ (xs : List Found). length xs) value in
    let e = c.in_ok-space.ensures.ended in
    let k = c.in_ok-space.ensures.kept in
    let seen = seen_of w items in
    let long = length-seen w items in
    let some = slice_get_within seen 0 _ e.searched.begins in
    let last = length items - 1 in
    let f = get_or items last none in
    let within : last < length items = omega (arith, long, some) in
    let there : slice_get items last ≡ Some f = slice_get-get_or items last none within in
    let here = seen_there w items last f there in
    let x : Seen = seen_by w (path_at items last) in
    let deep : f.depth ≡ length x.path = depth_is items last f k.linked there in
    let told : (get_or slice (length slice - 1) none).depth ≡ f.depth = ap (λ (fs : List Found). (get_or fs (length fs - 1) none).depth) value in
    let is_last : last + 1 ≡ length seen = omega (arith, long, some) in
    let few = at_of (λ (y : Seen). length y.path ≤ steps) seen last x e.few here in
    let firsts = space.firsts.items in
    record {
      found = states_of seen;
      states = length-map seen (λ (y : Seen). y.state) ∙ long ∙ sym many;
      bytes = sym k.bytes;
      reached = subst (λ (n : ℕ). AreReached w n covered (states_of seen)) (sym (told ∙ deep))
          (are_reached w seen e.done e.searched e.near last x here is_last covered e.end (next_in_order w seen e.done e.searched k.in_turn));
      deepest = omega (arith, few, deep, told);
      room = k.room;
      end = subst (λ (n : ℕ). IsEndOf w bounds n (states_of seen) covered) (sym (told ∙ deep)) (e.why x (ap (slice_get seen) (omega (arith, long)) ∙ here));
      covers = λ less small below. e.covers (omega (arith, less, many, long)) (omega (arith, small, k.bytes)) below;
      verdicts = zip_through (IsTold items) (IsVerdict w steps covered (states_of seen)) firsts c.args.search.now.asks.now c.in_ok-verdicts.verdicts.items k.firsts.count
          (λ j first ask v at that is.
          verdict_so w seen e.done e.searched k.in_turn steps e.few covered e.end ask v
          (told_first w items firsts c.args.search.now.asks.now k.firsts j first ask v at that is))
          (subst (λ (fs : List (Option ℕ)). AllZip (IsTold items) fs c.in_ok-verdicts.verdicts.items)
          (c.as_slice.ensures.value ∙ (λ i. (c.into_found-all.ensures.firsts i).items))
          (subst (λ (found : List Found). AllZip (IsTold found) c.as_slice.result.now c.in_ok-verdicts.verdicts.items) value c.in_ok-verdicts.ensures));
    }
