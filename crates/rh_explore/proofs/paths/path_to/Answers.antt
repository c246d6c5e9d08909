use Rattle.std.proofs.Common.{◌≡◌, ◌++◌, [], ◌∷◌, get_or, slice_get, Option, Some, None, ℕ, List, reverse, unwrap_or, ap, sym, ◌∙◌, append_assoc, arith}
use Rattle.std.proofs.lemmas.List.{append-nil, reverse-append}
use Rattle.std.proofs.lemmas.Option.{slice_get-get_or}
use Rattle.rh_rules.specs.declared.event.Event.{Event}
use Rattle.rh_explore.specs.declared.space.Found.{Found}
use Rattle.rh_explore.specs.Kept.{path_by, paths_of}
use Rattle.rh_explore.proofs.PathsTo.{path_is, path_there}
use Rattle.rh_explore.proofs.paths.path_to.Goals as goal

abbrev none : Found
none = record { last = None; depth = 0 }

pub back-init : goal.back-init
back-init c = record {
  within = c.requires.within;
  path = path_there c.args.found.now c.args.number c.requires.within
      ∙ ap (λ (l : List Event). Some l) (sym (append-nil (unwrap_or (slice_get (paths_of c.args.found.now) c.args.number) [])))
      ∙ ap (λ (l : List Event). Some (unwrap_or (slice_get (paths_of c.args.found.now) c.args.number) [] ++ reverse l)) (sym c.in_ok-path.ensures.items);
}

pub back-smaller : goal.back-smaller
back-smaller c =
    let found : List Found = c.args.found.now in
    c.requires.linked.earlier c.back.at (get_or found c.back.at none) c.in-Some.from c.in-Some.event
    (slice_get-get_or found c.back.at none c.back.invariant.within) c.in-Some.is

pub back-preserved : goal.back-preserved
back-preserved c =
    let found : List Found = c.args.found.now in
    let f = get_or found c.back.at none in
    let paths = paths_of found in
    let here : slice_get found c.back.at ≡ Some f = slice_get-get_or found c.back.at none c.back.invariant.within in
    let earlier = c.requires.linked.earlier c.back.at f c.in-Some.from c.in-Some.event here c.in-Some.is in
    let is : slice_get paths c.back.at ≡ Some (unwrap_or (slice_get paths c.in-Some.from) [] ++ c.in-Some.event ∷ []) =
    path_is found c.requires.linked c.back.at f here ∙ ap (λ (o : Option (ℕ × Event)). Some (path_by paths o)) c.in-Some.is in
    let rest = reverse c.back.path.items in
    let before = unwrap_or (slice_get paths c.in-Some.from) [] in
    record {
      within = omega (arith, earlier, c.back.invariant.within);
      path = c.back.invariant.path
          ∙ ap (λ (o : Option (List Event)). Some (unwrap_or o [] ++ rest)) is
          ∙ ap Some (append_assoc before (c.in-Some.event ∷ []) rest)
          ∙ ap (λ (l : List Event). Some (before ++ l)) (sym (reverse-append c.back.path.items (c.in-Some.event ∷ [])) ∙ ap reverse (sym c.in_ok-push.ensures.items));
    }

pub returns : goal.returns
returns c =
    let found : List Found = c.args.found.now in
    let f = get_or found c.back.at none in
    let paths = paths_of found in
    let here : slice_get found c.back.at ≡ Some f = slice_get-get_or found c.back.at none c.back.invariant.within in
    let is : slice_get paths c.back.at ≡ Some [] = path_is found c.requires.linked c.back.at f here ∙ ap (λ (o : Option (ℕ × Event)). Some (path_by paths o)) c.in_default.is in
    c.back.invariant.path
    ∙ ap (λ (o : Option (List Event)). Some (unwrap_or o [] ++ reverse c.back.path.items)) is
    ∙ ap Some (sym c.reverse.ensures.items)
