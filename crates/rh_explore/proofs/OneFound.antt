-- A lead to a state that wasn't there, which is kept.
use Rattle.std.proofs.Common.{◌≡◌, ◌<◌, ◌+◌, ℕ, List, [], ◌∷◌, ◌++◌, length, slice_get, Option, Some, refl, sym, ap, ◌∙◌, subst}
use Rattle.std.specs.Prelude.{Contains}
use Rattle.std.proofs.lemmas.List.{length-map}
use Rattle.std.proofs.lemmas.List.Elements.{Contains-append_left}
use Rattle.std.proofs.lemmas.Option.{same_Some}
use Rattle.rh_state.specs.StateView.{StateView}
use Rattle.rh_rules.specs.declared.event.Event.{Event}
use Rattle.rh_step.specs.Runs.{step}
use Rattle.rh_explore.specs.declared.leads.Marks.{Marks}
use Rattle.rh_explore.specs.declared.moves.Move.{Move}
use Rattle.rh_explore.specs.declared.search.Search.{Search}
use Rattle.rh_explore.specs.declared.space.Found.{Found}
use Rattle.rh_explore.specs.declared.space.Space.{Space}
use Rattle.rh_explore.specs.Exploring.{scope_of, key_of, most_bytes}
use Rattle.rh_explore.specs.Failures.{AreFirsts, FailThere, all_told}
use Rattle.rh_explore.specs.Families.{Knowing}
use Rattle.rh_explore.specs.Kept.{path_by, paths_of, seen_by, seen_of, seen_in, bytes_of, knowing_in, AreLinked, IsKept, IsKnown, FindsAt}
use Rattle.rh_explore.specs.Reaching.{Scope}
use Rattle.rh_explore.specs.Spaces.{Seen, states_of, IsExpandedAt, IsFoundInTurn}
use Rattle.rh_explore.proofs.Finds.{finds_one}
use Rattle.rh_explore.proofs.FirstsTold.{fails_known, firsts_more, still_unknown, as_many_told}
use Rattle.rh_explore.proofs.OneMore.{more_is, kept_more}
use Rattle.rh_explore.proofs.PathsTo.{path_at, seen_there, seen_push, linked_push, length-seen}
use Rattle.rh_explore.proofs.Taken.{IsWayTo, way_turn, way_added}

module _ (search : Search) (old new : Space) (at : ℕ) (f : Found) (there : slice_get old.found.items at ≡ Some f) (e : Event) (marks : Marks)
    (kept : IsKept (scope_of search) search.bounds search.asks.now old)
    (found : new.found.items ≡ old.found.items ++ record { last = Some (at, e); depth = f.depth + 1 } ∷ [])
    (keys : bytes_of new ≡ bytes_of old ++ marks.key.bytes.items ∷ [])
    (bytes : new.bytes ≡ old.bytes + length marks.key.bytes.items)
    (firsts : new.firsts.items ≡ all_told (length old.found.items) old.firsts.items marks.fails.items)
    (k : Knowing) (x : Seen) (here : slice_get (seen_in search old) at ≡ Some x) (knows : IsKnown k old)
    (m : Move) (made : ℕ) (is : slice_get search.moves.now made ≡ Some m) (so : IsExpandedAt (scope_of search) (seen_in search old) at made)
    (way : IsWayTo (scope_of search) search.asks.now k x.state m e marks) (fresh : Contains (bytes_of old) marks.key.bytes.items → ⊥) where
  abbrev w : Scope
  w = scope_of search

  abbrev seen : List Seen
  seen = seen_in search old

  abbrev t : StateView
  t = step search.pick x.state e

  abbrev g : Found
  g = record { last = Some (at, e); depth = f.depth + 1 }

  -- the state, and the list of events that leads to it
  abbrev y : Seen
  y = seen_by w (path_by (paths_of old.found.items) g.last)

  x_is : x ≡ seen_by w (path_at old.found.items at)
  x_is = same_Some x (seen_by w (path_at old.found.items at)) (sym here ∙ seen_there w old.found.items at f there)

  y_is : y ≡ record { path = x.path ++ e ∷ []; state = t }
  y_is =
      more_is w old.found.items at e g refl
      ∙ ap (λ (z : Seen). record { path = z.path ++ e ∷ []; state = step search.pick z.state e }) (sym x_is)

  y_state : y.state ≡ t
  y_state = ap (λ (z : Seen). z.state) y_is

  more : seen_in search new ≡ seen ++ y ∷ []
  more = ap (seen_of w) found ∙ seen_push w old.found.items g

  y_key : marks.key.bytes.items ≡ key_of y.state
  y_key = way.key ∙ ap key_of (sym y_state)

  told : new.firsts.items ≡ all_told (length (states_of seen)) old.firsts.items marks.fails.items
  told = firsts ∙ ap (λ (n : ℕ). all_told n old.firsts.items marks.fails.items) (sym (length-map seen (λ (z : Seen). z.state) ∙ length-seen w old.found.items))

  fails : FailThere search.pick old.firsts.items search.asks.now y.state marks.fails.items
  fails =
      subst (λ (s : StateView). FailThere search.pick old.firsts.items search.asks.now s marks.fails.items) (sym y_state)
      (fails_known search.pick k.firsts old.firsts.items search.asks.now t marks.fails.items knows.firsts way.fails)

  pub kept_on : length old.found.items < search.bounds.states → old.bytes < most_bytes search.bounds → IsKept w search.bounds search.asks.now new
  kept_on few small =
      kept_more w search.bounds search.asks.now old new y kept
      (subst AreLinked (sym found) (linked_push old.found.items f g at e kept.linked there refl refl))
      more
      (keys ∙ ap (λ (q : List ℕ). bytes_of old ++ q ∷ []) y_key)
      (subst (λ (os : List (Option ℕ)). AreFirsts search.pick os search.asks.now (states_of seen ++ y.state ∷ [])) (sym told)
      (firsts_more search.pick old.firsts.items search.asks.now (states_of seen) y.state marks.fails.items kept.firsts fails))
      (bytes ∙ ap (λ (q : List ℕ). old.bytes + length q) y_key)
      (subst (IsFoundInTurn w seen) (sym y_is) (way_turn w search.bounds search.asks.now old kept at x here k knows m made is so e marks way fresh))
      few small

  pub made_on : IsExpandedAt w (seen_in search new) at (made + 1)
  made_on =
      subst (λ (items : List Seen). IsExpandedAt w items at (made + 1)) (sym more)
      (way_added w search.bounds search.asks.now old kept at x here k knows m made is so e marks way fresh y (ap (λ (z : Seen). z.path) y_is) y_state)

  pub known_on : IsKnown (knowing_in old) new
  known_on = record {
    keys = λ q has. subst (λ (l : List (List ℕ)). Contains l q) (sym keys) (Contains-append_left (bytes_of old) (marks.key.bytes.items ∷ []) q has);
    count = sym (ap (λ (os : List (Option ℕ)). length os) firsts ∙ as_many_told (length old.found.items) old.firsts.items marks.fails.items);
    firsts = λ j none.
        still_unknown (length old.found.items) old.firsts.items marks.fails.items j (ap (λ (os : List (Option ℕ)). slice_get os j) (sym firsts) ∙ none);
  }

  pub found_on : FindsAt search at old new (Some e ∷ [])
  found_on = finds_one search at old new x e y here more y_state way.accepted known_on
