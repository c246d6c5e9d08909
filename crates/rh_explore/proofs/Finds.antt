-- What is found from a state, one lead after the other.
use Rattle.std.proofs.Common.{◌≡◌, ℕ, List, [], ◌∷◌, ◌++◌, map, slice_get, Option, Some, None, refl, sym, ap, ◌∙◌, append_assoc, subst}
use Rattle.std.proofs.lemmas.List.{append-nil, map-append, map_push}
use Rattle.std.proofs.lemmas.List.Elements.{All-nil, All-cons, All-append}
use Rattle.std.proofs.lemmas.Option.{same_Some}
use Rattle.rh_state.specs.StateView.{StateView}
use Rattle.rh_rules.specs.declared.event.Event.{Event}
use Rattle.rh_rules.specs.Refusals.{refused}
use Rattle.rh_step.specs.Runs.{step}
use Rattle.rh_explore.specs.declared.search.Search.{Search}
use Rattle.rh_explore.specs.declared.space.Space.{Space}
use Rattle.rh_explore.specs.Families.{Knowing, child_by, IsAccepted}
use Rattle.rh_explore.specs.Kept.{seen_in, knowing_in, GoesOnFrom, IsKnown, FindsFrom, FindsAt}
use Rattle.rh_explore.specs.Spaces.{Seen, states_of}
use Rattle.rh_explore.specs.Exploring.{scope_of}
use Rattle.rh_explore.proofs.PathsTo.{seen_stays}

-- ---- what is known
pub known_there : (space : Space) → IsKnown (knowing_in space) space
known_there space = record { keys = λ q has. has; count = refl; firsts = λ j at. at }

pub known_later : (k : Knowing) (mid new : Space) → IsKnown k mid → IsKnown (knowing_in mid) new → IsKnown k new
known_later k mid new a b = record {
  keys = λ q has. b.keys q (a.keys q has);
  count = a.count ∙ b.count;
  firsts = λ j at. a.firsts j (b.firsts j at);
}

-- ---- what is found
pub finds_none : (search : Search) (at : ℕ) (space : Space) → FindsAt search at space space []
finds_none search at space = λ x here. record {
  states = sym (append-nil (states_of (seen_in search space)));
  accepted = All-nil (IsAccepted x.state);
  known = known_there space;
}

pub finds_one : (search : Search) (at : ℕ) (old new : Space) (x : Seen) (e : Event) (y : Seen) → slice_get (seen_in search old) at ≡ Some x
    → seen_in search new ≡ seen_in search old ++ y ∷ [] → y.state ≡ step search.pick x.state e → refused x.state e ≡ None
    → IsKnown (knowing_in old) new → FindsAt search at old new (Some e ∷ [])
finds_one search at old new x e y there more state accepted known = λ z here.
    let same : x ≡ z = same_Some x z (sym there ∙ here) in
    subst (λ (u : Seen). FindsFrom search u.state old new (Some e ∷ [])) same
    (record {
      states = ap states_of more
          ∙ map_push (λ (u : Seen). u.state) (seen_in search old) y
          ∙ ap (λ (s : StateView). states_of (seen_in search old) ++ s ∷ []) state;
      accepted = All-cons (IsAccepted x.state) (Some e) [] accepted (All-nil (IsAccepted x.state));
      known = known;
    })

pub finds_on : (search : Search) (at : ℕ) (old mid new : Space) (events more : List (Option Event)) → GoesOnFrom old.found.items mid.found.items
    → FindsAt search at old mid events → FindsAt search at mid new more → FindsAt search at old new (events ++ more)
finds_on search at old mid new events more grown a b = λ x here.
    let there = seen_stays (scope_of search) old.found.items mid.found.items at x grown here in
    let first = a x here in
    let next = b x there in
    let child = child_by search.pick x.state in
    record {
      states = next.states
          ∙ ap (λ (l : List StateView). l ++ map child more) first.states
          ∙ append_assoc (states_of (seen_in search old)) (map child events) (map child more)
          ∙ ap (λ (l : List StateView). states_of (seen_in search old) ++ l) (sym (map-append child events more));
      accepted = All-append (IsAccepted x.state) events more first.accepted next.accepted;
      known = known_later (knowing_in old) mid new first.known next.known;
    }
