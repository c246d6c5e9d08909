-- The states that wait in families, and in pieces of them.
use Rattle.std.proofs.Common.{◌≡◌, ◌<◌, ◌+◌, ◌++◌, ◌∷◌, [], ℕ, List, length, map, take, drop, Option, All, sym, ap, ◌∙◌, append_assoc, subst, arith, Vec, Box, Global}
use Rattle.std.specs.List.{flat_map}
use Rattle.std.proofs.lemmas.List.{append-nil, length-append, length-map, length-take, length-drop, map-append, take-append-drop}
use Rattle.std.proofs.lemmas.List.Concat.{flat_map-append}
use Rattle.std.proofs.lemmas.List.Elements.{All-head, All-take, All-drop}
use Rattle.rh_state.specs.StateView.{StateView}
use Rattle.rh_state.specs.Stored.{Stored, read}
use Rattle.rh_rules.specs.declared.event.Event.{Event}
use Rattle.rh_rules.specs.declared.pick.Pick.{Pick}
use Rattle.rh_trace.specs.Validity.{IsValid}
use Rattle.rh_explore.specs.declared.families.Family.{Family}
use Rattle.rh_explore.specs.Families.{child_by, children, waiting_in, IsAccepted, IsFamily}

-- one more at the end
pub flat_push : {A B : Type 0} (f : A → List B) (xs : List A) (x : A) → flat_map f (xs ++ x ∷ []) ≡ flat_map f xs ++ f x
flat_push f xs x = flat_map-append f xs (x ∷ []) ∙ ap (λ l. flat_map f xs ++ l) (append-nil (f x))

-- and what is left behind it
pub flat_on : {A B : Type 0} (f : A → List B) (xs : List A) (x : A) (rest : List B) → flat_map f xs ++ (f x ++ rest) ≡ flat_map f (xs ++ x ∷ []) ++ rest
flat_on f xs x rest = sym (append_assoc (flat_map f xs) (f x) rest) ∙ ap (λ l. l ++ rest) (sym (flat_push f xs x))

pub flat_long : {A B : Type 0} (f : A → List B) (xs : List A) (x : A) → length (flat_map f (xs ++ x ∷ [])) ≡ length (flat_map f xs) + length (f x)
flat_long {A} {B} f xs x = ap (λ (l : List B). length l) (flat_push f xs x) ∙ length-append (flat_map f xs) (f x)

-- in some families some states wait
pub some_wait : (pick : Pick) (families : List Family) → All IsFamily families → 0 < length families → 0 < length (waiting_in pick families)
some_wait pick [] all some = absurd (omega (arith, some))
some_wait pick (f ∷ families) all some =
    let one = (All-head IsFamily f families all).some in
    omega (arith, one, length-map f.events.items (child_by pick (read f.state.value)), length-append (children pick f) (waiting_in pick families))

-- a family is cut in two
module _ (family : Family) (so : IsFamily family) (most : ℕ) where
  pub first_part : (events : Vec (Option Event) Global) → events.items ≡ take most family.events.items → 0 < most
      → IsFamily (record { state = family.state; events = events })
  first_part events is some = record {
    valid = so.valid;
    some = omega (arith, some, so.some, ap (λ (es : List (Option Event)). length es) is, length-take most family.events.items);
    accepted = subst (All (IsAccepted (read family.state.value))) (sym is) (All-take (IsAccepted (read family.state.value)) most family.events.items so.accepted);
  }

  pub other_part : (state : Box Stored Global) (events : Vec (Option Event) Global) → state.value ≡ family.state.value → events.items ≡ drop most family.events.items
      → most < length family.events.items → IsFamily (record { state = state; events = events })
  other_part state events same is more = record {
    valid = subst (λ (s : Stored). IsValid (read s)) (sym same) so.valid;
    some = omega (arith, more, ap (λ (es : List (Option Event)). length es) is, length-drop most family.events.items);
    accepted = subst (λ (s : Stored). All (IsAccepted (read s)) events.items) (sym same)
        (subst (All (IsAccepted (read family.state.value))) (sym is) (All-drop (IsAccepted (read family.state.value)) most family.events.items so.accepted));
  }

  pub parts_wait : (pick : Pick) (first other : List (Option Event)) (state : Stored) (rest : List StateView) → first ≡ take most family.events.items
      → other ≡ drop most family.events.items → state ≡ family.state.value
      → children pick family ++ rest ≡ map (child_by pick (read family.state.value)) first ++ (map (child_by pick (read state)) other ++ rest)
  parts_wait pick first other state rest first_is other_is same =
      let f = child_by pick (read family.state.value) in
      ap (λ (es : List (Option Event)). map f es ++ rest) (sym (take-append-drop most family.events.items))
      ∙ ap (λ (l : List StateView). l ++ rest) (map-append f (take most family.events.items) (drop most family.events.items))
      ∙ append_assoc (map f (take most family.events.items)) (map f (drop most family.events.items)) rest
      ∙ sym (λ i. map f (first_is i) ++ (map (child_by pick (read (same i))) (other_is i) ++ rest))
