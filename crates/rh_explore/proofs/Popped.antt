-- The first of a queue is taken from it.
use Rattle.std.proofs.Common.{◌≡◌, ◌++◌, ◌∷◌, [], List, length, drop, Option, Some, None, ap, ◌∙◌, arith}
use Rattle.std.specs.Option.{option_to_list}
use Rattle.std.proofs.lemmas.List.{length-drop, nil_from_length}

pub first_is : {A : Type 0} (old new : List A) (r : Option A) (x : A) → old ≡ option_to_list r ++ new → r ≡ Some x → old ≡ x ∷ new
first_is {A} old new r x items is = items ∙ ap (λ (o : Option A). option_to_list o ++ new) is

-- there was none
pub none_left : {A : Type 0} (old new : List A) (r : Option A) → old ≡ option_to_list r ++ new → new ≡ drop 1 old → r ≡ None → old ≡ []
none_left {A} old new r items rest none =
    let same : old ≡ new = items ∙ ap (λ (o : Option A). option_to_list o ++ new) none in
    let few = ap (λ (xs : List A). length xs) (same ∙ rest) in
    nil_from_length old (omega (arith, few, length-drop 1 old))
