-- What the pick takes of a list.
use Rattle.std.proofs.Common.{◌≡◌, ◌++◌, List, [], ◌∷◌, Option, Some, None, IsNone, IfSome, is_some, false, All, ◌↔◌, refl, sym, ap, ◌∙◌}
use Rattle.std.specs.List.{last_or}
use Rattle.std.specs.Option.{option_to_list}
use Rattle.std.proofs.lemmas.List.Elements.{All-tail, All-head}
use Rattle.rh_rules.specs.declared.pick.Pick.{Pick}
use Rattle.rh_rules.specs.declared.pick.Pick.TheVariants.{First, Last}
use Rattle.rh_rules.specs.Placing.{picked}

last_push : {A : Type 0} (before : Option A) (xs : List A) (x : A) → last_or before (xs ++ x ∷ []) ≡ Some x
last_push before [] x = refl
last_push before (y ∷ ys) x = last_push (Some y) ys x

pub picked_push : {A : Type 0} (pick : Pick) (xs : List A) (x : A) → picked pick (xs ++ x ∷ []) ≡ picked pick (option_to_list (picked pick xs) ++ x ∷ [])
picked_push First [] x = refl
picked_push First (y ∷ ys) x = refl
picked_push Last xs x = last_push None xs x ∙ sym (last_push None (option_to_list (last_or None xs)) x)

last_All : {A : Type 0} (P : A → Type 0) (before : Option A) (xs : List A) → IfSome before P → All P xs → IfSome (last_or before xs) P
last_All P before [] b h = b
last_All P before (x ∷ xs) b h = last_All P (Some x) xs (All-head P x xs h) (All-tail P x xs h)

pub picked_All : {A : Type 0} (P : A → Type 0) (pick : Pick) (xs : List A) → All P xs → IfSome (picked pick xs) P
picked_All P First [] h = tt
picked_All P First (x ∷ xs) h = All-head P x xs h
picked_All P Last xs h = last_All P None xs tt h

last_some : {A : Type 0} (x : A) (xs : List A) → (y : A) × (last_or (Some x) xs ≡ Some y)
last_some x [] = (x, refl)
last_some x (z ∷ zs) = last_some z zs

none_of : {A : Type 0} (pick : Pick) (xs : List A) → IsNone (picked pick xs) → xs ≡ []
none_of pick [] h = refl
none_of First (x ∷ xs) h = cc
none_of {A} Last (x ∷ xs) h = let s = last_some x xs in clash {P = x ∷ xs ≡ []} s.0 (sym (ap is_some s.1) ∙ h)
  where
    clash : {P : Type 0} (y : A) → is_some (Some y) ≡ false → P
    clash y e = cc

of_none : {A : Type 0} (pick : Pick) (xs : List A) → xs ≡ [] → IsNone (picked pick xs)
of_none pick (x ∷ xs) h = cc
of_none First [] h = refl
of_none Last [] h = refl

pub picked_none : {A : Type 0} (pick : Pick) (xs : List A) → IsNone (picked pick xs) ↔ (xs ≡ [])
picked_none pick xs = (none_of pick xs, of_none pick xs)
