-- The place of the first row that passes a test.
use Rattle.std.proofs.Common.{◌≡◌, ◌<◌, ◌≤◌, ℕ, Bool, true, false, cond, nat_lt, List, length, Option, Some, None, position, find, get_or, refl, arith, sym, ap, ◌∙◌, is_some, ◌∷◌, slice_set}
use Rattle.std.specs.List.{position_or_len}
use Rattle.std.proofs.lemmas.Bool.Decides.{nat_tests}
use Rattle.std.proofs.lemmas.List.Folds.{find_at}
use Rattle.std.proofs.lemmas.Option.{slice_get_past, slice_get-get_or}
use Rattle.std.specs.Option.{option_map}
use Rattle.rh_model.specs.declared.node.App.{App}
use Rattle.rh_otp_model.specs.Rows.{is_of, keyfind, keyreplace, keystore}

pub place_is : {X : Type 0} (p : X → Bool) (xs : List X) (i : ℕ) → position p xs ≡ Some i → (i ≡ position_or_len p xs) × (i < length xs)
place_is p xs i is = by (nat_lt (position_or_len p xs) (length xs)) refl is
  where
    by : (b : Bool) → nat_lt (position_or_len p xs) (length xs) ≡ b → cond b (Some (position_or_len p xs)) None ≡ Some i
        → (i ≡ position_or_len p xs) × (i < length xs)
    by true inside is = let same : i ≡ position_or_len p xs = cc in (same, grind (arith, nat_tests, inside, same))
    by false outside is = absurd (cc)

pub no_place : {X : Type 0} (p : X → Bool) (xs : List X) → position p xs ≡ None → length xs ≤ position_or_len p xs
no_place p xs is = by (nat_lt (position_or_len p xs) (length xs)) refl is
  where
    by : (b : Bool) → nat_lt (position_or_len p xs) (length xs) ≡ b → cond b (Some (position_or_len p xs)) None ≡ None
        → length xs ≤ position_or_len p xs
    by true inside is = absurd (cc)
    by false outside is = grind (arith, nat_tests, outside)

pub found : {X : Type 0} (p : X → Bool) (xs : List X) (i : ℕ) (d : X) → position p xs ≡ Some i → find p xs ≡ Some (get_or xs i d)
found p xs i d is =
    let at = place_is p xs i is in
    find_at p xs ∙ slice_get-get_or xs (position_or_len p xs) d (let inside : i < length xs = at.1 in let same : i ≡ position_or_len p xs = at.0 in omega (arith, inside, same))
    ∙ ap (λ k. Some (get_or xs k d)) (sym at.0)

pub not_found : {X : Type 0} (p : X → Bool) (xs : List X) → position p xs ≡ None → find p xs ≡ None
not_found p xs is = find_at p xs ∙ slice_get_past xs (position_or_len p xs) (no_place p xs is)

-- a row that is there is replaced, and one that isn't stands in front
pub stored_there : {T : Type 0} (a : App) (value : T) (rows : List (App × T)) (i : ℕ) → position (is_of a) rows ≡ Some i
    → slice_set rows i (a, value) ≡ keystore a value rows
stored_there a value rows i is =
    ap (λ k. slice_set rows k (a, value)) (place_is (is_of a) rows i is).0
    ∙ sym (ap (λ o. cond (is_some (option_map (λ row. row.1) o)) (keyreplace a value rows) ((a, value) ∷ rows)) (found (is_of a) rows i (a, value) is))

pub stored_in_front : {T : Type 0} (a : App) (value : T) (rows : List (App × T)) → position (is_of a) rows ≡ None
    → (a, value) ∷ rows ≡ keystore a value rows
stored_in_front a value rows is =
    sym (ap (λ o. cond (is_some (option_map (λ row. row.1) o)) (keyreplace a value rows) ((a, value) ∷ rows)) (not_found (is_of a) rows is))
