-- What is found among the elements of a table, and among what these are seen as.
use Rattle.std.proofs.Common.{◌≡◌, ◌||◌, Bool, true, false, cond, List, [], ◌∷◌, map, Some, refl, ap}
use Rattle.std.specs.Prelude.{option_map, find}
use Rattle.std.specs.List.{list_any, zip}

pub any_seen : {X Y : Type 0} (f : X → Y) (p : Y → Bool) (xs : List X) → list_any (λ x. p (f x)) xs ≡ list_any p (map f xs)
any_seen f p [] = refl
any_seen f p (x ∷ xs) = ap (λ t. p (f x) || t) (any_seen f p xs)

-- the first pair that passes
pub pair_seen : {X Y V : Type 0} (g : Y → V) (p : X × V → Bool) (xs : List X) (ys : List Y)
    → option_map (λ (q : X × Y). (q.0, g q.1)) (find (λ (q : X × Y). p (q.0, g q.1)) (zip xs ys)) ≡ find p (zip xs (map g ys))
pair_seen g p [] ys = refl
pair_seen g p (x ∷ xs) [] = refl
pair_seen {X} {Y} g p (x ∷ xs) (y ∷ ys) = by (p (x, g y)) (pair_seen g p xs ys)
  where
    by : (t : Bool) → option_map (λ (q : X × Y). (q.0, g q.1)) (find (λ (q : X × Y). p (q.0, g q.1)) (zip xs ys)) ≡ find p (zip xs (map g ys))
        → option_map (λ (q : X × Y). (q.0, g q.1)) (cond t (Some (x, y)) (find (λ (q : X × Y). p (q.0, g q.1)) (zip xs ys)))
        ≡ cond t (Some (x, g y)) (find p (zip xs (map g ys)))
    by true later = refl
    by false later = later
