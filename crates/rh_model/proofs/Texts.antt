-- What a list of texts has in common with the list of their bytes.
use Rattle.std.proofs.Common.{◌||◌, ◌≡◌, ◌+◌, Bool, not, cond, List, [], ◌∷◌, map, length, position, Some, None, nat_lt}
use Rattle.std.proofs.Common.{refl, ap, ◌∙◌}
use Rattle.std.proofs.lemmas.List.{length-map}
use Rattle.std.specs.List.{AllZip, list_any, prefix_len, position_or_len}
use Rattle.std.specs.Prelude.{String}
use Rattle.std.specs.String.{string_bytes}

pub prefix_len-map : {X Y : Type 0} (p : Y → Bool) (f : X → Y) (xs : List X) → prefix_len p (map f xs) ≡ prefix_len (λ x. p (f x)) xs
prefix_len-map p f [] = refl
prefix_len-map p f (x ∷ xs) = ap (λ n. cond (p (f x)) (1 + n) 0) (prefix_len-map p f xs)

-- the first place is the same
pub position-map : {X Y : Type 0} (p : Y → Bool) (f : X → Y) (xs : List X) → position p (map f xs) ≡ position (λ x. p (f x)) xs
position-map p f xs =
    ap (λ n. cond (nat_lt n (length (map f xs))) (Some n) None) (prefix_len-map (λ y. not (p y)) f xs)
    ∙ ap (λ n. let k = position_or_len (λ x. p (f x)) xs in cond (nat_lt k n) (Some k) None) (length-map xs f)

-- clones have the same bytes
pub bytes_of_clones : {A : Type 0} (xs ys : List (String A)) → AllZip (λ s t. string_bytes t ≡ string_bytes s) xs ys → map string_bytes ys ≡ map string_bytes xs
bytes_of_clones [] [] h = refl
bytes_of_clones (x ∷ xs) [] h = absurd h
bytes_of_clones [] (y ∷ ys) h = absurd h
bytes_of_clones (x ∷ xs) (y ∷ ys) h = λ i. h.0 i ∷ bytes_of_clones xs ys h.1 i

pub list_any-map : {X Y : Type 0} (p : Y → Bool) (f : X → Y) (xs : List X) → list_any p (map f xs) ≡ list_any (λ x. p (f x)) xs
list_any-map p f [] = refl
list_any-map p f (x ∷ xs) = ap (λ b. p (f x) || b) (list_any-map p f xs)
