-- A list of names that is made one by one.
use Rattle.std.proofs.Common.{◌≡◌, ◌+◌, ℕ, List, [], ◌∷◌, ◌++◌, map, take, slice_get, Some, ap, sym, ◌∙◌}
use Rattle.std.specs.Borrow.{Bor}
use Rattle.std.proofs.lemmas.List.{map-append, take_more}
use Rattle.std.proofs.lemmas.Option.{slice_get_within, get_or_from_slice_get}

pub one_more : (names : List (List ℕ)) (i : ℕ) (name : Bor (List ℕ)) (made after : List (Bor (List ℕ)))
    → map (λ (x : Bor (List ℕ)). x.now) made ≡ take i names → slice_get names i ≡ Some name.now → after ≡ made ++ name ∷ []
    → map (λ (x : Bor (List ℕ)). x.now) after ≡ take (i + 1) names
one_more names i name made after before is more =
    ap (map (λ (x : Bor (List ℕ)). x.now)) more
    ∙ map-append (λ (x : Bor (List ℕ)). x.now) made (name ∷ [])
    ∙ ap (λ xs. xs ++ name.now ∷ []) before
    ∙ sym (take_more names i name.now (slice_get_within names i name.now is)
    ∙ ap (λ x. take i names ++ x ∷ []) (get_or_from_slice_get names i name.now name.now is))
