-- Lists that are equal, place by place.
use Rattle.std.proofs.Common.{◌≡◌, ◌+◌, ◌++◌, ◌∷◌, [], List, ℕ, eqb, take, length, get_or, Some, slice_get, ap, sym, ◌∙◌}
use Rattle.std.proofs.Common.{subst, ◌<◌, Decides}
use Rattle.std.proofs.lemmas.List.{take_more}
use Rattle.std.proofs.lemmas.Option.{get_or_from_slice_get}
use Rattle.std.proofs.lemmas.Bool.Decides.{Decides-eqb}
use Rattle.rh_model.specs.declared.node.Node.{Node}

-- one more place at which both have the same
pub alike_more : {A : Type 0} (xs ys : List A) (n : ℕ) (a b : A) → length xs ≡ length ys → n < length xs
    → slice_get xs n ≡ Some a → slice_get ys n ≡ Some b → a ≡ b
    → take n xs ≡ take n ys → take (n + 1) xs ≡ take (n + 1) ys
alike_more xs ys n a b lengths inside x y same before =
    take_more xs n a inside
    ∙ ap (λ t. take n xs ++ t ∷ []) (get_or_from_slice_get xs n a a x ∙ same ∙ sym (get_or_from_slice_get ys n b b y))
    ∙ ap (λ ts. ts ++ get_or ys n b ∷ []) before
    ∙ sym (take_more ys n b (subst (λ m. n < m) lengths inside))

-- nodes are equal if their numbers are
pub node_decides : (a b : Node) → Decides (eqb a.0 b.0) (a ≡ b)
node_decides a b = (λ e. λ i. record { 0 = (Decides-eqb a.0 b.0).0 e i }, λ e. (Decides-eqb a.0 b.0).1 (λ i. (e i).0))
