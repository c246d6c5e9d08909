-- What is told of the nodes, or the applications, of a cluster, by number: one number more.
use Rattle.std.proofs.Common.{◌≡◌, ℕ, ◌+◌, List, [], ◌∷◌, ◌++◌, Option, Some, None, map, ap, ◌∙◌, append-nil, arith}
use Rattle.std.specs.List.{filter_map, cons_option, range_with_len}
use Rattle.std.proofs.lemmas.List.Elements.{filter_map-append}
use Rattle.std.proofs.lemmas.List.FromFn.{map-range_with_len_more}

-- one of them by its number, and what is told of it
module _ {X Y : Type 0} (named : ℕ → X) (f : X → Option Y) (n : ℕ) where
  abbrev pub before : List Y
  before = filter_map f (map named (range_with_len 0 n))

  more : filter_map f (map named (range_with_len 0 (n + 1))) ≡ before ++ cons_option (f (named n)) []
  more =
      ap (λ (xs : List X). filter_map f xs) (map-range_with_len_more named 0 n n (omega arith))
      ∙ filter_map-append f (map named (range_with_len 0 n)) (named n ∷ [])

  pub one_more : (y : Y) → f (named n) ≡ Some y → filter_map f (map named (range_with_len 0 (n + 1))) ≡ before ++ y ∷ []
  one_more y is = more ∙ ap (λ (o : Option Y). before ++ cons_option o []) is

  pub none_more : f (named n) ≡ None → filter_map f (map named (range_with_len 0 (n + 1))) ≡ before
  none_more is = more ∙ ap (λ (o : Option Y). before ++ cons_option o []) is ∙ append-nil before
