-- The nodes, or the applications, of a cluster that pass a test, one number after the other.
use Rattle.std.proofs.Common.{◌≡◌, ◌+◌, ℕ, Bool, true, false, cond, List, [], ◌∷◌, ◌++◌, filter, map, ap, ◌∙◌, zero-add, append-nil}
use Rattle.std.specs.List.{range_with_len}
use Rattle.std.proofs.lemmas.List.FromFn.{filter_of_map_range_with_len_more}

-- one of them by its number
module _ {X : Type 0} (named : ℕ → X) (p : X → Bool) (k : ℕ) where
  -- those below a number that pass the test
  abbrev pub below : List X
  below = filter p (map named (range_with_len 0 k))

  more : filter p (map named (range_with_len 0 (k + 1))) ≡ below ++ cond (p (named k)) (named k ∷ []) []
  more = filter_of_map_range_with_len_more p named 0 k k (zero-add k)

  pub one_more : p (named k) ≡ true → filter p (map named (range_with_len 0 (k + 1))) ≡ below ++ named k ∷ []
  one_more passes = more ∙ ap (λ b. below ++ cond b (named k ∷ []) []) passes

  pub none_more : p (named k) ≡ false → filter p (map named (range_with_len 0 (k + 1))) ≡ below
  none_more fails = more ∙ ap (λ b. below ++ cond b (named k ∷ []) []) fails ∙ append-nil below
