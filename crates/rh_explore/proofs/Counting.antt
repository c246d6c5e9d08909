-- How many of the first nodes pass a test.
use Rattle.std.proofs.Common.{◌≡◌, ◌+◌, ◌≤◌, ℕ, Bool, cond, map, ap, ◌∙◌, arith}
use Rattle.std.specs.Prelude.{count_by}
use Rattle.std.specs.List.{range_with_len}
use Rattle.std.proofs.lemmas.List.FromFn.{map-range_with_len_more, length-map-range_with_len}
use Rattle.std.proofs.lemmas.List.Sums.{sum_by_push, count_by-le-length}
use Rattle.rh_model.specs.ClusterView.{numbered}
use Rattle.rh_model.specs.declared.node.Node.{Node}

pub below : (p : Node → Bool) (i : ℕ) → count_by p (map numbered (range_with_len 0 i)) ≤ i
below p i = let few = count_by-le-length p (map numbered (range_with_len 0 i)) in let long = length-map-range_with_len numbered 0 i in omega (arith, few, long)

pub more : (p : Node → Bool) (i : ℕ)
    → count_by p (map numbered (range_with_len 0 (i + 1))) ≡ count_by p (map numbered (range_with_len 0 i)) + cond (p (numbered i)) 1 0
more p i = ap (count_by p) (map-range_with_len_more numbered 0 i i (omega arith)) ∙ sum_by_push (λ n. cond (p n) 1 0) (map numbered (range_with_len 0 i)) (numbered i)
