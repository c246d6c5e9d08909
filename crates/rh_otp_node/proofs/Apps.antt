-- Lists by number, one number more.
use Rattle.std.proofs.Common.{◌≡◌, ℕ, ◌+◌, List, [], ◌∷◌, ◌++◌, Bool, cond, map, ap, sym, ◌∙◌, arith}
use Rattle.std.proofs.lemmas.List.{map-append, map-id}
use Rattle.std.proofs.lemmas.List.FromFn.{map-range_with_len_more, sum_by-map-range_with_len_more}
use Rattle.std.specs.List.{range_with_len, count_by}
use Rattle.rh_model.specs.ClusterView.{app_numbered}
use Rattle.rh_model.specs.declared.node.App.{App}

pub map_more_apps : {X : Type 0} (f : App → X) (n : ℕ)
    → map f (map app_numbered (range_with_len 0 (n + 1))) ≡ map f (map app_numbered (range_with_len 0 n)) ++ f (app_numbered n) ∷ []
map_more_apps f n =
    ap (λ (apps : List App). map f apps) (map-range_with_len_more app_numbered 0 n n (omega arith))
    ∙ map-append f (map app_numbered (range_with_len 0 n)) (app_numbered n ∷ [])

pub count_more : (p : ℕ → Bool) (n : ℕ) → count_by p (range_with_len 0 (n + 1)) ≡ count_by p (range_with_len 0 n) + cond (p n) 1 0
count_more p n =
    ap (λ (xs : List ℕ). count_by p xs) (sym (map-id (range_with_len 0 (n + 1))))
    ∙ sum_by-map-range_with_len_more (λ (x : ℕ). cond (p x) 1 0) (λ (x : ℕ). x) 0 n n (omega arith)
    ∙ ap (λ (xs : List ℕ). count_by p xs + cond (p n) 1 0) (map-id (range_with_len 0 n))
