use Rattle.std.proofs.Common.{◌++◌, ◌∷◌, [], ℕ, List, Option, None, replicate, ap, ◌∙◌, arith}
use Rattle.std.proofs.lemmas.List.{replicate_more}
use Rattle.rh_explore.proofs.space.nothing_fails.Goals as goal

pub asks-preserved : goal.asks-preserved
asks-preserved c =
    c.in_ok-push.ensures.items ∙ ap (λ (l : List (Option ℕ)). l ++ None ∷ []) c.asks.invariant ∙ replicate_more c.asks._number None

pub returns : goal.returns
returns c = c.asks.invariant ∙ ap (λ (n : ℕ). replicate n None) (omega (arith, c.asks.auto._number-end, c.asks-test.false))
