-- The words that undo leads to.
use Rattle.std.proofs.Common.{◌≡◌, ℕ, zero, suc, ◌-◌, List, [], ◌∷◌, take, drop, if◌then◌else◌, refl, ap, ◌∙◌, arith}
use Rattle.std.proofs.lemmas.Bool.{le-leb}
use Rattle.rh_state.specs.declared.edit.Edit.{Edit}
use Rattle.rh_state.specs.Stored.{Stored}
use Rattle.rh_trail.specs.Chain.{backs, forths, chain, chain_at}
use Rattle.rh_trail.specs.SimView.{Held}

nothing_left : (c : ℕ) (rs : List (List Edit)) → drop c (take c rs) ≡ []
nothing_left zero rs = refl
nothing_left (suc c) [] = refl
nothing_left (suc c) (r ∷ rs) = nothing_left c rs

words_here : (w : Stored) (rs : List (List Edit)) (c : ℕ) → chain_at w rs c c ≡ w
unfolding chain_at
words_here w rs c =
    ap (λ b. if b then backs w (drop c (take c rs)) else forths w (take (c - c) (drop c rs))) (le-leb c c (omega arith))
    ∙ ap (backs w) (nothing_left c rs)

-- where the cursor is, they are the words themselves
pub chain_here : (s : Held) → chain s s.seen.cursor ≡ s.words
chain_here s = words_here s.words s.records s.seen.cursor
