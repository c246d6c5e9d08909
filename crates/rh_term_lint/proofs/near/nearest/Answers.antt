use Rattle.std.proofs.Common.{◌∙◌, refl, sym, ap, map, take, Bor, List, ℕ}
use Rattle.rh_term_lint.specs.Near.{nearest}
use Rattle.rh_term_lint.proofs.Fewest.{map_more}
use Rattle.rh_term_lint.proofs.near.nearest.Goals as goal

pub loop-name-init : goal.loop-name-init
unfolding nearest
loop-name-init c = refl

pub loop-name-preserved : goal.loop-name-preserved
loop-name-preserved c =
    c.in_ok-best.ensures (map (λ (name : Bor (List ℕ)). name.now) (take c.loop-name.name-index c.args.known.now)) c.loop-name.invariant
    ∙ ap (nearest c.args.word.now) (sym (map_more (λ (name : Bor (List ℕ)). name.now) c.args.known.now c.loop-name.name-index _ c.loop-name-test.true))
