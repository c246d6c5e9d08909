use Rattle.std.proofs.Common.{◌+◌, ◌++◌, ◌∷◌, [], List, map, ap, sym, ◌∙◌, arith}
use Rattle.std.proofs.lemmas.List.FromFn.{map-range_with_len_more}
use Rattle.std.specs.List.{range_with_len}
use Rattle.rh_room.specs.Legal.{new_pass, PassView}
use Rattle.rh_room.proofs.opening.new_passes.Goals as goal

pub loop-before-preserved : goal.loop-before-preserved
loop-before-preserved c =
    let n = c.loop-before.before in
    c.in_ok-push.ensures.items
    ∙ ap (λ (ps : List PassView). ps ++ c.in_ok-pass.pass ∷ []) c.loop-before.invariant
    ∙ ap (λ (p : PassView). map new_pass (range_with_len 1 n) ++ p ∷ []) c.in_ok-pass.ensures
    ∙ sym (map-range_with_len_more new_pass 1 n (n + 1) (omega arith))
