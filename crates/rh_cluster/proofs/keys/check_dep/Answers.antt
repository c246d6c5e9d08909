use Rattle.std.proofs.Common.{Some, sym, ap, ◌∙◌}
use Rattle.std.proofs.lemmas.Result.{err_from_is_err_and}
use Rattle.rh_cluster.proofs.Unrepeated.{not_repeated, word_not_memory}
use Rattle.rh_cluster.proofs.keys.check_dep.Goals as goal

pub add-requires : goal.add-requires
add-requires c = sym c.contains.ensures ∙ not_repeated _ _ _ c.in_ok-check_word.ensures

pub returns-in_err-check_word-clause-last : goal.returns-in_err-check_word-clause-last
returns-in_err-check_word-clause-last c =
    let p = err_from_is_err_and c.from_residual-in_err-check_word.result c.from_residual-in_err-check_word.ensures.1 in
    rw (p.1, p.2) (λ m. absurd (word_not_memory _ _ _ (c.in_err-check_word.ensures ∙ ap Some m)))
