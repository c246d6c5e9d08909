use Rattle.std.proofs.Common.{◌≡◌, ◌+◌, ◌++◌, ◌∷◌, [], ℕ, List, Option, None, Some, get_or, take, sym, ap, ◌∙◌, subst}
use Rattle.std.specs.List.{AllZip}
use Rattle.std.proofs.lemmas.List.{take_more}
use Rattle.std.proofs.lemmas.Option.{slice_get-get_or}
use Rattle.rh_explore.specs.declared.answers.Verdict.{Verdict}
use Rattle.rh_explore.specs.Tellings.{IsTold}
use Rattle.rh_explore.proofs.Zips.{zip_push}
use Rattle.rh_explore.proofs.answers.verdicts_on.Goals as goal

pub verdict_on-requires-clause-within : goal.verdict_on-requires-clause-within
verdict_on-requires-clause-within c = λ i is.
    c.requires.within c.firsts.first-index i (slice_get-get_or c.args.firsts.now c.firsts.first-index None c.firsts-test.true ∙ ap Some is)

pub firsts-preserved : goal.firsts-preserved
firsts-preserved c =
    let firsts : List (Option ℕ) = c.args.firsts.now in
    let i = c.firsts.first-index in
    let first = get_or firsts i None in
    let R : Option ℕ → Verdict → Type 0 = IsTold c.args.found.now in
    let taken : take (i + 1) firsts ≡ take i firsts ++ first ∷ [] = take_more firsts i None c.firsts-test.true in
    let old : List Verdict = c.firsts.verdicts.items in
    subst (λ (xs : List (Option ℕ)). AllZip R xs c.push.new.self.items) (sym taken)
    (subst (λ (vs : List Verdict). AllZip R (take i firsts ++ first ∷ []) vs) (sym c.in_ok-push.ensures.items)
    (zip_push R (take i firsts) old first c.in_ok-verdict.verdict c.firsts.invariant c.in_ok-verdict.ensures))
