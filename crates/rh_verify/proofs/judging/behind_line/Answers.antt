use Rattle.std.proofs.Common.{◌≡◌, ◌≢◌, ◌++◌, List, ℕ, codes, subst}
use Rattle.std.specs.Option.{MatchOption}
use Rattle.std.proofs.lemmas.Option.{MatchOption-at_some, MatchOption-at_none}
use Rattle.std.proofs.lemmas.Bool.Decides.{Decides-eqb}
use Rattle.std.proofs.lemmas.Slice.Eq.{strip_prefix_is}
use Rattle.rh_verify.proofs.Joined.{behind_both, nothing_behind}
use Rattle.rh_verify.proofs.judging.behind_line.Goals as goal

pub returns-in-Some : goal.returns-in-Some
returns-in-Some c =
    let rest = c.in-Some.rest.now in
    behind_both c.args.text.now c.args.line.now (codes "\n") rest c.strip_prefix-in-Some.result
    (MatchOption-at_some _ _ c.in-Some.rest c.in-Some.is (strip_prefix_is Decides-eqb c.args.text.now c.args.line.now c.strip_prefix.result c.strip_prefix.ensures.cases))
    (subst (λ (end : List ℕ). MatchOption c.strip_prefix-in-Some.result ((after : List ℕ) → rest ≢ end ++ after) (λ x. rest ≡ end ++ x.now)) c.as_slice.ensures
    (strip_prefix_is Decides-eqb rest c.as_slice.result.now c.strip_prefix-in-Some.result c.strip_prefix-in-Some.ensures.cases))

pub returns-in-None : goal.returns-in-None
returns-in-None c =
    nothing_behind c.args.text.now c.args.line.now (codes "\n")
    (MatchOption-at_none _ _ c.in-None.is (strip_prefix_is Decides-eqb c.args.text.now c.args.line.now c.strip_prefix.result c.strip_prefix.ensures.cases))
