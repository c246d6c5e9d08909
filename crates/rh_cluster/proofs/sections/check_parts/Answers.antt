use Rattle.std.proofs.Common.{◌≡◌, ◌∙◌, ◌+◌, true, sym, ap, subst, arith}
use Rattle.std.specs.Option.{option_map, option_or}
use Rattle.std.specs.Borrow.{Bor}
use Rattle.std.proofs.lemmas.Bool.{eqb-true}
use Rattle.std.proofs.lemmas.Result.{err_from_is_err_and}
use Rattle.rh_base.specs.declared.term.Term.{Term}
use Rattle.rh_base.specs.Tree.{Tree, tree_of}
use Rattle.rh_cluster.specs.Sections.{IsFaultless, parts_faults, parts_stage}
use Rattle.rh_cluster.specs.Values.{distributed_of}
use Rattle.rh_cluster.specs.Common.{IsNoOther, AreAlike}
use Rattle.rh_cluster.proofs.InTurn.{passes, fails}
use Rattle.rh_cluster.proofs.Faultless.{latest}
use Rattle.rh_cluster.proofs.NoOther.{one_more, of_latest, map_or}
use Rattle.rh_cluster.proofs.sections.check_parts.Goals as goal
use Rattle.rh_cluster.proofs.sections.check_parts.Goals.{then-is_alike, else-is_alike}

pub returns-in_err-check_term-clause-faults : goal.returns-in_err-check_term-clause-faults
unfolding parts_stage
returns-in_err-check_term-clause-faults c =
    let p = err_from_is_err_and c.from_residual.result c.from_residual.ensures.1 in
    let f = c.in_err-check_term.field-0.0 in
    rw (p.1, p.2) (λ n. fails (λ _ t. parts_faults c.args.names.now c.args.platforms.now t) c.args.terms.now c.loop-index.index c.index-terms-index.result
    c.loop-index-test.true c.index-terms-index.is f c.loop-index.invariant.before (c.in_err-check_term.ensures n))

pub loop-index-preserved : goal.loop-index-preserved
loop-index-preserved c =
    let t = c.index-terms-index.result in
    let ts = c.args.terms.now in
    let tree : Bor Term → Tree = λ u. tree_of u.now in
    let common = option_map tree c.first_filled-common.result in
    let own = distributed_of (tree_of t) in
    let before = option_map tree c.loop-index.passed in
    let is_alike = c.is_still_alike-is_alike.result in
    let now : option_map tree c.or-passed.result ≡ option_or own before =
    ap (option_map tree) c.or-passed.ensures ∙ map_or tree c.distributed_of-value.result c.loop-index.passed
    ∙ ap (λ o. option_or o before) c.distributed_of-value.ensures in
    let front : is_alike ≡ true → c.loop-index.alike ≡ c.loop-index.index =
    (λ yes. eqb-true c.loop-index.alike c.loop-index.index (c.is_still_alike-is_alike.ensures.before yes)) in
    let this : is_alike ≡ true → IsNoOther common own =
    (λ yes. subst (IsNoOther common) c.distributed_of-value.ensures (c.is_still_alike-is_alike.ensures.this yes)) in
    let more : is_alike ≡ true → AreAlike (c.loop-index.index + 1) ts =
    (λ yes. one_more c.loop-index.index ts t (subst (λ n. AreAlike n ts) (front yes) c.loop-index.invariant.alike)
    c.loop-index-test.true c.index-terms-index.is (subst (λ o. IsNoOther o own) c.first_filled-common.ensures (this yes))) in
    record {
      before = passes (λ _ u. parts_faults c.args.names.now c.args.platforms.now u) ts c.loop-index.index t
          c.loop-index-test.true c.index-terms-index.is c.loop-index.invariant.before c.in_ok-check_term.ensures;
      passed = subst (IsFaultless c.args.names.now) (sym now)
          (latest c.args.names.now c.args.platforms.now (tree_of t) before c.in_ok-check_term.ensures c.loop-index.invariant.passed);
      few = elim c.if-is_alike.branch [
        | then-is_alike w ↦ omega (arith, w.alike-is)
        | else-is_alike w ↦ omega (arith, w.alike-is, c.loop-index.invariant.few)
      ];
      alike = elim c.if-is_alike.branch [
        | then-is_alike w ↦ subst (λ n. AreAlike n ts) (sym w.alike-is) (more w.if-is_alike.true)
        | else-is_alike w ↦ subst (λ n. AreAlike n ts) (sym w.alike-is) c.loop-index.invariant.alike
      ];
      latest = λ all. elim c.if-is_alike.branch [
        | then-is_alike w ↦ subst (IsNoOther common) (sym now)
            (of_latest common own before (this w.if-is_alike.true) (c.loop-index.invariant.latest (front w.if-is_alike.true)))
        | else-is_alike w ↦ absurd (omega (arith, all, w.alike-is, c.loop-index.invariant.few))
      ];
    }
