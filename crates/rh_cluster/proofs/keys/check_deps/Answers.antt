use Rattle.std.proofs.Common.{◌≡◌, ◌∙◌, ◌++◌, ◌∷◌, [], ℕ, List, map, take, sym, ap}
use Rattle.std.proofs.lemmas.List.Elements.{filter_map-append}
use Rattle.std.proofs.lemmas.Result.{err_from_is_err_and}
use Rattle.rh_base.specs.Tree.{tree_of}
use Rattle.rh_model.specs.Names.{NamesView}
use Rattle.rh_cluster.specs.Shapes.{as_atom, atoms}
use Rattle.rh_cluster.specs.Sections.{dep_faults}
use Rattle.rh_cluster.proofs.InTurn.{FaultsOfEach, passes, list_fails}
use Rattle.rh_base.proofs.Elements.{map-take_more}
use Rattle.rh_cluster.proofs.keys.check_deps.Goals as goal

abbrev faults_of : NamesView → List (List ℕ) → List ℕ → FaultsOfEach
faults_of names platforms own earlier t = dep_faults names platforms own (atoms earlier) t

pub returns-in_err-check_dep : goal.returns-in_err-check_dep
returns-in_err-check_dep c =
    let faults = faults_of c.args.names.now c.args.platforms.now c.args.own.now in
    let inv = c.loop-term.invariant in
    let p = err_from_is_err_and c.from_residual.result c.from_residual.ensures.1 in
    rw (p.1, p.2) (λ n.
    list_fails faults c.in-Some.terms.now c.loop-term.term-index c.term-item.result c.loop-term-test.true c.term-item.is
    _ c.in_err-check_dep.field-0.0 c.in-Some.ensures inv.passed (rw (← inv.earlier) (c.in_err-check_dep.ensures.faults n)))

pub loop-term-preserved : goal.loop-term-preserved
loop-term-preserved c =
    let faults = faults_of c.args.names.now c.args.platforms.now c.args.own.now in
    let terms = c.in-Some.terms.now in
    let index = c.loop-term.term-index in
    let term = c.term-item.result in
    let before = map tree_of (take index terms) in
    let inv = c.loop-term.invariant in
    let done = c.in_ok-check_dep.ensures in
    let more = map-take_more tree_of terms index term c.loop-term-test.true c.term-item.is in
    let here : faults before (tree_of term) ≡ [] = rw (← inv.earlier) done.faults in
    record {
      passed = passes faults terms index term c.loop-term-test.true c.term-item.is inv.passed here;
      earlier =
          done.earlier ∙ (λ i. inv.earlier i ++ atoms (tree_of term ∷ []))
          ∙ sym (ap atoms more ∙ filter_map-append as_atom before (tree_of term ∷ []));
    }
