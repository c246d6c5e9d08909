use Rattle.std.proofs.Common.{◌∙◌, List, Result, Ok, map, sym, ap}
use Rattle.std.proofs.lemmas.Result.{err_from_is_err_and}
use Rattle.rh_terms.specs.declared.fault.TermFault.{TermFault}
use Rattle.rh_base.specs.declared.term.Term.{Term}
use Rattle.rh_base.specs.Tree.{Trees, tree_of, trees_of}
use Rattle.rh_cluster.proofs.Exact.{read_gives, no_terms}
use Rattle.rh_cluster.proofs.reading.read_cluster.Goals as goal

pub returns-in_err-terms : goal.returns-in_err-terms
returns-in_err-terms c =
    let p = err_from_is_err_and c.from_residual.result c.from_residual.ensures.1 in
    rw (p.1, p.2) (record { exact = λ n m. no_terms c.args.bytes.now c.in_err-terms.field-0.0 c.in_err-terms.ensures m })

pub returns : goal.returns
returns c =
    let ok : List Term → Result Trees TermFault = λ us. Ok (trees_of us) in
    record {
      exact = read_gives c.args.bytes.now (map tree_of c.as_slice-terms.result.now) (map tree_of c.behind_profile.result.now) c.profile_of.result
          c.cluster_in.result (c.in_ok-terms.ensures ∙ ap ok (sym c.as_slice-terms.ensures)) c.profile_of.ensures.profile c.behind_profile.ensures
          c.cluster_in.ensures.faults c.cluster_in.ensures.cluster;
    }
