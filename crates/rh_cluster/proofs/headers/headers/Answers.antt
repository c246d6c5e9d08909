use Rattle.std.proofs.Common.{◌≡◌, ◌∙◌, ◌++◌, ◌∷◌, [], ℕ, List, map, take, sym, ap, refl, arith}
use Rattle.std.proofs.lemmas.Result.{err_from_is_err_and}
use Rattle.rh_base.specs.Tree.{Tree, tree_of}
use Rattle.rh_cluster.specs.declared.fault.ClusterFault.{ClusterFault}
use Rattle.rh_cluster.specs.Headers.{header_faults, node_names, app_names, headers_stage}
use Rattle.rh_cluster.proofs.OneHeader.{node_names-append, app_names-append}
use Rattle.rh_cluster.proofs.InTurn.{passes, fails, trees_more, first-append}
use Rattle.rh_cluster.proofs.headers.headers.Goals as goal

abbrev faults_of : ℕ → List Tree → Tree → List ClusterFault
faults_of profile earlier t = header_faults profile (node_names earlier) (app_names earlier) t

pub loop-term-init : goal.loop-term-init
unfolding node_names app_names
loop-term-init c = record {
  passed = refl;
  nodes = c.new-nodes.ensures;
  apps = c.new-apps.ensures;
  few_nodes = rw c.new-nodes.ensures (omega arith);
  few_apps = rw c.new-apps.ensures (omega arith);
}

pub returns-in_err-add_header-clause-faults : goal.returns-in_err-add_header-clause-faults
unfolding headers_stage
returns-in_err-add_header-clause-faults c =
    let p = err_from_is_err_and c.from_residual.result c.from_residual.ensures.1 in
    rw (p.1, p.2) (λ n.
    first-append _ _ c.in_err-add_header.field-0.0
    (fails (faults_of c.args.profile) c.args.terms.now c.loop-term.term-index c.term-item.result c.loop-term-test.true c.term-item.is
    c.in_err-add_header.field-0.0 c.loop-term.invariant.passed
    (rw (← c.loop-term.invariant.nodes, ← c.loop-term.invariant.apps) (c.in_err-add_header.ensures.faults n))))

pub loop-term-preserved : goal.loop-term-preserved
loop-term-preserved c =
    let before = map tree_of (take c.loop-term.term-index c.args.terms.now) in
    let inv = c.loop-term.invariant in
    let done = c.in_ok-add_header.ensures in
    let more = trees_more (faults_of c.args.profile) [] c.args.terms.now c.loop-term.term-index c.term-item.result c.loop-term-test.true c.term-item.is in
    let here : header_faults c.args.profile (node_names before) (app_names before) (tree_of c.term-item.result) ≡ [] = rw (← inv.nodes, ← inv.apps) done.faults in
    record {
      passed = passes (faults_of c.args.profile) c.args.terms.now c.loop-term.term-index c.term-item.result c.loop-term-test.true c.term-item.is inv.passed here;
      nodes =
          done.nodes ∙ (λ i. inv.nodes i ++ node_names (tree_of c.term-item.result ∷ []))
          ∙ sym (ap node_names more ∙ node_names-append before (tree_of c.term-item.result));
      apps =
          done.apps ∙ (λ i. inv.apps i ++ app_names (tree_of c.term-item.result ∷ []))
          ∙ sym (ap app_names more ∙ app_names-append before (tree_of c.term-item.result));
      few_nodes = done.few_nodes inv.few_nodes;
      few_apps = done.few_apps inv.few_apps;
    }
