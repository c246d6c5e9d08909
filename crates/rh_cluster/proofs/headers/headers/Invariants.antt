use Rattle.std.proofs.Common.{◌≡◌, ◌≤◌, [], map, take, length}
use Rattle.rh_base.specs.Tree.{tree_of}
use Rattle.rh_model.specs.declared.limits.TheConstants.{MAX_NODES, MAX_APPS}
use Rattle.rh_cluster.specs.Faults.{in_turn}
use Rattle.rh_cluster.specs.Headers.{header_faults, node_names, app_names}
use Rattle.rh_cluster.proofs.headers.headers.Given as goal

abbrev pub invariant-loop-term : goal.invariant-loop-term
invariant-loop-term l = record {
  passed : in_turn (λ earlier t. header_faults l.profile (node_names earlier) (app_names earlier) t) [] (map tree_of (take l.term-index l.terms)) ≡ [];
  nodes : l.nodes ≡ node_names (map tree_of (take l.term-index l.terms));
  apps : l.apps ≡ app_names (map tree_of (take l.term-index l.terms));
  few_nodes : length l.nodes ≤ MAX_NODES;
  few_apps : length l.apps ≤ MAX_APPS;
}
