use Rattle.std.proofs.Common.{◌≡◌, drop}
use Rattle.std.specs.List.{list_all}
use Rattle.rh_model.specs.ClusterView.{is_in}
use Rattle.rh_cluster.proofs.agreement.are_in.Given as goal

abbrev pub invariant-loop-node : goal.invariant-loop-node
invariant-loop-node l = list_all (λ n. is_in n l.those) (drop l.node-index l.these) ≡ list_all (λ n. is_in n l.those) l.these
