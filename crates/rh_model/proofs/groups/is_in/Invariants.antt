use Rattle.std.proofs.Common.{◌≡◌, drop}
use Rattle.rh_model.specs.ClusterView.{is_in}
use Rattle.rh_model.proofs.groups.is_in.Given as goal

abbrev pub invariant-loop-other : goal.invariant-loop-other
invariant-loop-other l = is_in l.node (drop l.other-index l.group) ≡ is_in l.node l.group
