use Rattle.std.proofs.Common.{◌≡◌, take, false}
use Rattle.std.specs.List.{list_any}
use Rattle.rh_model.specs.ClusterView.{is_in}
use Rattle.rh_settle.proofs.calls.comes_before.Given as goal

-- neither node is in one of the groups so far
abbrev pub invariant-groups : goal.invariant-groups
invariant-groups l = record {
  node : list_any (is_in l.node) (take l.group-index l.groups) ≡ false;
  other : list_any (is_in l.other) (take l.group-index l.groups) ≡ false;
}
