use Rattle.std.proofs.Common.{◌≡◌, ◌≤◌, map, take, length, fold}
use Rattle.rh_base.specs.Tree.{tree_of}
use Rattle.rh_model.specs.declared.limits.TheConstants.{MAX_PLATFORMS}
use Rattle.rh_cluster.specs.Shapes.{atoms}
use Rattle.rh_cluster.specs.Values.{with_first_name}
use Rattle.rh_cluster.proofs.gathering.add_all_first.Given as goal

abbrev pub invariant-loop-term : goal.invariant-loop-term
invariant-loop-term l = record {
  names : l.names ≡ fold with_first_name l.initial.names (atoms (map tree_of (take l.term-index l.terms)));
  few : length l.initial.names ≤ MAX_PLATFORMS → length l.names ≤ MAX_PLATFORMS;
}
