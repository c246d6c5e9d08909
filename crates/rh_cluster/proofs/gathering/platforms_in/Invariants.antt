use Rattle.std.proofs.Common.{◌≡◌, ◌≤◌, map, take, length, fold}
use Rattle.std.specs.Prelude.{flat_map}
use Rattle.rh_base.specs.Tree.{tree_of}
use Rattle.rh_model.specs.declared.limits.TheConstants.{MAX_PLATFORMS}
use Rattle.rh_cluster.specs.Values.{with_platforms, platform_in_term}
use Rattle.rh_cluster.proofs.gathering.platforms_in.Given as goal

abbrev pub invariant-loop-term : goal.invariant-loop-term
invariant-loop-term l = record {
  names : l.platforms ≡ fold with_platforms l.initial.platforms (flat_map platform_in_term (map tree_of (take l.term-index l.terms)));
  few : length l.initial.platforms.first ≤ MAX_PLATFORMS → length l.platforms.first ≤ MAX_PLATFORMS;
}
