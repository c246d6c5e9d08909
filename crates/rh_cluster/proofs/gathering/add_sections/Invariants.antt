use Rattle.std.proofs.Common.{◌≡◌, ◌≤◌, map, take, length, fold}
use Rattle.std.specs.Prelude.{flat_map}
use Rattle.rh_base.specs.Tree.{tree_of}
use Rattle.rh_model.specs.declared.limits.TheConstants.{MAX_PLATFORMS}
use Rattle.rh_cluster.specs.Values.{with_platforms, platform_in_section}
use Rattle.rh_cluster.proofs.gathering.add_sections.Given as goal

abbrev pub invariant-loop-section : goal.invariant-loop-section
invariant-loop-section l = record {
  names : l.platforms ≡ fold with_platforms l.initial.platforms (flat_map platform_in_section (map tree_of (take l.section-index l.sections)));
  few : length l.initial.platforms.first ≤ MAX_PLATFORMS → length l.platforms.first ≤ MAX_PLATFORMS;
}
