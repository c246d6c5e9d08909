use Rattle.std.proofs.Common.{◌≡◌, ◌<◌, ◌++◌, [], length, reverse, slice_get, unwrap_or, Some}
use Rattle.rh_explore.specs.Kept.{paths_of}
use Rattle.rh_explore.proofs.paths.path_to.Given as goal

abbrev pub invariant-back : goal.invariant-back
invariant-back l = record {
  within : l.at < length l.found;
  path : slice_get (paths_of l.found) l.number ≡ Some (unwrap_or (slice_get (paths_of l.found) l.at) [] ++ reverse l.path.items);
}

abbrev pub decreases-back : goal.decreases-back
decreases-back l = l.at
