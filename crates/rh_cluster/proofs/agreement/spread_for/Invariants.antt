use Rattle.std.proofs.Common.{◌≡◌, drop}
use Rattle.rh_cluster.specs.Values.{spread_for}
use Rattle.rh_cluster.proofs.agreement.spread_for.Given as goal

abbrev pub invariant-loop-share : goal.invariant-loop-share
invariant-loop-share l = spread_for (drop l.share-index l.shares) l.app ≡ spread_for l.shares l.app
