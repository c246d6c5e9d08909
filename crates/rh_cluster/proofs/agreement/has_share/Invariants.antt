use Rattle.std.proofs.Common.{◌≡◌, drop}
use Rattle.std.specs.List.{list_any}
use Rattle.rh_cluster.specs.Agreement.{same_share}
use Rattle.rh_cluster.proofs.agreement.has_share.Given as goal

abbrev pub invariant-loop-other : goal.invariant-loop-other
invariant-loop-other l = list_any (same_share l.share) (drop l.other-index l.shares) ≡ list_any (same_share l.share) l.shares
