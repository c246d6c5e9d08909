use Rattle.std.proofs.Common.{◌≡◌, drop}
use Rattle.std.specs.List.{list_any, list_all}
use Rattle.rh_cluster.specs.Agreement.{same_share}
use Rattle.rh_cluster.proofs.agreement.has_shares.Given as goal

abbrev pub invariant-loop-share : goal.invariant-loop-share
invariant-loop-share l = list_all (λ s. list_any (same_share s) l.those) (drop l.share-index l.these) ≡ list_all (λ s. list_any (same_share s) l.those) l.these
