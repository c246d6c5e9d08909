use Rattle.std.proofs.Common.{◌≡◌, ◌++◌, drop}
use Rattle.rh_cluster_lint.specs.Blame.{narrowed}
use Rattle.rh_cluster_lint.proofs.blame.way_from.Given as goal

abbrev pub invariant-loop-index : goal.invariant-loop-index
invariant-loop-index l =
    narrowed l.cut l.text l.code l.fn.found l.depths ≡ l.steps.items ++ narrowed l.cut l.text l.code l.next (drop l.index l.depths)
