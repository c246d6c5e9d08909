use Rattle.std.proofs.Common.{◌≡◌, drop}
use Rattle.rh_cluster_lint.specs.Hints.{skip_lines}
use Rattle.rh_cluster_lint.proofs.hints.skip_lines.Given as goal

abbrev pub invariant-loop-at : goal.invariant-loop-at
invariant-loop-at l = skip_lines l.count l.text ≡ skip_lines l.left (drop l.at l.text)
