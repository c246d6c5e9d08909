use Rattle.std.proofs.Common.{◌≡◌, drop}
use Rattle.std.specs.List.{list_all}
use Rattle.rh_cluster_lint.specs.Hints.{is_mark_byte}
use Rattle.rh_cluster_lint.proofs.hints.has_mark_bytes.Given as goal

abbrev pub invariant-loop-at : goal.invariant-loop-at
invariant-loop-at l = list_all is_mark_byte l.line ≡ list_all is_mark_byte (drop l.at l.line)
