use Rattle.std.proofs.Common.{◌≡◌, map, drop}
use Rattle.std.specs.List.{list_any}
use Rattle.rh_base.specs.Tree.{tree_of}
use Rattle.rh_cluster.specs.Sections.{has_key}
use Rattle.rh_cluster.proofs.entries.repeats_key.Given as goal

abbrev pub invariant-loop-term : goal.invariant-loop-term
invariant-loop-term l = list_any (has_key l.key) (map tree_of (drop l.term-index l.earlier)) ≡ list_any (has_key l.key) (map tree_of l.earlier)
