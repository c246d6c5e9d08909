use Rattle.std.proofs.Common.{◌≡◌, ◌≤◌, [], map, take}
use Rattle.std.specs.Option.{option_map}
use Rattle.rh_base.specs.Tree.{tree_of}
use Rattle.rh_cluster.specs.Faults.{in_turn}
use Rattle.rh_cluster.specs.Sections.{IsFaultless, parts_faults}
use Rattle.rh_cluster.specs.Common.{IsNoOther, AreAlike}
use Rattle.rh_cluster.proofs.sections.check_parts.Given as goal

abbrev pub invariant-loop-index : goal.invariant-loop-index
invariant-loop-index l = record {
  before : in_turn (λ _ t. parts_faults l.names l.platforms t) [] (map tree_of (take l.index l.terms)) ≡ [];
  passed : IsFaultless l.names (option_map (λ t. tree_of t.now) l.passed);
  few : l.alike ≤ l.index;
  alike : AreAlike l.alike l.terms;
  latest : l.alike ≡ l.index → IsNoOther (option_map (λ t. tree_of t.now) l.common) (option_map (λ t. tree_of t.now) l.passed);
}
