use Rattle.std.proofs.Common.{◌≡◌, ◌++◌, map}
use Rattle.std.specs.List.{flat_map, range_with_len}
use Rattle.std.specs.Option.{option_map, option_to_list}
use Rattle.rh_model.specs.declared.node.App.{App}
use Rattle.rh_model.specs.ClusterView.{app_numbered}
use Rattle.rh_file_lint.specs.declared.finding.FileFinding.TheVariants.{BootBeforeDependency}
use Rattle.rh_file_lint.specs.BootLists.{unmet_dep}
use Rattle.rh_file_lint.proofs.at_nodes.tell_boots_before_dependency.Given as goal

abbrev pub invariant-loop-number : goal.invariant-loop-number
invariant-loop-number l = l.found.items ≡ l.fn.found.items ++ flat_map (λ (a : App). option_to_list (option_map (BootBeforeDependency l.node a) (unmet_dep l.cluster l.node a))) (map app_numbered (range_with_len 0 l.number))
