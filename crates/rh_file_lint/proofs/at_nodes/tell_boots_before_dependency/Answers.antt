use Rattle.std.specs.Option.{option_map, option_to_list}
use Rattle.rh_model.specs.declared.node.App.{App}
use Rattle.rh_model.specs.ClusterView.{app_numbered}
use Rattle.rh_file_lint.specs.declared.finding.FileFinding.TheVariants.{BootBeforeDependency}
use Rattle.rh_file_lint.specs.BootLists.{unmet_dep}
use Rattle.rh_file_lint.proofs.OneMore.{told_more}
use Rattle.rh_file_lint.proofs.at_nodes.tell_boots_before_dependency.Goals as goal

pub loop-number-preserved : goal.loop-number-preserved
loop-number-preserved c = told_more (λ (a : App). option_to_list (option_map (BootBeforeDependency c.args.node a) (unmet_dep c.args.cluster.now c.args.node a))) app_numbered c.loop-number.number c.args.found.now.items _ _ c.loop-number.invariant (c.in_ok-tell_unmet_dep.ensures)
