-- What the code asks of each node in turn, where the rules speak of all nodes (ours).
use Rattle.std.specs.Prelude.{Option, None, if◌then◌else◌}
use Rattle.rh_model.specs.declared.node.App.{App}
use Rattle.rh_model.specs.declared.node.Node.{Node}
use Rattle.rh_model.specs.declared.settings.Dep.{Dep}
use Rattle.rh_state.specs.StateView.{StateView}
use Rattle.rh_rules.specs.Everywhere.{is_target}
use Rattle.rh_rules.specs.Placing.{missing_dep}

-- the first that doesn't run at one node, if it is still to be started there
abbrev pub missing_if_target : StateView → App → Node → Option Dep
missing_if_target s a n = if is_target s a n then missing_dep s n a else None
