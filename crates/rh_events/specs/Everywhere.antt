-- What the code does at each node in turn, where a chapter of the rules speaks of all nodes (ours).
use Rattle.std.specs.Prelude.{if◌then◌else◌}
use Rattle.rh_model.specs.declared.node.App.{App}
use Rattle.rh_model.specs.declared.node.Node.{Node}
use Rattle.rh_model.specs.declared.settings.Restart.{Restart}
use Rattle.rh_rules.specs.Course.{Course}
use Rattle.rh_rules.specs.Everywhere.{is_target, start_at}

-- it is started at one node, if it is still to be started there
abbrev pub start_if_target : App → Restart → Course → Node → Course
start_if_target a r o n = if is_target o.state a n then start_at a r o n else o
