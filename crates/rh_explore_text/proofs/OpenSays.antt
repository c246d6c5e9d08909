-- An event with another name asks the same command, which is given that name in place of its own.
use Rattle.std.proofs.Common.{◌≡◌, true}
use Rattle.std.specs.Prelude.{is_some}
use Rattle.rh_model.specs.declared.node.Node.{Node}
use Rattle.rh_model.specs.declared.node.App.{App}
use Rattle.rh_rules.specs.declared.event.Event.{Event}
use Rattle.rh_rules.specs.declared.event.Event.TheVariants.{Boot}
use Rattle.rh_calls.specs.declared.call.Call.TheVariants as call
use Rattle.rh_script.specs.Forms.{said, with_node, with_app}
use Rattle.rh_explore_text.specs.OpenEvents.{command_of, given_to, node_in, app_in, at_node, at_app}

pub node_said : (e : Event) (n : Node) → is_some (node_in e) ≡ true
    → said (call.Step (at_node e n)) ≡ (command_of e, with_node (given_to e) n)
node_said (Boot m) n has = cc
node_said _ n has = cc

pub app_said : (e : Event) (a : App) → is_some (app_in e) ≡ true
    → said (call.Step (at_app e a)) ≡ (command_of e, with_app (given_to e) a)
app_said (Boot m) a has = cc
app_said _ a has = cc
