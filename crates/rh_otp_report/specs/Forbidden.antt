-- Which applications are forbidden at a node, as its own processes know (ours: what a start and a takeover are decided by there).
use Rattle.std.specs.Prelude.{List, [], filter, not, Bool, false, Option, Some, None, if◌then◌else◌}
use Rattle.rh_model.specs.ClusterView.{ClusterView}
use Rattle.rh_model.specs.declared.node.App.{App}
use Rattle.rh_model.specs.declared.node.Node.{Node}
use Rattle.rh_otp_controller.specs.Calls.{is_forbidden}
use Rattle.rh_otp_dist.specs.State.{DistView, may_run}
use Rattle.rh_otp_model.specs.declared.wait.OwnFile.{OwnFile}
use Rattle.rh_otp_model.specs.Own.{controls}
use Rattle.rh_otp_model.specs.Rows.{keyfind}
use Rattle.rh_otp_node.specs.Live.{LiveView, is_alive}
use Rattle.rh_state.specs.Numbers.{apps_of}

-- does a node with this file have a dist_ac that controls the application?
abbrev pub controls_by : Option OwnFile → App → Bool
controls_by None a = false
controls_by (Some f) a = controls f.own a

-- the node's dist_ac, if that controls the application
abbrev pub dist_of : Option OwnFile → LiveView → App → Option DistView
dist_of file v a = if controls_by file a then v.dist else None

-- by that dist_ac's own permissions; without one by those of the node's controller
abbrev pub is_forbidden_by : Option DistView → Node → LiveView → App → Bool
is_forbidden_by (Some d) n v a = not (may_run d n a)
is_forbidden_by None n v a = is_forbidden (keyfind a v.controller.permissions)

-- is the application forbidden at the node?
abbrev pub is_forbidden_at : Option OwnFile → Node → LiveView → App → Bool
is_forbidden_at file n v a = is_forbidden_by (dist_of file v a) n v a

-- what is forbidden at a node that is alive, in the order of the file
abbrev pub forbidden_at : ClusterView → Option OwnFile → Node → LiveView → List App
forbidden_at c file n v = if is_alive v then filter (is_forbidden_at file n v) (apps_of c) else []
