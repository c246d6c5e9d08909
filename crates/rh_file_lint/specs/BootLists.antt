-- What nodes boot (app(4), applications; kernel(6), distributed; ours for the boot list).
use Rattle.std.specs.Prelude.{Bool, true, false, not, ◌&&◌, length, filter, find, nat_le, nat_lt, if◌then◌else◌, Option, None}
use Rattle.std.specs.List.{list_any}
use Rattle.rh_model.specs.ClusterView.{ClusterView, boot_of, deps_of, is_platform}
use Rattle.rh_model.specs.declared.node.Node.{Node}
use Rattle.rh_model.specs.declared.node.App.{App}
use Rattle.rh_model.specs.declared.settings.Dep.{Dep}
use Rattle.rh_model.specs.declared.settings.Dep.TheVariants.{Listed, Platform}
use Rattle.rh_model.specs.declared.settings.Restart.{Restart}
use Rattle.rh_model.specs.declared.settings.Restart.TheVariants.{Permanent}
use Rattle.rh_state.specs.Numbers.{nodes_of, same_app}
use Rattle.rh_file_lint.specs.Cluster.{some_node, is_distributed, is_in_list, boots, boots_before}

-- is what an application depends on started when the node comes to it? An application is if the node boots it before, and a
-- platform name if the node has it.
abbrev pub is_met : ClusterView → Node → App → Dep → Bool
is_met c n a (Listed b) = boots_before c n b a
is_met c n a (Platform p) = is_platform c n p

-- the first of the dependencies that isn't met
unfoldable pub first_unmet : ClusterView → Node → App → Option Dep
first_unmet c n a = find (λ (d : Dep). not (is_met c n a d)) (deps_of c a)

-- of an application that the node boots: live it isn't started, then or later
unfoldable pub unmet_dep : ClusterView → Node → App → Option Dep
unmet_dep c n a = if boots c n a then first_unmet c n a else None

-- a distributed application lists the node, which doesn't boot it: live others wait for the node where it is up
unfoldable pub isnt_booted : ClusterView → Node → App → Bool
isnt_booted c n a = is_in_list c a n && not (boots c n a)

abbrev pub is_permanent : Restart → Bool
is_permanent Permanent = true
is_permanent _ = false

abbrev pub boots_permanent : ClusterView → Node → App → Bool
boots_permanent c n a = list_any (λ (e : App × Restart). same_app a e.0 && is_permanent e.1) (boot_of c n)

-- a node boots a distributed application as permanent: its end takes the node down, and live it fails over nowhere
unfoldable pub is_permanent_somewhere : ClusterView → App → Bool
is_permanent_somewhere c a = is_distributed c a && some_node c (λ (n : Node). boots_permanent c n a)

-- two nodes or more boot an application that isn't distributed
unfoldable pub runs_several_times : ClusterView → App → Bool
runs_several_times c a = not (is_distributed c a) && nat_le 2 (length (filter (λ (n : Node). boots c n a) (nodes_of c)))

-- the first node that boots both applications, this one before the other
unfoldable pub first_booting : ClusterView → App → App → Option Node
first_booting c a b = find (λ (n : Node). boots_before c n a b) (nodes_of c)

-- two distributed applications, the first one before the other in the file
abbrev pub is_distributed_pair : ClusterView → App → App → Bool
is_distributed_pair c a b = nat_lt a.0 b.0 && is_distributed c a && is_distributed c b
