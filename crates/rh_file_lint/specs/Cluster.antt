-- Words for what a cluster file says of nodes and applications.
use Rattle.std.specs.Prelude.{ℕ, Bool, false, List, [], position, Option, Some, is_some, unwrap_or, nat_lt}
use Rattle.std.specs.List.{list_any}
use Rattle.std.specs.Option.{option_map}
use Rattle.rh_model.specs.ClusterView.{ClusterView, boot_of, spread_of, group_of}
use Rattle.rh_model.specs.declared.node.Node.{Node}
use Rattle.rh_model.specs.declared.node.App.{App}
use Rattle.rh_model.specs.declared.settings.Restart.{Restart}
use Rattle.rh_model.specs.declared.settings.Spread.{Spread}
use Rattle.rh_state.specs.Numbers.{nodes_of, apps_of, same_app}

-- does it hold of some node, or of some application?
unfoldable pub some_node : ClusterView → (Node → Bool) → Bool
some_node c holds = list_any holds (nodes_of c)

unfoldable pub some_app : ClusterView → (App → Bool) → Bool
some_app c holds = list_any holds (apps_of c)

-- an application is distributed where a node's `distributed` names it (kernel(6), distributed)
abbrev pub is_distributed : ClusterView → App → Bool
is_distributed c a = is_some (spread_of c a)

-- the groups of its list, those that it prefers first
abbrev pub groups_of : ClusterView → App → List (List Node)
groups_of c a = unwrap_or (option_map (λ (s : Spread). s.groups) (spread_of c a)) []

-- it is distributed, and its list has the node
abbrev pub is_in_list : ClusterView → App → Node → Bool
is_in_list c a n = is_some (group_of c a n)

-- the place of an application in a node's boot list, if it is there
abbrev pub boot_place : ClusterView → Node → App → Option ℕ
boot_place c n a = position (λ (e : App × Restart). same_app a e.0) (boot_of c n)

-- does the node boot it?
abbrev pub boots : ClusterView → Node → App → Bool
boots c n a = is_some (boot_place c n a)

-- does one place come before another one, where both are there?
abbrev pub comes_before : Option ℕ → Option ℕ → Bool
comes_before (Some i) (Some j) = nat_lt i j
comes_before _ _ = false

-- does the node boot both, the first one before the other?
abbrev pub boots_before : ClusterView → Node → App → App → Bool
boots_before c n a b = comes_before (boot_place c n a) (boot_place c n b)
