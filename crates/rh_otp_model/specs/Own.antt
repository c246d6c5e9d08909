-- What a live node reads in its own configuration (kernel(6), `distributed`).
use Rattle.std.specs.Prelude.{ℕ, List, Bool, ◌==◌, ◌&&◌}
use Rattle.std.specs.List.{list_any}
use Rattle.rh_model.specs.declared.node.Node.{Node}
use Rattle.rh_model.specs.declared.node.App.{App}

-- a place of an application's list: a node, or a tuple of nodes that rank alike
pub record WrittenView : Type 0 where
  pub is_tuple : Bool
  pub nodes : List Node

-- an application's entry
pub record EntryView : Type 0 where
  pub app : App
  pub timeout : ℕ
  pub places : List WrittenView

-- what the node's own `distributed` says, where it has one: without one it has no dist_ac
pub record OwnView : Type 0 where
  pub has_dist : Bool
  pub entries : List EntryView

-- does its dist_ac control the application?
abbrev pub controls : OwnView → App → Bool
controls own a = own.has_dist && list_any (λ (e : EntryView). e.app.0 == a.0) own.entries
