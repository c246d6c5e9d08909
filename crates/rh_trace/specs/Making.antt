-- What has to hold for a move to be made (ours).
use Rattle.std.specs.Prelude.{IfSome, ◌≢◌}
use Rattle.rh_model.specs.declared.node.App.{App}
use Rattle.rh_model.specs.declared.node.Node.{Node}
use Rattle.rh_state.specs.Shape.{IsNodeOf, IsAppOf}
use Rattle.rh_state.specs.StateView.{StateView, place_of}
use Rattle.rh_state.specs.declared.status.Place.TheVariants.{Off}
use Rattle.rh_rules.specs.declared.notice.Move.{Move}
use Rattle.rh_rules.specs.declared.notice.Move.TheVariants.{Local, Placement, Takeover}

-- a pair of the cluster that is started
pub record IsStartedPair (s : StateView) (n : Node) (a : App) : Type 0 where
  pub node : IsNodeOf s.cluster n
  pub app : IsAppOf s.cluster a
  pub started : place_of s n a ≢ Off

-- a move names nodes and applications of the cluster, and what it moves is started
abbrev pub CanBeMade : StateView → Move → Type 0
CanBeMade s (Local n a) = IsStartedPair s n a
CanBeMade s (Placement a from n) = IsStartedPair s n a × IfSome from (IsNodeOf s.cluster)
CanBeMade s (Takeover a m n) = IsStartedPair s n a × IsStartedPair s m a × (m.0 ≢ n.0)
