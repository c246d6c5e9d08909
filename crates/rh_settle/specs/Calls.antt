-- Which pairs can call an application away (Distributed Applications, Takeover; ours).
use Rattle.std.specs.Prelude.{Bool, false}
use Rattle.rh_model.specs.ClusterView.{ClusterView, group_of}
use Rattle.rh_model.specs.declared.node.Node.{Node}
use Rattle.rh_model.specs.declared.node.App.{App}
use Rattle.rh_state.specs.declared.status.Standing.{Standing}
use Rattle.rh_state.specs.declared.status.Standing.TheVariants.{Running}
use Rattle.rh_state.specs.StateView.{StateView, standing_of}
use Rattle.rh_rules.specs.declared.notice.Pair.{Pair}
use Rattle.rh_rules.specs.Moves.{comes_before}

-- an application runs, at a node whose group comes behind that of this one
abbrev pub runs_behind : ClusterView → App → Node → Standing → Bool
runs_behind c a n (Running m) = comes_before (group_of c a n) (group_of c a m)
runs_behind c a n _ = false

-- a fresh pair calls its application away from there, if it can run at the pair's node
unfoldable pub can_call : StateView → Pair → Bool
can_call s p = runs_behind s.cluster p.app p.node (standing_of s p.app)
