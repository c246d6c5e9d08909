-- Where local applications can start (app(4), applications; ours).
use Rattle.std.specs.Prelude.{◌≡◌, true}
use Rattle.rh_model.specs.declared.node.Node.{Node}
use Rattle.rh_model.specs.declared.node.App.{App}
use Rattle.rh_state.specs.StateView.{waits_at}
use Rattle.rh_rules.specs.Course.{Course, is_fresh}
use Rattle.rh_rules.specs.Moves.{can_start}

-- a local application that waits and can start is at a pair that was marked
abbrev pub StartsAreMarked : Course → Type 0
StartsAreMarked o = (n : Node) (a : App) → waits_at o.state n a ≡ true → can_start o.state n a ≡ true → is_fresh o.marked n a ≡ true
