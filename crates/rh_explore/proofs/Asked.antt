-- What runs at nodes and applications that aren't the cluster's: nothing.
use Rattle.std.proofs.Common.{◌≡◌, ◌≤◌, false, arith}
use Rattle.rh_model.specs.ClusterView.{node_count, app_count}
use Rattle.rh_model.specs.declared.node.Node.{Node}
use Rattle.rh_model.specs.declared.node.App.{App}
use Rattle.rh_state.specs.Shape.{IsShaped}
use Rattle.rh_state.specs.StateView.{StateView, runs_at, waits_at}
use Rattle.rh_base.proofs.Lists.{cases}
use Rattle.rh_trace.proofs.Entries.{row_there}
use Rattle.rh_base.proofs.Truths.{or_left}
use Rattle.rh_trace.proofs.Shapes.{started_within}

pub no_such_node : (s : StateView) (n : Node) (a : App) → IsShaped s → node_count s.cluster ≤ n.0 → runs_at s n a ≡ false
no_such_node s n a shape past = cases (runs_at s n a)
    (λ t. let l = row_there s.running n.0 a t in let long = shape.running in absurd (omega (arith, l, long, past)))
    (λ f. f)

pub no_such_app : (s : StateView) (n : Node) (a : App) → IsShaped s → app_count s.cluster ≤ a.0 → runs_at s n a ≡ false
no_such_app s n a shape past = cases (runs_at s n a)
    (λ t. let l = started_within s n a shape (or_left (runs_at s n a) (waits_at s n a) t) in absurd (omega (arith, l, past)))
    (λ f. f)
