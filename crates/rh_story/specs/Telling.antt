-- What a story tells of a simulation, by whatever rules that answers (ours).
use Rattle.std.specs.Prelude.{ℕ, List}
use Rattle.rh_model.specs.ClusterView.{ClusterView}
use Rattle.rh_calls.specs.declared.call.Call.{Call}

-- where V is all that its rules know of the simulation
pub record Telling (V : Type 0) : Type 0 where
  -- its cluster
  pub cluster : V → ClusterView
  -- what stands behind the command of a call
  pub told : V → Call → List ℕ
  -- the simulation behind the call
  pub behind : V → Call → V
  -- what stands behind the last line, where the text before it lacks so much of its end
  pub ending : List ℕ → V → List ℕ
