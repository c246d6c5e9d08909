-- By which rules the commands of a script are answered (ours).
use Rattle.std.specs.Prelude.{ℕ, List}
use Rattle.rh_model.specs.ClusterView.{ClusterView}
use Rattle.rh_calls.specs.declared.call.Call.{Call}

-- what a rehearsal is by its rules, where V is all that these know of it
pub record Rules (V : Type 0) : Type 0 where
  -- its cluster
  pub cluster : V → ClusterView
  -- the answer to a call, as text
  pub answer : V → Call → List ℕ
  -- the rehearsal behind the call
  pub behind : V → Call → V
  -- its report, as text
  pub report : V → List ℕ
