-- What a call leaves as it was.
use Rattle.std.proofs.Common.{◌≡◌, ap}
use Rattle.rh_calls.specs.declared.call.Call.{Call}
use Rattle.rh_trail.specs.SimView.{SimView}
use Rattle.rh_trail.specs.Lone.{served}
use Rattle.rh_trail.proofs.Bases.{base-served}

-- a call leaves the cluster
pub served_keeps_cluster : (s : SimView) (call : Call) → (served s call).sim.cluster ≡ s.cluster
served_keeps_cluster s call = ap (λ (v : SimView). v.cluster) (base-served s call)
