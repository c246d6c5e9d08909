use denote.Param.{param}
use denote.Ref.{ShrRef}
use denote.Slice.{ShrSlice}
use denote.Param.Send.{IsSync, sendable, shr_sync, shr_slice_sync, param_sync}
use Rattle.std.specs.contracts.alloc.Global as Global
use Rattle.std.proofs.alloc.Global.TheSendSync as global
use Rattle.rh_trail.specs.contracts.sim.Sim as Sim
use Rattle.rh_trail.proofs.Crossing.{sim_sync}
use Rattle.rh_plans.specs.contracts.plan.Plan as Plan
use Rattle.rh_plans.proofs.plan.Plan.TheSendSync as plan
use Rattle.rh_sweep.proofs.workers.parts_of.Lts as lts
use Rattle.rh_sweep.proofs.workers.parts_of.Goals as goal

-- the closure may be shared by threads, since all that it borrows may
pub map_indices-parts-requires-sync-F : goal.map_indices-parts-requires-sync-F
map_indices-parts-requires-sync-F g c κs within =
    let handle : IsSync (param 0 g.row.R) = c.type_bounds.sync-R in
    let gate : IsSync (param 1 g.row.G) = c.type_bounds.sync-G in
    let a : (ℓ : _) (κ : _) → IsSync (ShrRef ℓ κ (param 0 g.row.R)) = λ ℓ κ. shr_sync ℓ κ (param 0 g.row.R) handle in
    let b : (ℓ : _) (κ : _) → IsSync (ShrRef ℓ κ (param 1 g.row.G)) = λ ℓ κ. shr_sync ℓ κ (param 1 g.row.G) gate in
    let d : (ℓ : _) (κ : _) → IsSync (ShrRef ℓ κ Global.the_row) = λ ℓ κ. shr_sync ℓ κ Global.the_row global.the_sync in
    let e : (ℓ : _) (κ : _) → IsSync (ShrRef ℓ κ Sim.the_row) = λ ℓ κ. shr_sync ℓ κ Sim.the_row sim_sync in
    let f : (ℓ : _) (κ : _) → IsSync (ShrSlice ℓ κ Plan.the_row) = λ ℓ κ. shr_slice_sync ℓ κ Plan.the_row plan.the_sync in
    let all : IsSync (lts.arg-1-3 g.row.R g.row.G g.R.laws g.G.laws g.R.Threads-dict g.R.Wait-dict g.G.Gate-dict κs) =
    search (a, b, d, e, f, sendable) depth 64 fits 20000 in
    param_sync 3 _ all
