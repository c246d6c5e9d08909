use denote.Param.Send.{IsSync, sendable, shr_sync}
use denote.Ref.{ShrRef}
use Rattle.std.proofs.Common.{◌≡◌, ◌<◌, ◌≤◌, ◌*◌, ℕ, List, length, map, get_or, IfOk, rules, subst, arith}
use Rattle.std.proofs.alloc.Global.TheSendSync as global
use Rattle.std.specs.contracts.alloc.Global as Global
use Rattle.rh_otp_sim.specs.contracts.sim.LiveSim as LiveSim
use Rattle.rh_plans.specs.declared.plan.Plan.{Plan}
use Rattle.rh_otp_sweep.specs.Outcomes.{outcome_of}
use Rattle.rh_otp_sweep.proofs.Crossing.{live_sim_sync}
use Rattle.rh_otp_sweep.proofs.Shares.{Part, IsShare, all_are_shared, shares_join, joined_is}
use Rattle.rh_otp_sweep.proofs.crew.sweep_in_threads.Goals as goal

-- all that the threads borrow they may share
pub map_chunks-requires-sync-F : goal.map_chunks-requires-sync-F
map_chunks-requires-sync-F g c κs within =
    let a : (ℓ : _) (κ : _) → IsSync (ShrRef ℓ κ Global.the_row) = λ ℓ κ. shr_sync ℓ κ Global.the_row global.the_sync in
    let b : (ℓ : _) (κ : _) → IsSync (ShrRef ℓ κ LiveSim.the_row) = λ ℓ κ. shr_sync ℓ κ LiveSim.the_row live_sim_sync in
    search (a, b, sendable) depth 64 fits 20000

pub returns : goal.returns
returns g c =
    let f = outcome_of c.args.base.now in
    let plans = c.args.plans.now in
    let size = c.share.result in
    let parts = c.in_ok-parts.parts.items in
    let enough : length plans ≤ length parts * size =
    all_are_shared (length plans) (length parts) size c.share.ensures.some (omega (arith, c.in_ok-parts.ensures.len, c.in_ok-parts.parts.ok.0)) in
    let each : (n : ℕ) (d : Part) → n < length parts → IsShare f size plans n (get_or parts n d) = λ n d inside.
    let k = (c.in_ok-parts.ensures.each n d inside).1 in
    let one : IfOk (get_or parts n d) (λ v. v.items ≡ map f k.argument.now) = search rules in
    subst (λ (ps : List Plan). IfOk (get_or parts n d) (λ v. v.items ≡ map f ps)) k.argument_is.value one in
    joined_is (map f plans) parts c.joined.result c.joined.ensures.whole c.joined.ensures.all
    (λ whole. shares_join f size plans parts enough whole each)
