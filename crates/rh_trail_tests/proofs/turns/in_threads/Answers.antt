use denote.Param.{param}
use denote.Param.Send.{IsSync, sendable, shr_sync}
use denote.Ref.{ShrRef}
use Rattle.std.proofs.alloc.Global.TheSendSync as global
use Rattle.std.proofs.sync.Mutex.TheSendSync as mutex
use Rattle.std.specs.contracts.alloc.Global as Global
use Rattle.std.specs.contracts.sync.Mutex as Mutex
use Rattle.rh_room.proofs.Crossing.{room_send}
use Rattle.rh_room.specs.contracts.room.Room as Room
use Rattle.rh_trail_tests.proofs.turns.Turns.TheSendSync as turns
use Rattle.rh_trail_tests.specs.contracts.turns.Turns as Turns
use Rattle.rh_trail_tests.proofs.turns.in_threads.Goals as goal

-- the closure may be shared by threads, since all that it borrows may
pub map_vec-requires-sync-F : goal.map_vec-requires-sync-F
map_vec-requires-sync-F g c κs within =
    let handle : IsSync (param 0 g.row.R) = c.type_bounds.sync-R in
    let a : (ℓ : _) (κ : _) → IsSync (ShrRef ℓ κ (param 0 g.row.R)) = λ ℓ κ. shr_sync ℓ κ (param 0 g.row.R) handle in
    let b : (ℓ : _) (κ : _) → IsSync (ShrRef ℓ κ Global.the_row) = λ ℓ κ. shr_sync ℓ κ Global.the_row global.the_sync in
    let d : (ℓ : _) (κ : _) → IsSync (ShrRef ℓ κ (Mutex.the_row Room.the_row)) = λ ℓ κ. shr_sync ℓ κ (Mutex.the_row Room.the_row)
    (mutex.the_sync Room.the_row room_send) in
    let e : (ℓ : _) (κ : _) → IsSync (ShrRef ℓ κ Turns.the_row) = λ ℓ κ. shr_sync ℓ κ Turns.the_row turns.the_sync in
    search (a, b, d, e, sendable) depth 64 fits 20000
