use denote.Param.{param}
use Rattle.std.proofs.Common.{ℕ, ◌<◌, length, get_or, sym, subst, arith, rules}
use denote.Ref.{ShrRef}
use denote.Slice.{ShrSlice}
use denote.Param.Send.{IsSync, sendable, shr_sync, shr_slice_sync}
use Rattle.std.specs.contracts.alloc.Global as Global
use Rattle.std.specs.contracts.sync.Mutex as Mutex
use Rattle.rh_room.specs.contracts.room.Room as Room
use Rattle.rh_script.specs.contracts.session_lines.Command as Command
use Rattle.std.proofs.alloc.Global.TheSendSync as global
use Rattle.std.proofs.sync.Mutex.TheSendSync as mutex
use Rattle.rh_script.proofs.session_lines.Command.TheSendSync as command
use Rattle.rh_room.proofs.Crossing.{room_send}
use Rattle.rh_room.specs.Legal.{PassView}
use Rattle.rh_app.specs.declared.sessions.threads.Ended.{Ended}
use Rattle.rh_app.proofs.Workers.{Worked, served_if}
use Rattle.rh_app.proofs.sessions.threads.in_threads.Goals as goal

pub map_vec-requires-sync-F : goal.map_vec-requires-sync-F
map_vec-requires-sync-F g c κs within =
    let handle : IsSync (param 0 g.row.T) = c.type_bounds.sync-T in
    let a : (ℓ : _) (κ : _) → IsSync (ShrRef ℓ κ (param 0 g.row.T)) = λ ℓ κ. shr_sync ℓ κ (param 0 g.row.T) handle in
    let b : (ℓ : _) (κ : _) → IsSync (ShrRef ℓ κ Global.the_row) = λ ℓ κ. shr_sync ℓ κ Global.the_row global.the_sync in
    let d : (ℓ : _) (κ : _) → IsSync (ShrRef ℓ κ (Mutex.the_row Room.the_row)) = λ ℓ κ. shr_sync ℓ κ (Mutex.the_row Room.the_row)
    (mutex.the_sync Room.the_row room_send) in
    let e : (ℓ : _) (κ : _) → IsSync (ShrSlice ℓ κ Command.the_row) = λ ℓ κ. shr_slice_sync ℓ κ Command.the_row command.the_sync in
    search (a, b, d, e, sendable) depth 64 fits 20000

pub returns : goal.returns
returns g c =
    let commands = c.args.commands.now in
    let given = c.args.passes.items in
    let ended = c.in_ok-ended.ended.items in
    let each : (i : ℕ) (e : Ended) (p : PassView) → i < length given → Worked commands (get_or given i p) (get_or ended i e) = λ i e p within.
    let k = (c.in_ok-ended.ensures.each i e within).1 in
    let worked : Worked commands k.job (get_or ended i e) = search rules in
    subst (λ q. Worked commands q (get_or ended i e)) (sym (k.job_is p)) worked in
    served_if (λ passes. passes.items) commands given ended c.passes_of.result (omega (arith, c.in_ok-ended.ensures.len)) each c.passes_of.ensures.passes
    c.passes_of.ensures.fine
