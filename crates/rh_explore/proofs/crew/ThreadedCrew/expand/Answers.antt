use denote.Param.Send.{IsSync, sendable, shr_sync}
use denote.Ref.{ShrRef}
use Rattle.std.proofs.Common.{rules, ◌<◌, ℕ, length, get_or, sym, subst, arith}
use Rattle.std.proofs.Crossing.{crosses}
use Rattle.std.specs.contracts.alloc.Global as Global
use Rattle.std.proofs.alloc.Global.TheSendSync as global
use Rattle.rh_explore.specs.contracts.search.Search as Search
use Rattle.rh_explore.specs.contracts.worker.Known as Known
use Rattle.rh_explore.specs.Exploring.{scope_of}
use Rattle.rh_explore.specs.Families.{knowing, ExpandsSo}
use Rattle.rh_explore.proofs.Crossing.{family_send, expansion_send, search_sync, known_sync}
use Rattle.rh_explore.proofs.Pieces.{Piece, Part, CameOf, all_came, joined_came}
use Rattle.rh_explore.proofs.crew.ThreadedCrew.expand.Goals as goal

-- threads may share the host
pub map_vec-requires-sync-R : goal.map_vec-requires-sync-R
map_vec-requires-sync-R g c κs within = let ready = c.requires.ready in search sendable depth 20

-- a piece may be handed to a thread, and what comes of it may be handed back
pub map_vec-requires-send-J : goal.map_vec-requires-send-J
map_vec-requires-send-J g c κs within = search (family_send, crosses, sendable) depth 60 fits 20000

pub map_vec-requires-send-X : goal.map_vec-requires-send-X
map_vec-requires-send-X g c κs within = search (expansion_send, crosses, sendable) depth 60 fits 20000

-- all that the threads borrow they may share
pub map_vec-requires-sync-F : goal.map_vec-requires-sync-F
map_vec-requires-sync-F g c κs within =
    let a : (ℓ : _) (κ : _) → IsSync (ShrRef ℓ κ Global.the_row) = λ ℓ κ. shr_sync ℓ κ Global.the_row global.the_sync in
    let b : (ℓ : _) (κ : _) (l : _) → IsSync (ShrRef ℓ κ (Search.the_row l)) = λ ℓ κ l. shr_sync ℓ κ (Search.the_row l) (search_sync l) in
    let d : (ℓ : _) (κ : _) (l : _) → IsSync (ShrRef ℓ κ (Known.the_row l)) = λ ℓ κ l. shr_sync ℓ κ (Known.the_row l) (known_sync l) in
    search (a, b, d, sendable) depth 64 fits 20000

pub returns : goal.returns
returns g c =
    let s = c.args.search.now in
    let R = ExpandsSo (scope_of s) s.asks.now (knowing c.args.known.now) in
    let pieces = c.args.pieces.items in
    let parts = c.in_ok-parts.parts.items in
    let each : (i : ℕ) (p : Piece) (r : Part) → i < length pieces → CameOf R s.pick (get_or pieces i p) (get_or parts i r) = λ i p r within.
    let k = (c.in_ok-parts.ensures.each i r within).1 in
    let one : CameOf R s.pick k.job (get_or parts i r) = search rules in
    subst (λ (q : Piece). CameOf R s.pick q (get_or parts i r)) (sym (k.job_is p)) one in
    joined_came R s.pick pieces parts c.join_parts.result c.join_parts.ensures.whole c.join_parts.ensures.all
    (λ whole. all_came R s.pick pieces parts (omega (arith, c.in_ok-parts.ensures.len, c.in_ok-parts.parts.ok.0, c.args.pieces.ok.0)) whole each)
