use Rattle.std.proofs.Common.{◌≡◌, ◌++◌, ◌∷◌, ℕ, List, take, ap, sym, ◌∙◌, arith}
use Rattle.std.specs.List.{flat_map}
use Rattle.std.proofs.lemmas.List.{length-set}
use Rattle.rh_trace.proofs.FewStarted.{few_started}
use Rattle.rh_state.specs.Numbers.{apps_of}
use Rattle.rh_state.specs.StateView.{running_at, waiting_at, mode_of}
use Rattle.rh_state.specs.Stored.{read}
use Rattle.rh_keys.specs.Codes.{code}
use Rattle.rh_keys.specs.Keys.{mode_number, app_number}
use Rattle.rh_keys.specs.Packed.{packed_pair, packed_node}
use Rattle.rh_keys.proofs.KeyCells.{mode_small, node_code, node_put}
use Rattle.rh_keys.proofs.parts.put_node.Goals as goal

pub put_running-running-requires-clause-room : goal.put_running-running-requires-clause-room
put_running-running-requires-clause-room c =
    let apps = few_started (read c.args.state.now) c.args.node c.formed.ensures.shape c.formed.ensures.once in
    let room = c.requires.room in
    let same = length-set c.args.cells.now c.args.at c.mode_byte.result in
    omega (arith, apps, room, same)

pub bounds-cells-running : goal.bounds-cells-running
bounds-cells-running c =
    let apps = few_started (read c.args.state.now) c.args.node c.formed.ensures.shape c.formed.ensures.once in
    let room = c.requires.room in
    let same = length-set c.args.cells.now c.args.at c.mode_byte.result in
    let long = c.put_running-running.ensures.length in
    let end = c.put_running-running.ensures.end in
    omega (arith, apps, room, same, long, end)

pub overflow_add-running : goal.overflow_add-running
overflow_add-running c =
    let apps = few_started (read c.args.state.now) c.args.node c.formed.ensures.shape c.formed.ensures.once in
    let room = c.requires.room in
    let same = length-set c.args.cells.now c.args.at c.mode_byte.result in
    let long = c.put_running-running.ensures.length in
    let end = c.put_running-running.ensures.end in
    omega (arith, apps, room, same, long, end)

pub put_waiting-waiting-requires-clause-room : goal.put_waiting-waiting-requires-clause-room
put_waiting-waiting-requires-clause-room c =
    let apps = few_started (read c.args.state.now) c.args.node c.formed.ensures.shape c.formed.ensures.once in
    let room = c.requires.room in
    let same = length-set c.args.cells.now c.args.at c.mode_byte.result in
    let long = c.put_running-running.ensures.length in
    let end = c.put_running-running.ensures.end in
    let then = length-set c.put_running-running.new.cells c.put_running-running.result 0 in
    omega (arith, apps, room, same, long, end, then)

pub bounds-cells-waiting : goal.bounds-cells-waiting
bounds-cells-waiting c =
    let apps = few_started (read c.args.state.now) c.args.node c.formed.ensures.shape c.formed.ensures.once in
    let room = c.requires.room in
    let same = length-set c.args.cells.now c.args.at c.mode_byte.result in
    let long = c.put_running-running.ensures.length in
    let end = c.put_running-running.ensures.end in
    let then = length-set c.put_running-running.new.cells c.put_running-running.result 0 in
    let longer = c.put_waiting-waiting.ensures.length in
    let last = c.put_waiting-waiting.ensures.end in
    omega (arith, apps, room, same, long, end, then, longer, last)

pub overflow_add-waiting : goal.overflow_add-waiting
overflow_add-waiting c =
    let apps = few_started (read c.args.state.now) c.args.node c.formed.ensures.shape c.formed.ensures.once in
    let room = c.requires.room in
    let same = length-set c.args.cells.now c.args.at c.mode_byte.result in
    let long = c.put_running-running.ensures.length in
    let end = c.put_running-running.ensures.end in
    let then = length-set c.put_running-running.new.cells c.put_running-running.result 0 in
    let longer = c.put_waiting-waiting.ensures.length in
    let last = c.put_waiting-waiting.ensures.end in
    omega (arith, apps, room, same, long, end, then, longer, last)

pub put_pairs-requires-clause-room : goal.put_pairs-requires-clause-room
put_pairs-requires-clause-room c =
    let apps = few_started (read c.args.state.now) c.args.node c.formed.ensures.shape c.formed.ensures.once in
    let room = c.requires.room in
    let same = length-set c.args.cells.now c.args.at c.mode_byte.result in
    let long = c.put_running-running.ensures.length in
    let end = c.put_running-running.ensures.end in
    let then = length-set c.put_running-running.new.cells c.put_running-running.result 0 in
    let longer = c.put_waiting-waiting.ensures.length in
    let last = c.put_waiting-waiting.ensures.end in
    let again = length-set c.put_waiting-waiting.new.cells c.put_waiting-waiting.result 0 in
    omega (arith, apps, room, same, long, end, then, longer, last, again)

pub returns-clause-end : goal.returns-clause-end
returns-clause-end c =
    let apps = few_started (read c.args.state.now) c.args.node c.formed.ensures.shape c.formed.ensures.once in
    let end = c.put_running-running.ensures.end in
    let last = c.put_waiting-waiting.ensures.end in
    let pairs = c.put_pairs.ensures.end in
    omega (arith, apps, end, last, pairs)

pub returns-clause-bytes : goal.returns-clause-bytes
unfolding packed_node
returns-clause-bytes c =
    let s = read c.args.state.now in
    let n = c.args.node in
    let head : List ℕ = take c.args.at c.args.cells.now in
    let runs : List ℕ = flat_map app_number (running_at s n) in
    let waits : List ℕ = flat_map app_number (waiting_at s n) in
    let pairs : List ℕ = flat_map (packed_pair s n) (apps_of s.cluster) in
    let apps = few_started s n c.formed.ensures.shape c.formed.ensures.once in
    let room = c.requires.room in
    let same = length-set c.args.cells.now c.args.at c.mode_byte.result in
    let long = c.put_running-running.ensures.length in
    let end = c.put_running-running.ensures.end in
    let then = length-set c.put_running-running.new.cells c.put_running-running.result 0 in
    let longer = c.put_waiting-waiting.ensures.length in
    let last = c.put_waiting-waiting.ensures.end in
    let mode : c.mode_byte.result ≡ mode_number (mode_of s n) = c.mode_byte.ensures ∙ ap mode_number c.mode.ensures in
    node_put c.args.cells.now c.args.at c.mode_byte.result c.put_running-running.new.cells c.put_running-running.result
    c.put_waiting-waiting.new.cells c.put_waiting-waiting.result c.put_pairs.new.cells c.put_pairs.result (code runs) (code waits) (code pairs)
    (omega (arith, room)) c.put_running-running.ensures.bytes (omega (arith, apps, room, same, long, end)) c.put_waiting-waiting.ensures.bytes
    (omega (arith, apps, room, same, long, end, then, longer, last)) c.put_pairs.ensures.bytes
    ∙ ap (λ (m : ℕ). head ++ m ∷ ((code runs ++ 0 ∷ code waits) ++ 0 ∷ code pairs)) mode
    ∙ ap (λ (l : List ℕ). head ++ l) (sym (node_code (mode_number (mode_of s n)) runs waits pairs (mode_small (mode_of s n))))
