use Rattle.std.proofs.Common.{◌≡◌, ◌+◌, ◌-◌, ℕ, true, refl, ap, ◌∙◌, arith}
use Rattle.std.specs.Option.{option_map}
use Rattle.rh_model.specs.ClusterView.{ClusterView, app_count}
use Rattle.rh_model.specs.declared.node.App.{App}
use Rattle.rh_state.specs.Lists.{has_app, next_app}
use Rattle.rh_state.specs.Pairs.{app_of_pair}
use Rattle.rh_state.specs.StateView.{waiting_at}
use Rattle.rh_state.specs.Stored.{read}
use Rattle.rh_state.proofs.ListWalks.{behind_waiting}
use Rattle.rh_keys.proofs.KeyCells.{put_begins, put_there, put_within, put_goes_on, put_shortens, put_bytes}
use Rattle.rh_keys.proofs.parts.put_waiting.Goals as goal

pub waiting-init : goal.waiting-init
waiting-init c =
    let s = read c.args.state.now in
    put_begins s.cluster c.args.node (waiting_at s c.args.node) c.args.at c.args.cells.now c.first_waiting_pair-next.result
    c.first_waiting_pair-next.ensures.first c.first_waiting_pair-next.ensures.pair

pub bounds-cells-end : goal.bounds-cells-end
bounds-cells-end c =
    let s = read c.args.state.now in
    put_within s.cluster c.args.node (waiting_at s c.args.node) c.args.at c.args.cells.now c.waiting.end c.waiting.cells c.waiting.next c.waiting.invariant
    c.in-Some.pair c.in-Some.is (c.formed.ensures.once.waiting c.args.node) c.requires.room

pub waiting-smaller : goal.waiting-smaller
waiting-smaller c =
    let s = read c.args.state.now in
    let n = c.args.node in
    let a : App = app_of_pair s.cluster n c.in-Some.pair in
    let there : has_app (waiting_at s n) a ≡ true = put_there s.cluster n (waiting_at s n) c.args.at c.args.cells.now c.waiting.end c.waiting.cells c.waiting.next
    c.waiting.invariant c.in-Some.pair c.in-Some.is in
    let behind : option_map (app_of_pair s.cluster n) c.next_pair-next.result ≡ next_app (waiting_at s n) a = c.next_pair-next.ensures.next ∙ behind_waiting s n a c.formed.ensures.once there in
    put_shortens s.cluster n (waiting_at s n) c.args.at c.args.cells.now c.waiting.end c.waiting.cells c.waiting.next c.waiting.invariant
    c.in-Some.pair c.in-Some.is (c.formed.ensures.once.waiting n) c.next_pair-next.result behind

pub waiting-preserved : goal.waiting-preserved
waiting-preserved c =
    let s = read c.args.state.now in
    let n = c.args.node in
    let p = c.in-Some.pair in
    let a : App = app_of_pair s.cluster n p in
    let there : has_app (waiting_at s n) a ≡ true = put_there s.cluster n (waiting_at s n) c.args.at c.args.cells.now c.waiting.end c.waiting.cells c.waiting.next
    c.waiting.invariant p c.in-Some.is in
    let behind : option_map (app_of_pair s.cluster n) c.next_pair-next.result ≡ next_app (waiting_at s n) a = c.next_pair-next.ensures.next ∙ behind_waiting s n a c.formed.ensures.once there in
    let count = c.app_count-apps.ensures.count ∙ ap (λ (d : ClusterView). app_count d) c.cluster.ensures in
    let limit = c.app_count-apps.ensures.limit in
    let byte : p - c.pairs_before-before.result + 1 ≡ a.0 + 1 = ap (λ (k : ℕ). p - k + 1) c.pairs_before-before.ensures in
    put_goes_on s.cluster n (waiting_at s n) c.args.at c.args.cells.now c.waiting.end c.waiting.cells c.waiting.next c.waiting.invariant
    p c.in-Some.is (c.formed.ensures.once.waiting n) (omega (arith, count, limit)) c.requires.room
    (p - c.pairs_before-before.result + 1) (c.waiting.end + 1) c.next_pair-next.result byte refl behind c.next_pair-next.ensures.pair

pub returns-clause-bytes : goal.returns-clause-bytes
returns-clause-bytes c =
    let s = read c.args.state.now in
    put_bytes s.cluster c.args.node (waiting_at s c.args.node) c.args.at c.args.cells.now c.waiting.end c.waiting.cells c.waiting.next c.waiting.invariant c.in_default.is
