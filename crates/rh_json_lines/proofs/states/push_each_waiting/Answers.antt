use Rattle.std.proofs.Common.{List, ◌∙◌}
use Rattle.rh_model.specs.declared.node.App.{App}
use Rattle.rh_state.specs.StateView.{waiting_at}
use Rattle.rh_state.specs.Stored.{read}
use Rattle.rh_state.proofs.ListWalks.{behind_waiting}
use Rattle.rh_json_text.specs.Json.{behind_comma}
use Rattle.rh_json_lines.specs.Reports.{waiting_json}
use Rattle.rh_calls.proofs.Walks.{is_there, walk_begins, walk_goes_on, walk_ends, walk_shortens}
use Rattle.rh_json_lines.proofs.states.push_each_waiting.Goals as goal

pub waiting-init : goal.waiting-init
waiting-init c =
    let s = read c.args.state.now in
    walk_begins s.cluster (behind_comma (waiting_json s c.args.node)) (waiting_at s c.args.node) c.args.out.now.items c.first_waiting-next.result
    c.first_waiting-next.ensures.first c.first_waiting-next.ensures.number

pub waiting-preserved : goal.waiting-preserved
waiting-preserved c =
    let s = read c.args.state.now in
    let n = c.args.node in
    let a = c.in-Some.app in
    let apps : List App = waiting_at s n in
    let there = is_there s.cluster (behind_comma (waiting_json s n)) apps c.args.out.now.items c.waiting.out.items
    c.waiting.next c.waiting.invariant a c.in-Some.is in
    walk_goes_on s.cluster (behind_comma (waiting_json s n)) apps c.args.out.now.items c.waiting.out.items
    c.waiting.next c.waiting.invariant a c.in-Some.is
    (c.formed.ensures.once.waiting n) _ c.next_in_list-next.result c.in_ok-push_waiting.ensures
    (c.next_in_list-next.ensures.next ∙ behind_waiting s n a c.formed.ensures.once there) c.next_in_list-next.ensures.number

pub waiting-smaller : goal.waiting-smaller
waiting-smaller c =
    let s = read c.args.state.now in
    let n = c.args.node in
    let a = c.in-Some.app in
    let apps : List App = waiting_at s n in
    let there = is_there s.cluster (behind_comma (waiting_json s n)) apps c.args.out.now.items c.waiting.out.items
    c.waiting.next c.waiting.invariant a c.in-Some.is in
    walk_shortens s.cluster (behind_comma (waiting_json s n)) apps c.args.out.now.items c.waiting.out.items
    c.waiting.next c.waiting.invariant a c.in-Some.is
    (c.formed.ensures.once.waiting n) c.next_in_list-next.result (c.next_in_list-next.ensures.next ∙ behind_waiting s n a c.formed.ensures.once there)

pub returns : goal.returns
returns c =
    let s = read c.args.state.now in
    walk_ends s.cluster (behind_comma (waiting_json s c.args.node)) (waiting_at s c.args.node) c.args.out.now.items c.waiting.out.items c.waiting.next
    c.waiting.invariant c.in_default.is
