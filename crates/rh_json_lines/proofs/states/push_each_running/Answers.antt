use Rattle.std.proofs.Common.{List, ◌∙◌}
use Rattle.rh_model.specs.declared.node.App.{App}
use Rattle.rh_state.specs.StateView.{running_at}
use Rattle.rh_state.specs.Stored.{read}
use Rattle.rh_state.proofs.ListWalks.{behind_running}
use Rattle.rh_json_text.specs.Json.{behind_comma}
use Rattle.rh_json_lines.specs.Reports.{running_json}
use Rattle.rh_calls.proofs.Walks.{is_there, walk_begins, walk_goes_on, walk_ends, walk_shortens}
use Rattle.rh_json_lines.proofs.states.push_each_running.Goals as goal

pub running-init : goal.running-init
running-init c =
    let s = read c.args.state.now in
    walk_begins s.cluster (behind_comma (running_json s c.args.node)) (running_at s c.args.node) c.args.out.now.items c.first_running-next.result
    c.first_running-next.ensures.first c.first_running-next.ensures.number

pub running-preserved : goal.running-preserved
running-preserved c =
    let s = read c.args.state.now in
    let n = c.args.node in
    let a = c.in-Some.app in
    let apps : List App = running_at s n in
    let there = is_there s.cluster (behind_comma (running_json s n)) apps c.args.out.now.items c.running.out.items
    c.running.next c.running.invariant a c.in-Some.is in
    walk_goes_on s.cluster (behind_comma (running_json s n)) apps c.args.out.now.items c.running.out.items
    c.running.next c.running.invariant a c.in-Some.is
    (c.formed.ensures.once.running n) _ c.next_in_list-next.result c.in_ok-push_running.ensures
    (c.next_in_list-next.ensures.next ∙ behind_running s n a there) c.next_in_list-next.ensures.number

pub running-smaller : goal.running-smaller
running-smaller c =
    let s = read c.args.state.now in
    let n = c.args.node in
    let a = c.in-Some.app in
    let apps : List App = running_at s n in
    let there = is_there s.cluster (behind_comma (running_json s n)) apps c.args.out.now.items c.running.out.items
    c.running.next c.running.invariant a c.in-Some.is in
    walk_shortens s.cluster (behind_comma (running_json s n)) apps c.args.out.now.items c.running.out.items
    c.running.next c.running.invariant a c.in-Some.is
    (c.formed.ensures.once.running n) c.next_in_list-next.result (c.next_in_list-next.ensures.next ∙ behind_running s n a there)

pub returns : goal.returns
returns c =
    let s = read c.args.state.now in
    walk_ends s.cluster (behind_comma (running_json s c.args.node)) (running_at s c.args.node) c.args.out.now.items c.running.out.items c.running.next
    c.running.invariant c.in_default.is
