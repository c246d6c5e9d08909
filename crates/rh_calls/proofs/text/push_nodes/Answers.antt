use Rattle.std.proofs.Common.{ℕ, ◌++◌, List, map, ap, sym, ◌∙◌, arith}
use Rattle.std.specs.List.{flat_map, range_with_len}
use Rattle.std.specs.String.{string_bytes}
use Rattle.std.proofs.lemmas.List.{flat_map_more}
use Rattle.std.proofs.lemmas.List.FromFn.{map-range_with_len_more}
use Rattle.rh_model.specs.ClusterView.{numbered}
use Rattle.rh_model.specs.declared.node.Node.{Node}
use Rattle.rh_state.specs.Stored.{read}
use Rattle.rh_calls.specs.Report.{node_lines}
use Rattle.rh_calls.proofs.text.push_nodes.Goals as goal

pub loop-number-preserved : goal.loop-number-preserved
loop-number-preserved c =
    let s = read c.args.state.now in
    let i = c.loop-number.number in
    let head = string_bytes c.args.text.now in
    c.in_ok-push_node_lines.ensures
    ∙ ap (λ (t : List ℕ). t ++ node_lines s (numbered i)) c.loop-number.invariant
    ∙ flat_map_more (node_lines s) head (map numbered (range_with_len 0 i)) (numbered i)
    ∙ ap (λ (ns : List Node). head ++ flat_map (node_lines s) ns) (sym (map-range_with_len_more numbered 0 i i (omega arith)))
