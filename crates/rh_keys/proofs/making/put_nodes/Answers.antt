use Rattle.std.proofs.Common.{ℕ, ◌++◌, [], List, map, ap, sym, ◌∙◌, arith}
use Rattle.std.specs.List.{flat_map, range_with_len}
use Rattle.std.proofs.lemmas.List.FromFn.{map-range_with_len_more}
use Rattle.rh_model.specs.ClusterView.{numbered}
use Rattle.rh_model.specs.declared.node.Node.{Node}
use Rattle.rh_state.specs.Stored.{read}
use Rattle.rh_keys.specs.Codes.{code, node_room}
use Rattle.rh_keys.specs.Packed.{packed_node}
use Rattle.rh_keys.proofs.KeyCodes.{code_more}
use Rattle.rh_keys.proofs.KeyCells.{more_room}
use Rattle.rh_keys.proofs.making.put_nodes.Goals as goal

pub loop-number-preserved : goal.loop-number-preserved
loop-number-preserved c =
    let s = read c.args.state.now in
    let i = c.loop-number.number in (
      c.put_node-end.ensures.length ∙ c.loop-number.invariant.0,
      more_room i c.loop-number.end c.put_node-end.result (node_room s.cluster) c.loop-number.invariant.1 c.put_node-end.ensures.end,
      c.put_node-end.ensures.bytes
          ∙ ap (λ (t : List ℕ). t ++ code (packed_node s (numbered i))) c.loop-number.invariant.2
          ∙ code_more (packed_node s) [] (map numbered (range_with_len 0 i)) (numbered i)
          ∙ ap (λ (all : List Node). code (flat_map (packed_node s) all)) (sym (map-range_with_len_more numbered 0 i i (omega arith))),
    )
